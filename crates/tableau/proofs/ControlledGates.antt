-- The controlled gates of which not both letters are Y.
use Rattle.std.proofs.Common.{◌≢◌, refl}
use Rattle.gate_table.specs.declared.gate.Gate.TheVariants as gate
use Rattle.pauli_word.specs.declared.letter.Letter.TheVariants.{X, Y, Z}
use Rattle.tableau.specs.private.ControlledSteps.{IsControlled}

X_not_Y : X ≢ Y
X_not_Y e = cc

Z_not_Y : Z ≢ Y
Z_not_Y e = cc

pub CX_is : IsControlled gate.CX Z X
CX_is = record { own = λ e. absurd (Z_not_Y e); first_X = refl; first_Z = refl; second_X = refl; second_Z = refl }

pub CY_is : IsControlled gate.CY Z Y
CY_is = record { own = λ e. absurd (Z_not_Y e); first_X = refl; first_Z = refl; second_X = refl; second_Z = refl }

pub CZ_is : IsControlled gate.CZ Z Z
CZ_is = record { own = λ e. absurd (Z_not_Y e); first_X = refl; first_Z = refl; second_X = refl; second_Z = refl }

pub XCX_is : IsControlled gate.XCX X X
XCX_is = record { own = λ e. absurd (X_not_Y e); first_X = refl; first_Z = refl; second_X = refl; second_Z = refl }

pub XCY_is : IsControlled gate.XCY X Y
XCY_is = record { own = λ e. absurd (X_not_Y e); first_X = refl; first_Z = refl; second_X = refl; second_Z = refl }

pub XCZ_is : IsControlled gate.XCZ X Z
XCZ_is = record { own = λ e. absurd (X_not_Y e); first_X = refl; first_Z = refl; second_X = refl; second_Z = refl }

pub YCX_is : IsControlled gate.YCX Y X
YCX_is = record { own = λ e. X_not_Y; first_X = refl; first_Z = refl; second_X = refl; second_Z = refl }

pub YCZ_is : IsControlled gate.YCZ Y Z
YCZ_is = record { own = λ e. Z_not_Y; first_X = refl; first_Z = refl; second_X = refl; second_Z = refl }
