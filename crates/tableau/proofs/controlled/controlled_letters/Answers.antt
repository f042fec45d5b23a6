use Rattle.std.proofs.Common.{sym, subst}
use Rattle.pauli_word.specs.declared.letter.Letter.TheVariants.{X, Y, Z}
use Rattle.tableau.specs.private.ControlledSteps.{IsControlled}
use Rattle.tableau.proofs.ControlledGates.{CX_is, CY_is, CZ_is, XCX_is, XCY_is, XCZ_is, YCX_is, YCZ_is}
use Rattle.tableau.proofs.controlled.controlled_letters.Goals as goal

pub returns-in-CX : goal.returns-in-CX
returns-in-CX c = subst (λ g. IsControlled g Z X) (sym c.in-CX.is) CX_is

pub returns-in-CY : goal.returns-in-CY
returns-in-CY c = subst (λ g. IsControlled g Z Y) (sym c.in-CY.is) CY_is

pub returns-in-CZ : goal.returns-in-CZ
returns-in-CZ c = subst (λ g. IsControlled g Z Z) (sym c.in-CZ.is) CZ_is

pub returns-in-XCX : goal.returns-in-XCX
returns-in-XCX c = subst (λ g. IsControlled g X X) (sym c.in-XCX.is) XCX_is

pub returns-in-XCY : goal.returns-in-XCY
returns-in-XCY c = subst (λ g. IsControlled g X Y) (sym c.in-XCY.is) XCY_is

pub returns-in-XCZ : goal.returns-in-XCZ
returns-in-XCZ c = subst (λ g. IsControlled g X Z) (sym c.in-XCZ.is) XCZ_is

pub returns-in-YCX : goal.returns-in-YCX
returns-in-YCX c = subst (λ g. IsControlled g Y X) (sym c.in-YCX.is) YCX_is

pub returns-in-YCZ : goal.returns-in-YCZ
returns-in-YCZ c = subst (λ g. IsControlled g Y Z) (sym c.in-YCZ.is) YCZ_is
