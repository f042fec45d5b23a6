-- The image of I is I.
use Rattle.std.proofs.Common.{◌≡◌, refl, false}
use Rattle.pauli_word.specs.declared.letter.Letter.TheVariants.{I}
use Rattle.gate_table.specs.declared.gate.Gate.{Gate}
use Rattle.gate_table.specs.declared.gate.Gate.TheVariants as gate
use Rattle.gate_table.specs.Images.{image1, image2}

pub image1-I : (g : Gate) → image1 g I ≡ (I, false)
image1-I gate.I = refl
image1-I g = refl

pub image2-I : (g : Gate) → image2 g I I ≡ (I, I, false)
image2-I gate.I = refl
image2-I g = refl
