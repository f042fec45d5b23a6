use Rattle.gate_table.proofs.Clashes.{image1-clash, image2-clash}
use Rattle.gate_table.proofs.laws.images_keep_clashes.Goals as goal

pub returns : goal.returns
returns c = record { letters = image1-clash; pairs = image2-clash }
