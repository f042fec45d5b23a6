use Rattle.gate_table.proofs.Identity.{image1-I, image2-I}
use Rattle.gate_table.proofs.laws.images_keep_identity.Goals as goal

pub returns : goal.returns
returns c = record { letter = image1-I; pair = image2-I }
