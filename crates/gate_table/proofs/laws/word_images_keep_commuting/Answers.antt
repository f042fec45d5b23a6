use Rattle.gate_table.proofs.WordImageLaws.{image_at-anticommute}
use Rattle.gate_table.proofs.PairImageLaws.{image_at_two-anticommute}
use Rattle.gate_table.proofs.laws.word_images_keep_commuting.Goals as goal

pub returns : goal.returns
returns c = record { one = image_at-anticommute; two = image_at_two-anticommute }
