use Rattle.gate_table.proofs.WordImageLaws.{image_at-product}
use Rattle.gate_table.proofs.PairImageLaws.{image_at_two-product}
use Rattle.gate_table.proofs.laws.word_images_keep_products.Goals as goal

pub returns : goal.returns
returns c = record { one = image_at-product; two = image_at_two-product }
