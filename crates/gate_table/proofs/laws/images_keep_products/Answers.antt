use Rattle.gate_table.proofs.Products.{image1-product, image2-product}
use Rattle.gate_table.proofs.laws.images_keep_products.Goals as goal

pub returns : goal.returns
returns c = record { letters = image1-product; pairs = image2-product }
