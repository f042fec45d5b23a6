use Rattle.pauli_word.proofs.WordLaws.{length-letters_product}
use Rattle.pauli_word.proofs.laws.products_keep_length.Goals as goal

pub returns : goal.returns
returns c = length-letters_product
