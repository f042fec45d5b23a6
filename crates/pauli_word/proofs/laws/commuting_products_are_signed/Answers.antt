use Rattle.pauli_word.proofs.SignedLaws.{letters_power-commuting, commuting-from_sign}
use Rattle.pauli_word.proofs.laws.commuting_products_are_signed.Goals as goal

pub returns : goal.returns
returns c = record { signed = letters_power-commuting; commuting = commuting-from_sign }
