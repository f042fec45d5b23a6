use Rattle.pauli_word.proofs.Groups.{IsGroup-applied}
use Rattle.pauli_word.proofs.laws.applied_words_keep_group.Goals as goal

pub returns : goal.returns
returns c = IsGroup-applied
