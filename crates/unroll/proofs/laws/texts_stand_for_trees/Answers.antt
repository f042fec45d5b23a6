use Rattle.unroll.proofs.TextLemmas.{program_of_text, refusal_of_text}
use Rattle.unroll.proofs.laws.texts_stand_for_trees.Goals as goal

pub returns : goal.returns
returns c = record { program = program_of_text; refusal = refusal_of_text }
