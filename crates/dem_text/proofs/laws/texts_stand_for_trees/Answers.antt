use Rattle.dem_text.proofs.ReadLemmas.{written-model, refused-text}
use Rattle.dem_text.proofs.laws.texts_stand_for_trees.Goals as goal

pub returns : goal.returns
returns c = record { model = written-model; refusal = refused-text }
