use Rattle.dem_text.proofs.MeaningLemmas.{one_model, reads_back}
use Rattle.dem_text.proofs.laws.texts_read_back.Goals as goal

pub returns : goal.returns
returns c = record { same = reads_back; one_model = one_model }
