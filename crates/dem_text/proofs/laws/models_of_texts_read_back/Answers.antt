use Rattle.dem_text.proofs.ReadModelLemmas.{read_is_writable, reads_again}
use Rattle.dem_text.proofs.laws.models_of_texts_read_back.Goals as goal

pub returns : goal.returns
returns c = record { writable = read_is_writable; again = reads_again }
