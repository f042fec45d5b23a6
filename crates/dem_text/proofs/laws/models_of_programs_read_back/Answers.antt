use Rattle.dem_text.proofs.ProgramLemmas.{fitting_is_writable, fitting_reads_back, hits_read_back}
use Rattle.dem_text.proofs.laws.models_of_programs_read_back.Goals as goal

pub returns : goal.returns
returns c = record { writable = fitting_is_writable; same = fitting_reads_back; of_hits = hits_read_back }
