use Rattle.run_laws.proofs.ShiftedWords.{word_shift, place_shift}
use Rattle.run_laws.proofs.shift.words_of_states_shift_runs.Goals as goal

pub returns : goal.returns
returns c = record { between_steps = word_shift; at_places = place_shift }
