use Rattle.run_laws.proofs.ShiftRuns.{frames_shift_runs, same_faults}
use Rattle.run_laws.proofs.shift.frames_shift_runs.Goals as goal

pub returns : goal.returns
returns c = record { shift = frames_shift_runs; same_faults = same_faults }
