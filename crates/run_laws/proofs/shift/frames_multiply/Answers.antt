use Rattle.run_laws.proofs.ShiftedWords.{frame_product}
use Rattle.run_laws.proofs.shift.frames_multiply.Goals as goal

pub returns : goal.returns
returns c = frame_product
