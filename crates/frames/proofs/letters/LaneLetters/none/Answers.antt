use Rattle.frames.proofs.LaneLaws.{letter_in-none}
use Rattle.frames.proofs.letters.LaneLetters.none.Goals as goal

pub returns-clause-letters : goal.returns-clause-letters
returns-clause-letters c = letter_in-none
