use Rattle.std.proofs.Common.{length, ap, ◌∙◌}
use Rattle.std.proofs.lemmas.List.{length-replicate}
use Rattle.frames.specs.LaneLetters.{none_at}
use Rattle.frames.proofs.LaneFrameLaws.{at_start, written}
use Rattle.frames.proofs.frames.Frames.restart.Goals as goal

pub returns-clause-start : goal.returns-clause-start
returns-clause-start g c =
    at_start (record { letters = _; flips = _; room = 0 }) _
    (written _ _ _ (ap length c.clear_all.ensures ∙ length-replicate _ none_at ∙ c.deref_mut.ensures.len) ∙ c.clear_all.ensures)
    c.clear.ensures.items
