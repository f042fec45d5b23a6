use Rattle.std.proofs.Common.{length, set, ap, ◌∙◌, arith}
use Rattle.trackers.specs.Tracked.{each_word, with_I_at}
use Rattle.trackers.specs.private.Transposed.{tracked_of}
use Rattle.trackers.proofs.LengthLemmas.{lent}
use Rattle.trackers.proofs.TransposedLemmas.{tracked_clear}
use Rattle.trackers.proofs.words.WordsTracker.clear.Goals as goal

pub returns : goal.returns
returns g c =
    let m = c.self.inside.targets in
    let columns = c.self.inside.columns.items in
    let q = c.args.q in
    let column = c.index_mut.result.now in
    let at = lent q column _ c.self.invariant c.self.view_is c.requires c.index_mut.ensures.value in
    ap (λ column. tracked_of m (set columns q column)) c.clear.ensures
    ∙ (tracked_clear m columns q (length column) at.within (omega (arith, at.long)) ∙ ap (each_word (with_I_at q)) c.self.view_is)
