use Rattle.std.proofs.Common.{◌≡◌, length, false, ap, sym, ◌∙◌}
use Rattle.std.proofs.lemmas.List.{length-replicate}
use Rattle.step_model.proofs.RowLemmas.{length-row_of_set}
use Rattle.trackers.specs.private.Held.{bits_of}
use Rattle.trackers.proofs.sparse_set.SparseSetTargetSet.put_ascending.Goals as goal

pub returns-then-would_be_long-clause-len : goal.returns-then-would_be_long-clause-len
returns-then-would_be_long-clause-len g c =
    let long : length c.in-List.list ≡ length c.args.self.now = ap length (ap bits_of (sym c.in-List.is) ∙ (c.self.view_is ∙ c.clear.ensures)) ∙ length-replicate (length c.args.self.now) false in
    ap length c.in_ok-row-in-List.ensures ∙ (length-row_of_set _ _ ∙ long)
