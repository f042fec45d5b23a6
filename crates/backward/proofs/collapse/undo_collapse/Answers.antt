use Rattle.std.proofs.Common.{length, sym, ◌∙◌}
use Rattle.std.proofs.lemmas.Bool.{eqb-true}
use Rattle.backward.specs.private.Collapses.{reset_at}
use Rattle.backward.proofs.PassWords.{times_none}
use Rattle.backward.proofs.collapse.undo_collapse.Goals as goal

pub returns-then-is_empty : goal.returns-then-is_empty
returns-then-is_empty g c =
    let targets = c.args.targets.now in
    c.clear_reset.ensures
    ∙ sym (times_none targets c.args.terms.now (reset_at c.args.reset (g.T.Tracker.tracked c.args.tracker.now)) (eqb-true (length targets) 0 (sym c.is_empty.ensures ∙ c.if-is_empty.true)))
