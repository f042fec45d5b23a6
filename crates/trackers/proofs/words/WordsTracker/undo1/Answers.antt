use Rattle.std.proofs.Common.{map, set, ap, sym, ◌∙◌}
use Rattle.gate_table.specs.declared.gate.Gate.{Gate}
use Rattle.gate_table.specs.declared.gate.Gate.TheVariants.{H}
use Rattle.pauli_word.specs.declared.letter.Letter.TheVariants.{X, Z}
use Rattle.trackers.specs.Tracked.{each_word, undone_one}
use Rattle.trackers.specs.private.Transposed.{tracked_of, combined}
use Rattle.trackers.proofs.LengthLemmas.{lent}
use Rattle.trackers.proofs.TransposedLemmas.{tracked_one}
use Rattle.trackers.proofs.words.WordsTracker.undo1.Goals as goal

pub returns-in-H : goal.returns-in-H
returns-in-H g c =
    let m = c.self.inside.targets in
    let columns = c.self.inside.columns.items in
    let q = c.args.q in
    let at = lent q _ _ c.self.invariant c.self.view_is c.requires.in_range c.index_mut.ensures.value in
    ap (λ column. tracked_of m (set columns q column)) (c.exchange.ensures ∙ ap (map (combined Z X)) at.is)
    ∙ (tracked_one m columns q H at.within at.there ∙ (ap (each_word (undone_one H q)) c.self.view_is ∙ ap (λ (gate : Gate). each_word (undone_one gate q) c.args.self.now) (sym c.in-H.is)))
