use Rattle.std.proofs.Common.{◌≡◌, ◌<◌, ◌*◌, List, length, map, ap, subst, sym, ◌∙◌}
use Rattle.std.specs.Prelude.{All}
use Rattle.std.proofs.lemmas.List.{with_items_is}
use Rattle.std.proofs.lemmas.Result.{on_ok_weaker}
use Rattle.pauli_word.specs.declared.letter.Letter.{Letter}
use Rattle.trackers.specs.Tracked.{Tracked, restored}
use Rattle.trackers.specs.private.Transposed.{AreRestored, tracked_of}
use Rattle.trackers.proofs.KeptLemmas.{all_long, all_named_below, restored_columns, words_long}
use Rattle.trackers.proofs.words.WordsTracker.restore.Goals as goal

pub restore_columns-requires-clause-named : goal.restore_columns-requires-clause-named
restore_columns-requires-clause-named g c =
    let m = c.self.inside.targets in
    let columns = c.self.inside.columns.items in
    let lists = c.args.lists.now in
    let words = ap (λ (t : Tracked). length t.words) c.self.view_is in
    let named = subst (λ n. All (All (λ t. t < n)) lists) (sym words ∙ words_long m columns) c.requires.named in
    subst (All (λ (column : List Letter). All (All (λ t. t < length column)) lists)) (sym c.as_mut_slice.ensures.value)
    (all_named_below m columns lists c.self.invariant.columns_long named)

pub invariant_of-self : goal.invariant_of-self
invariant_of-self g c =
    let m = c.self.inside.targets in
    let columns = c.self.inside.columns in
    let count = c.restore_columns.auto.columns ∙ c.as_mut_slice.ensures.len in
    let same = c.restore_columns.ensures.long ∙ ap (map length) c.as_mut_slice.ensures.value in
    let long = all_long m columns.items c.restore_columns.new.columns same (c.restore_columns.auto.columns ∙ ap length c.as_mut_slice.ensures.value) c.self.invariant.columns_long in
    record {
      columns_long = subst (All (λ (column : List Letter). length column ≡ m)) (sym (with_items_is columns c.restore_columns.new.columns count)) long;
      first_long = c.self.invariant.first_long;
      second_long = c.self.invariant.second_long;
      set_long = c.self.invariant.set_long;
      spare_long = c.self.invariant.spare_long;
      few = c.self.invariant.few;
    }

pub returns : goal.returns
returns g c =
    let m = c.self.inside.targets in
    let columns = c.self.inside.columns in
    let lists = c.args.lists.now in
    let made = c.restore_columns.new.columns in
    let count = c.restore_columns.auto.columns ∙ c.as_mut_slice.ensures.len in
    let two : length lists ≡ 2 * length columns.items = c.requires.two_each ∙ ap (λ (t : Tracked). 2 * t.qubits) (sym c.self.view_is) in
    on_ok_weaker c.restore_columns.result
    (λ done. ap (tracked_of m) (with_items_is columns made count)
    ∙ (restored_columns m lists columns.items made c.self.invariant.columns_long two (subst (λ (old : List (List Letter)). AreRestored lists old made) c.as_mut_slice.ensures.value done)
    ∙ ap (restored lists) c.self.view_is))
    c.restore_columns.ensures.ok
