use Rattle.std.proofs.Common.{◌<◌, ap, subst, sym, ◌∙◌}
use Rattle.std.specs.Prelude.{All, reverse}
use Rattle.std.proofs.lemmas.List.Sorted.{All-permutation, IsPermutation-reverse}
use Rattle.record_targets.specs.private.Links.{list_at}
use Rattle.step_model.specs.TargetSets.{members, row_of_set}
use Rattle.record_targets.proofs.LinkLemmas.{below_at, row_at}
use Rattle.record_targets.proofs.OrderLemmas.{row_of_permutation}
use Rattle.record_targets.proofs.record_lists.RecordLists.list.Goals as goal

pub returns : goal.returns
returns g c =
    let m = c.self.inside.targets in
    let links = c.self.inside.links.items in
    let places = c.self.inside.places.items in
    let place = c.index.result.now in
    let list = list_at links place in
    let moved = IsPermutation-reverse list in
    let reversed = c.reverse.ensures.items ∙ ap reverse (c.in_ok-list_from.ensures ∙ ap (λ l. list_at l place) c.as_slice.ensures.value) in
    let below = All-permutation (λ t. t < m) list (reverse list) moved (below_at m c.args.rec place links places c.args.self.now c.self.invariant c.self.view_is c.requires c.index.ensures) in
    let row = ap (row_of_set m) reversed ∙ (row_of_permutation m list (reverse list) moved ∙ row_at m c.args.rec place links places c.args.self.now c.self.view_is c.requires c.index.ensures) in
    c.make_ascend.ensures m (subst (All (λ t. t < m)) (sym reversed) below) ∙ ap members row
