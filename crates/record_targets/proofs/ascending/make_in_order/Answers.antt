use Rattle.std.proofs.Common.{◌≡◌, ◌<◌, ◌≤◌, ◌++◌, ℕ, List, drop, length, take, ap, subst, sym, ◌∙◌, arith}
use Rattle.std.specs.Prelude.{All}
use Rattle.std.specs.List.Sorted.{IsNonDecreasing}
use Rattle.std.proofs.lemmas.List.{take-append-le, take-take}
use Rattle.std.proofs.lemmas.List.Sorted.{All-permutation, IsNonDecreasingBy-from_sort}
use Rattle.step_model.specs.Targets.{is_listed}
use Rattle.step_model.specs.TargetSets.{members}
use Rattle.record_targets.proofs.OrderLemmas.{ascending_is_members, listed_of_permutation, row_of_listed}
use Rattle.record_targets.proofs.ascending.make_in_order.Goals as goal

-- a slice that is written back over as much
front_written : (kept n : ℕ) (written rest : List ℕ) → kept ≤ n → kept ≤ length written → take kept (take n (written ++ rest)) ≡ take kept written
front_written kept n written rest low within = take-take kept n (written ++ rest) low ∙ take-append-le kept written rest within

pub cancel_pairs-kept-requires : goal.cancel_pairs-kept-requires
cancel_pairs-kept-requires g c =
    let sorted = c.sort_unstable.new.self.items in
    subst IsNonDecreasing (sym c.as_mut_slice.ensures.value) (IsNonDecreasingBy-from_sort (λ x. x) sorted c.sort_unstable.ensures.sorted)

pub returns : goal.returns
returns g c = λ m below.
    let old = c.args.list.now.items in
    let sorted = c.sort_unstable.new.self.items in
    let moved = c.sort_unstable.ensures.permutation in
    let is = c.as_mut_slice.ensures.value in
    let kept = c.cancel_pairs-kept.result in
    let written = c.cancel_pairs-kept.new.list in
    let within = c.cancel_pairs-kept.ensures.within in
    let low = c.cancel_pairs-kept.ensures.below m (subst (All (λ t. t < m)) (sym is) (All-permutation (λ t. t < m) old sorted moved below)) in
    let odd = λ (t : ℕ). c.cancel_pairs-kept.ensures.odd t ∙ (ap (λ l. is_listed l t) is ∙ listed_of_permutation old sorted moved t) in
    c.truncate.ensures.items
    ∙ (front_written kept c.sort_unstable.new.self.len written (drop (length written) sorted) (omega (arith, within, c.cancel_pairs-kept.auto.list, c.as_mut_slice.ensures.len)) within
    ∙ (ascending_is_members m (take kept written) c.cancel_pairs-kept.ensures.rises low
    ∙ ap members (row_of_listed m old (take kept written) odd)))
