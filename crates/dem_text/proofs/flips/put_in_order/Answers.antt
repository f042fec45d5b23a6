use Rattle.std.proofs.Common.{List, ℕ, subst}
use Rattle.std.specs.List.Sorted.{IsNonDecreasing}
use Rattle.std.proofs.lemmas.Bool.{MatchBool-at_true}
use Rattle.std.proofs.lemmas.List.Sorted.{IsNonDecreasingBy-from_sort, non_decreasing_from_is_sorted}
use Rattle.dem_text.proofs.flips.put_in_order.Goals as goal

pub returns-then-is_sorted-clause-ascending : goal.returns-then-is_sorted-clause-ascending
returns-then-is_sorted-clause-ascending g c =
    subst (λ (ns : List ℕ). IsNonDecreasing ns) c.as_slice.ensures.value
    (MatchBool-at_true _ _ c.if-is_sorted.true (non_decreasing_from_is_sorted c.as_slice.result.now c.is_sorted.result c.is_sorted.ensures.cases))

pub returns-clause-ascending : goal.returns-clause-ascending
returns-clause-ascending g c = IsNonDecreasingBy-from_sort (λ x. x) _ c.in_ok-sort.ensures.sorted
