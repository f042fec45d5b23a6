use Rattle.std.proofs.Common.{◌-◌, ◌^◌, List, ℕ, sym, subst, ◌∙◌}
use Rattle.std.specs.List.Sorted.{IsPermutation, IsStrictlyIncreasing}
use Rattle.std.proofs.lemmas.Bool.{true≢false}
use Rattle.forward_sim.proofs.ListedLemmas.{empty_list, list_by_rise, no_list_by_piece, no_list_by_twice}
use Rattle.forward_sim.proofs.listed.listed_numbers.Goals as goal

pub returns-then-is_empty : goal.returns-then-is_empty
returns-then-is_empty g c = empty_list c.args.text.now c.new.result.items (cc) c.new.ensures.items

pub returns-then-not-are_numbers : goal.returns-then-not-are_numbers
returns-then-not-are_numbers g c = no_list_by_piece c.args.text.now (cc) (cc)

pub returns-then-not-rise : goal.returns-then-not-rise
returns-then-not-rise g c =
    no_list_by_twice c.args.text.now (cc) (2 ^ 64 - 1) c.sort_unstable.new.self.items (cc)
    (subst (λ (ns : List ℕ). IsPermutation ns c.sort_unstable.new.self.items) c.in_ok-numbers.ensures c.sort_unstable.ensures.permutation)
    c.sort_unstable.ensures.sorted
    (λ up. true≢false (sym (c.rise.ensures.1 (subst IsStrictlyIncreasing (sym c.deref.ensures.value) up)) ∙ (cc)))

pub returns : goal.returns
returns g c =
    list_by_rise c.args.text.now (cc) (2 ^ 64 - 1) c.sort_unstable.new.self.items (cc)
    (subst (λ (ns : List ℕ). IsPermutation ns c.sort_unstable.new.self.items) c.in_ok-numbers.ensures c.sort_unstable.ensures.permutation)
    (subst IsStrictlyIncreasing c.deref.ensures.value (c.rise.ensures.0 (cc)))
