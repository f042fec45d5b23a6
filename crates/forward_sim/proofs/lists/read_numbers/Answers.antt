-- The list says what each count makes of it.
use Rattle.std.proofs.Common.{◌≡◌, cond, nat_lt, true, false, refl, inr, sym, ap, ap₂, ◌∙◌, Some, None}
use Rattle.std.specs.List.{list_all}
use Rattle.std.proofs.lemmas.List.{take_at}
use Rattle.forward_sim.specs.Lists.{marks}
use Rattle.forward_sim.proofs.lists.read_numbers.Goals as goal

pub returns-then-not-are_below-clause-err : goal.returns-then-not-are_below-clause-err
returns-then-not-are_below-clause-err g c =
    let count = c.args.count in
    let ns = c.in-Some.numbers.items in
    let listed = rw c.in-Some.is at c.in_ok-numbers.ensures in
    let below : list_all (λ n. nat_lt n count) ns ≡ false =
    sym (c.are_below.ensures ∙ ap (list_all (λ n. nat_lt n count)) c.as_slice.ensures.value) ∙ c.if-not-are_below.true in
    inr (refl, listed.marks count ∙ ap (λ b. cond b (Some (marks count ns)) None) below)

pub returns-clause-ok : goal.returns-clause-ok
returns-clause-ok g c =
    let count = c.args.count in
    let ns = c.in-Some.numbers.items in
    let listed = rw c.in-Some.is at c.in_ok-numbers.ensures in
    let below : list_all (λ n. nat_lt n count) ns ≡ true =
    sym (c.are_below.ensures ∙ ap (list_all (λ n. nat_lt n count)) c.as_slice.ensures.value) ∙ c.if-not-are_below.false in
    let size = c.as_mut_slice.ensures.len in
    listed.marks count
    ∙ ap (λ b. cond b (Some (marks count ns)) None) below
    ∙ ap Some (sym (take_at c.mark_numbers.new.marked _ c.in_ok-marked.marked.len (c.mark_numbers.auto.marked ∙ size)
    ∙ c.mark_numbers.ensures
    ∙ ap₂ marks (size ∙ c.in_ok-marked.ensures.len) c.as_slice-2.ensures.value))
