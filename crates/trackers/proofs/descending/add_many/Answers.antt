use Rattle.std.proofs.Common.{◌≡◌, ◌<◌, ◌≤◌, ◌-◌, ◌∷◌, ◌++◌, ℕ, [], List, None, Some, length, take, drop, get_or, refl, ap, ap₂, subst, sym, ◌∙◌, arith}
use Rattle.std.specs.List.{slice_get}
use Rattle.std.proofs.lemmas.List.{length-drop, take_all}
use Rattle.std.proofs.lemmas.Result.{on_err_weaker, on_ok_weaker}
use Rattle.trackers.specs.private.Sets.{DescendsBelow, xor_sets}
use Rattle.trackers.proofs.SetLemmas.{descends_taken, tail_merged, xor_sets-nil}
use Rattle.trackers.proofs.descending.add_many.Goals as goal

none_at_first : (xs : List ℕ) → slice_get xs 0 ≡ None → xs ≡ []
none_at_first [] h = refl
none_at_first (x ∷ xs) h = cc

some_at_first : (xs : List ℕ) (x : ℕ) → slice_get xs 0 ≡ Some x → xs ≡ x ∷ drop 1 xs
some_at_first [] x h = cc
some_at_first (y ∷ ys) x h = cc

all_behind : (start : ℕ) (xs : List ℕ) → take (length xs - start) (drop start xs) ≡ drop start xs
all_behind start xs = take_all (length xs - start) (drop start xs) (omega (arith, length-drop start xs))

-- what the merge of an end makes behind the beginning
behind : (old seen more tail : List ℕ) (greatest start : ℕ) → seen ≡ old → more ≡ greatest ∷ drop 1 more → 0 < start → start ≤ length seen → greatest < get_or seen (start - 1) 0
    → tail ≡ xor_sets (drop start seen) more → (m : ℕ) → DescendsBelow m old → take start old ++ tail ≡ xor_sets old more
behind old seen more tail greatest start is first some within above merged m descends =
    let there : greatest < get_or old (start - 1) 0 = subst (λ (xs : List ℕ). greatest < get_or xs (start - 1) 0) is above in
    ap (λ l. take start old ++ l) (merged ∙ ap₂ (λ xs ys. xor_sets (drop start xs) ys) is first)
    ∙ (tail_merged m old (drop 1 more) greatest start descends some (omega (arith, within, ap length is)) there
    ∙ ap (xor_sets old) (sym first))

pub returns-in_default-clause-ok : goal.returns-in_default-clause-ok
returns-in_default-clause-ok g c =
    λ m descends. sym (ap (xor_sets c.args.items.now.items) (none_at_first c.args.more.now (sym c.in_default.ensures.value)) ∙ xor_sets-nil c.args.items.now.items)

pub returns-clause-ok : goal.returns-clause-ok
returns-clause-ok g c =
    let start = c.tail_from-start.result in
    on_ok_weaker c.extend_from_slice-added.result
    (λ h. λ m descends. h ∙ (ap₂ (λ (xs ys : List ℕ). xs ++ ys) c.truncate.ensures.items c.as_slice-3.ensures
    ∙ behind c.args.items.now.items c.as_slice.result.now c.args.more.now c.merge.new.into.items c.in-Some.greatest.now start c.as_slice.ensures
    (some_at_first c.args.more.now c.in-Some.greatest.now (sym c.in-Some.ensures.value)) (omega arith) c.tail_from-start.ensures.within (c.tail_from-start.ensures.above (omega arith))
    (c.in_default-merge.ensures
    ∙ (ap (λ (xs : List ℕ). xor_sets xs c.args.more.now) (all_behind start c.as_slice-2.result.now)
    ∙ ap (λ (xs : List ℕ). xor_sets (drop start xs) c.args.more.now) (c.as_slice-2.ensures ∙ sym c.as_slice.ensures))) m descends))
    c.extend_from_slice-added.ensures.ok

pub returns-clause-err : goal.returns-clause-err
returns-clause-err g c =
    on_err_weaker c.extend_from_slice-added.result
    (λ same. λ m descends. subst (DescendsBelow m) (sym (ap (λ v. v.items) same ∙ c.truncate.ensures.items)) (descends_taken m c.tail_from-start.result c.args.items.now.items descends))
    c.extend_from_slice-added.ensures.err
