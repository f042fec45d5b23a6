use Rattle.std.proofs.Common.{◌≡◌, ◌<◌, ◌-◌, ◌*◌, ℕ, zero, suc, List, [], ◌∷◌, ◌++◌, length, refl, ap, sym, ◌∙◌, append-nil, append_assoc, arith}
use Rattle.std.proofs.lemmas.Bool.Decides.{nat_tests}
use Rattle.backward.specs.declared.moved.Shift.{Shift}
use Rattle.backward.specs.private.MovedTargets.{picked, steps_before, window_end}
use Rattle.backward.proofs.moved.put_steps.Goals as goal

-- before none there are none
none_before : (s : Shift) (n : ℕ) (ts : List ℕ) → length ts ≡ 0 → steps_before s n ts ≡ []
none_before s zero ts none = refl
none_before s (suc n) [] none = none_before s n [] none
none_before s (suc n) (t ∷ ts) none = absurd (omega (arith, none))

first_steps : (s : Shift) (n : ℕ) (ts : List ℕ) → 0 < n → steps_before s n ts ≡ picked (n * s.by) (window_end s) (n * s.by) ts ++ steps_before s (n - 1) ts
first_steps s zero ts some = absurd (omega (arith, some))
first_steps s (suc n) ts some = let e : n ≡ suc n - 1 = omega arith in ap (λ k. picked (suc n * s.by) (window_end s) (suc n * s.by) ts ++ steps_before s k ts) e

pub returns-then-is_empty : goal.returns-then-is_empty
returns-then-is_empty g c =
    let into = c.args.into.now.items in
    sym (ap (λ l. into ++ l) (none_before c.args.shift.now c.args.turns c.args.first.now (grind (arith, nat_tests, c.is_empty.ensures, c.if-is_empty.true))) ∙ append-nil into)

pub loop-left-preserved : goal.loop-left-preserved
loop-left-preserved g c =
    let s = c.args.shift.now in
    let first = c.args.first.now in
    let left = c.loop-left.left in
    let into = c.loop-left.into.items in
    let rest = steps_before s (left - 1) first in
    let below = c.loop-left.invariant.below in
    record {
      below = omega (arith, below);
      whole =
          ap (λ l. l ++ rest) (c.in_ok-pick.ensures ∙ ap (λ high. into ++ picked (left * s.by) high (left * s.by) first) c.window_end.ensures)
          ∙ (append_assoc into (picked (left * s.by) (window_end s) (left * s.by) first) rest
          ∙ (ap (λ l. into ++ l) (sym (first_steps s left first (omega (arith, c.loop-left-test.true)))) ∙ c.loop-left.invariant.whole));
    }
