-- Pushing nothing, pushing one after another, and sending what is left at the end.
use Rattle.std.proofs.Common.{◌≡◌, ℕ, ◌+◌, Bool, true, false, List, [], ◌++◌, length, take, Option, refl, sym, ap, ◌∙◌, append_assoc, append-nil, arith, length-append}
use Rattle.std.proofs.Math.Seq.{take-append-add}
use Rattle.std.proofs.lemmas.List.{take-append-le}
use Rattle.step_model.specs.Ends.{TakesBeginning, next_count}
use Rattle.step_model.proofs.EndsLemmas.{Takes-nil, Takes-trans}
use Rattle.step_model.specs.Pushed.{Outlet, Holds, IsPushed, Pushes}
use Rattle.step_model.specs.Held.{Held}

-- nothing was pushed
pub IsPushed-nil : (failed : Bool) (o : Outlet) → IsPushed failed failed o o []
IsPushed-nil true o = (record { same_taken = refl; same_count = refl }, refl)
IsPushed-nil false o = record { gone = []; takes = Takes-nil o.taken; rest = sym (append-nil o.held); same_count = refl }

-- a beginning of some bytes is one of more
beginning-more : (a b : Option (List ℕ)) (xs ys : List ℕ) → TakesBeginning a b xs → TakesBeginning a b (xs ++ ys)
beginning-more a b xs ys (n, below, takes) =
    (n, omega (arith, length-append xs ys, below), rw (take-append-le n xs ys (omega (arith, below))) takes)

-- where some bytes went out and the rest is held, a beginning of the rest and more is one of all
pub beginning-after : (a b c : Outlet) (xs ys : List ℕ) → Holds a b xs → TakesBeginning b.taken c.taken (b.held ++ ys) → TakesBeginning a.taken c.taken (a.held ++ (xs ++ ys))
beginning-after a b c xs ys h (n, below, takes) =
    let whole : h.gone ++ (b.held ++ ys) ≡ a.held ++ (xs ++ ys) =
    sym (append_assoc h.gone b.held ys) ∙ (ap (λ bytes. bytes ++ ys) h.rest ∙ append_assoc a.held xs ys) in
    let front : h.gone ++ take n (b.held ++ ys) ≡ take (length h.gone + n) (a.held ++ (xs ++ ys)) =
    sym (take-append-add h.gone (b.held ++ ys) n) ∙ ap (take (length h.gone + n)) whole in (
      length h.gone + n,
      omega (arith, length-append h.gone (b.held ++ ys), ap length whole, below),
      rw (← front) (Takes-trans a.taken b.taken c.taken h.gone (take n (b.held ++ ys)) h.takes takes),
    )

-- one after another
pub IsPushed-trans : (p q r : Bool) (a b c : Outlet) (xs ys : List ℕ) → IsPushed p q a b xs → IsPushed q r b c ys → IsPushed p r a c (xs ++ ys)
IsPushed-trans true true r a b c xs ys (h, e) (k, f) = (record { same_taken = k.same_taken ∙ h.same_taken; same_count = k.same_count ∙ h.same_count }, f)
IsPushed-trans true false r a b c xs ys (h, e) k = absurd (cc)
IsPushed-trans false false false a b c xs ys h k = record {
  gone = h.gone ++ k.gone;
  takes = Takes-trans a.taken b.taken c.taken h.gone k.gone h.takes k.takes;
  rest =
      append_assoc h.gone k.gone c.held
      ∙ (ap (λ bytes. h.gone ++ bytes) k.rest
      ∙ (sym (append_assoc h.gone b.held ys)
      ∙ (ap (λ bytes. bytes ++ ys) h.rest ∙ append_assoc a.held xs ys)));
  same_count = k.same_count ∙ h.same_count;
}
IsPushed-trans false false true a b c xs ys h k = record {
  beginning = beginning-after a b c xs ys h k.beginning;
  counted = k.counted ∙ ap next_count h.same_count;
}
IsPushed-trans false true true a b c xs ys h (k, f) =
    let more = beginning-more a.taken b.taken (a.held ++ xs) ys h.beginning in
    record {
      beginning = rw (k.same_taken, ← append_assoc a.held xs ys) more;
      counted = k.same_count ∙ h.counted;
    }
IsPushed-trans false true false a b c xs ys h (k, f) = absurd (cc)

-- the same of a sink
pub Pushes-nil : {S : Type 0} {taken : S → Option (List ℕ)} {failures : S → ℕ} {s : S} {held : Held} → Pushes taken failures s s held held []
Pushes-nil {S} {taken} {failures} {s} {held} = record {
  pushed = IsPushed-nil held.failed (record { taken = taken s; failures = failures s; held = held.bytes });
}

pub Pushes-trans : {S : Type 0} {taken : S → Option (List ℕ)} {failures : S → ℕ} {s₀ s₁ s₂ : S} {h₀ h₁ h₂ : Held} {xs ys : List ℕ} → Pushes taken failures s₀ s₁ h₀ h₁ xs → Pushes taken failures s₁ s₂ h₁ h₂ ys → Pushes taken failures s₀ s₂ h₀ h₂ (xs ++ ys)
Pushes-trans {S} {taken} {failures} {s₀} {s₁} {s₂} {h₀} {h₁} {h₂} {xs} {ys} p q = record {
  pushed = IsPushed-trans h₀.failed h₁.failed h₂.failed
      (record { taken = taken s₀; failures = failures s₀; held = h₀.bytes })
      (record { taken = taken s₁; failures = failures s₁; held = h₁.bytes })
      (record { taken = taken s₂; failures = failures s₂; held = h₂.bytes })
      xs ys p.pushed q.pushed;
}
