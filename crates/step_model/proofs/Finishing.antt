-- What a sink took and how often it failed, once all that was pushed since the start has been sent.
use Rattle.std.proofs.Common.{◌≡◌, ℕ, Bool, true, false, List, [], Option, Result, Ok, Err, OnOk, OnErr, refl, ap, ◌∙◌, append-nil}
use Rattle.step_model.specs.declared.fault.Fault.{Fault}
use Rattle.step_model.specs.Ends.{Takes, TakesBeginning, write_failures}
use Rattle.step_model.specs.Faults.{write_fault}
use Rattle.step_model.proofs.EndsLemmas.{Takes-trans}
use Rattle.step_model.specs.Held.{Held}
use Rattle.step_model.specs.Pushed.{Outlet, IsPushed, Pushes}
use Rattle.step_model.proofs.Pushing.{beginning-after}

-- a sink to which nothing has been pushed yet
abbrev pub fresh : Held
fresh = record { bytes = []; failed = false }

-- where the sink has failed, its end is a refusal that leaves it as it was
abbrev pub StaysFailed : {S R : Type 0} → Held → Result R Fault → S → S → Type 0
StaysFailed held result before after = held.failed ≡ true → (result ≡ Err write_fault) × (after ≡ before)

abbrev outlet : Option (List ℕ) → ℕ → List ℕ → Outlet
outlet taken failures held = record { taken = taken; failures = failures; held = held }

all-sent : {R : Type 0} → (failed : Bool) (a b c : Option (List ℕ)) (m n : ℕ) (held bytes : List ℕ) (r : Result R Fault)
    → IsPushed false failed (outlet a m []) (outlet b n held) bytes → (failed ≡ true → r ≡ Err write_fault)
    → OnOk r (Takes b c held) → OnOk r (Takes a c bytes)
all-sent failed a b c m n held bytes (Err e) h stays all = tt
all-sent true a b c m n held bytes (Ok v) h stays all = absurd (cc (stays refl))
all-sent false a b c m n held bytes (Ok v) h stays all = rw (← h.rest) (Takes-trans a b c h.gone held h.takes all)

beginning-sent : {R : Type 0} → (failed : Bool) (a b c : Option (List ℕ)) (m n : ℕ) (held bytes : List ℕ) (r : Result R Fault)
    → IsPushed false failed (outlet a m []) (outlet b n held) bytes → (failed ≡ true → c ≡ b)
    → (failed ≡ false → OnErr r (TakesBeginning b c held)) → OnErr r (TakesBeginning a c bytes)
beginning-sent failed a b c m n held bytes (Ok v) h stays beginning = tt
beginning-sent true a b c m n held bytes (Err e) h stays beginning = rw (stays refl) h.beginning
beginning-sent false a b c m n held bytes (Err e) h stays beginning =
    let last = rw (← append-nil held) at (beginning refl) in
    rw append-nil at (beginning-after (outlet a m []) (outlet b n held) (outlet c n []) bytes [] h last)

count-sent : {R : Type 0} → (failed : Bool) (a b : Option (List ℕ)) (m n k : ℕ) (held bytes : List ℕ) (r : Result R Fault)
    → IsPushed false failed (outlet a m []) (outlet b n held) bytes → (failed ≡ true → (r ≡ Err write_fault) × (k ≡ n))
    → (failed ≡ false → k ≡ write_failures r n) → k ≡ write_failures r m
count-sent true a b m n k held bytes r h stays count =
    let now = stays refl in
    rw now.0 (now.1 ∙ h.counted)
count-sent false a b m n k held bytes r h stays count = count refl ∙ ap (write_failures r) h.same_count

module _ {S R : Type 0} {taken : S → Option (List ℕ)} {failures : S → ℕ} {s₀ s₁ s₂ : S} {held : Held} {bytes : List ℕ} {r : Result R Fault} where
  pub all-finished : Pushes taken failures s₀ s₁ fresh held bytes → StaysFailed held r s₁ s₂
      → OnOk r (Takes (taken s₁) (taken s₂) held.bytes) → OnOk r (Takes (taken s₀) (taken s₂) bytes)
  all-finished p stays all =
      all-sent held.failed (taken s₀) (taken s₁) (taken s₂) (failures s₀) (failures s₁) held.bytes bytes r p.pushed (λ e. (stays e).0) all

  pub beginning-finished : Pushes taken failures s₀ s₁ fresh held bytes → StaysFailed held r s₁ s₂
      → (held.failed ≡ false → OnErr r (TakesBeginning (taken s₁) (taken s₂) held.bytes)) → OnErr r (TakesBeginning (taken s₀) (taken s₂) bytes)
  beginning-finished p stays beginning =
      beginning-sent held.failed (taken s₀) (taken s₁) (taken s₂) (failures s₀) (failures s₁) held.bytes bytes r p.pushed (λ e. ap taken (stays e).1) beginning

  pub count-finished : Pushes taken failures s₀ s₁ fresh held bytes → StaysFailed held r s₁ s₂
      → (held.failed ≡ false → failures s₂ ≡ write_failures r (failures s₁)) → failures s₂ ≡ write_failures r (failures s₀)
  count-finished p stays count =
      count-sent held.failed (taken s₀) (taken s₁) (failures s₀) (failures s₁) (failures s₂) held.bytes bytes r p.pushed
      (λ e. ((stays e).0, ap failures (stays e).1)) count
