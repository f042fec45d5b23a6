-- Lines within their limits: none of them names a detector or gives a coordinate that is beyond one.
use Rattle.std.proofs.Common.{◌≡◌, ◌≤◌, Bool, true, false, List, [], ◌∷◌, None, Some, ap, sym, ◌∙◌, inl, inr, arith}
use Rattle.std.specs.Prelude.{find, if◌then◌else◌, option_map}
use Rattle.std.proofs.lemmas.Bool.{cases_Bool}
use Rattle.dem_text.specs.Limits.{has_target_beyond}
use Rattle.dem_text.specs.Meanings.{detector_count, observable_count}
use Rattle.dem_text.specs.Models.{first_beyond, is_beyond}
use Rattle.dem_text.specs.Shifts.{Placed}
use Rattle.dem_text.proofs.ShiftLemmas.{left}
use Rattle.dem_text.proofs.TableLemmas.{few-named}

beyond_of : (p : Placed) (ps : List Placed) (b : Bool) → is_beyond p ≡ b → first_beyond (p ∷ ps) ≡ (if b then Some p.line else first_beyond ps)
beyond_of p ps true e = ap (λ c. option_map (λ (q : Placed). q.line) (if c then Some p else find is_beyond ps)) e
beyond_of p ps false e = ap (λ c. option_map (λ (q : Placed). q.line) (if c then Some p else find is_beyond ps)) e

pub near-first : (p : Placed) (ps : List Placed) → first_beyond (p ∷ ps) ≡ None → (is_beyond p ≡ false) × (first_beyond ps ≡ None)
near-first p ps h =
    elim (cases_Bool (is_beyond p)) [
      | inl far ↦ absurd (none (sym (beyond_of p ps true far) ∙ h))
      | inr near ↦ (near, sym (beyond_of p ps false near) ∙ h)
    ]
  where
    none : Some p.line ≡ None → ⊥
    none e = cc

pub near-next : (p : Placed) (rest rest' : List Placed) → first_beyond rest ≡ None → rest ≡ p ∷ rest' → (is_beyond p ≡ false) × (first_beyond rest' ≡ None)
near-next p rest rest' h e = near-first p rest' (sym (ap first_beyond e) ∙ h)

pub few-counts : (ps : List Placed) → first_beyond ps ≡ None → (detector_count ps ≤ 1_000_000) × (observable_count ps ≤ 1024)
few-counts [] h = (omega arith, omega arith)
few-counts (p ∷ ps) h =
    let near = near-first p ps h in
    let rest = few-counts ps near.1 in
    let here = few-named p.targets (left (has_target_beyond p.targets) _ near.0) in (
      omega (arith, rest.0, here.0),
      omega (arith, rest.1, here.1),
    )
