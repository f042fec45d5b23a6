-- Where the place of a target is, and how many flips a frame has.
use Rattle.std.proofs.Common.{◌≡◌, ℕ, zero, suc, ◌+◌, ◌-◌, ◌==◌, ◌⊎◌, inl, inr, if◌then◌else◌, Bool, true, false, List, [], ◌∷◌, length, Option, None, Some, refl, ap, sym, ◌∙◌, arith}
use Rattle.std.proofs.Math.Dec.{eqb-suc-zero}
use Rattle.pauli_word.specs.declared.letter.Letter.{Letter}
pub use Rattle.pauli_word.proofs.LowestLetters.{lowest-clash}
use Rattle.step_model.specs.Listing.{ListedStep, One, Two, Collapse, Fault, Feedback, step_records, is_collapse}
use Rattle.step_model.specs.Frames.{Frame, begun, flips_from, flips_after}
use Rattle.step_model.specs.Sensitivities.{later_or_here}
use Rattle.step_model.specs.WellFormed.{collapse_count}
use Rattle.std.proofs.lemmas.Option.{same_Some}

pub option_either : {T : Type 0} → (o : Option T) → (o ≡ None) ⊎ ((x : T) × (o ≡ Some x))
option_either None = inl refl
option_either (Some x) = inr (x, refl)

counted_not : (b : Bool) → b ≡ false → ◌≡◌ {A = ℕ} (if b then 1 else 0) 0
counted_not false h = refl
counted_not true h = cc

counted_once : (b : Bool) → b ≡ true → ◌≡◌ {A = ℕ} (if b then 1 else 0) 1
counted_once true h = refl
counted_once false h = cc

-- a step that is no collapse is no place
pub later_only : (step : ListedStep) (o : Option ℕ) (clashes : Bool) (k : ℕ) → is_collapse step ≡ false → clashes ≡ false → later_or_here step o clashes ≡ Some k → o ≡ Some k
later_only step (Some j) clashes k other h e =
    let l : (if is_collapse step then 1 else 0) + j ≡ k = same_Some _ _ e in
    ap Some (omega (arith, counted_not (is_collapse step) other))
later_only step None true k other h e = cc
later_only step None false k other h e = e

-- a collapse is the place where none is later and it clashes
pub later_or_this : (step : ListedStep) (o : Option ℕ) (clashes : Bool) (k : ℕ) → is_collapse step ≡ true → later_or_here step o clashes ≡ Some k → ((j : ℕ) × (o ≡ Some j) × (k ≡ suc j)) ⊎ ((o ≡ None) × (clashes ≡ true) × (k ≡ 0))
later_or_this step (Some j) clashes k this e =
    let l : (if is_collapse step then 1 else 0) + j ≡ k = same_Some _ _ e in
    let m : k ≡ suc j = omega (arith, counted_once (is_collapse step) this) in
    inl (j, refl, m)
later_or_this step None true k this e = inr (refl, refl, sym (same_Some _ _ e))
later_or_this step None false k this e = cc

-- what is said of 0, and otherwise of the number before
pub after_first : {T : Type 0} (k : ℕ) (first : T) (later : ℕ → T) → (if suc k == 0 then first else later (suc k - 1)) ≡ later k
after_first k first later = ap (λ b. if b then first else later (suc k - 1)) (eqb-suc-zero k) ∙ ap later (omega arith)

-- a frame has a flip for each collapse to come
pub length-flips_from : (n : ℕ) (v : Frame) (steps : List ListedStep) → length (flips_from n v steps) ≡ collapse_count steps
length-flips_from n v [] = refl
length-flips_from n v (One gate q ∷ steps) = length-flips_from n _ steps ∙ omega arith
length-flips_from n v (Two gate a b ∷ steps) = length-flips_from n _ steps ∙ omega arith
length-flips_from n v (Collapse c r ∷ steps) = ap suc (length-flips_from n _ steps) ∙ omega arith
length-flips_from n v (Fault f ∷ steps) = length-flips_from n _ steps ∙ omega arith
length-flips_from n v (Feedback w r ∷ steps) = length-flips_from n _ steps ∙ omega arith

-- so has a frame that begins after one of the collapses, or after none of them
pub length-flips_after : (n : ℕ) (v : List Letter) (k made : ℕ) (steps : List ListedStep) → length (flips_after n v k made steps) ≡ collapse_count steps
length-flips_after n v k made [] = refl
length-flips_after n v k made (One gate q ∷ steps) = length-flips_after n v k _ steps ∙ omega arith
length-flips_after n v k made (Two gate a b ∷ steps) = length-flips_after n v k _ steps ∙ omega arith
length-flips_after n v zero made (Collapse c r ∷ steps) = ap suc (length-flips_from n _ steps) ∙ omega arith
length-flips_after n v (suc k) made (Collapse c r ∷ steps) =
    let so_far = made + length (step_records (Collapse c r)) in
    ap (λ flips. suc (length flips)) (after_first k (flips_from n (begun v so_far) steps) (λ j. flips_after n v j so_far steps))
    ∙ (ap suc (length-flips_after n v k so_far steps) ∙ omega arith)
length-flips_after n v k made (Fault f ∷ steps) = length-flips_after n v k _ steps ∙ omega arith
length-flips_after n v k made (Feedback w r ∷ steps) = length-flips_after n v k _ steps ∙ omega arith
