-- The numbers that the texts of a program's probabilities have.
use Rattle.std.proofs.Common.{◌≡◌, ℕ, ◌<◌, ◌≤◌, ◌⊎◌, List, [], ◌∷◌, ◌++◌, length, get_or, inl, inr, ap, subst, sym, ◌∙◌, arith, length-append}
use Rattle.std.proofs.Math.Nat.{eq-or-lt_of_le}
use Rattle.std.proofs.lemmas.List.{get_or_append_left}
use Rattle.std.proofs.lemmas.Grind.{get_or_default_zero}
use Rattle.std.proofs.Math.Seq.{get_or-append_seam}
use Rattle.circuit_walk.specs.Programs.{KeptProgram}
use Rattle.step_model.specs.Chances.{chance_at}
use Rattle.step_model.specs.declared.chances.ChanceText.{ChanceText}
use Rattle.error_models.specs.ErrorLines.{text_at, KeepsTexts}
use Rattle.error_models.specs.HeldText.{Held}
use Rattle.backward.specs.private.Numbered.{AreNumbers, IsTextFor}

abbrev Names : List ChanceText → List (List ℕ) → ℕ → ℕ → Type 0
Names chances texts k n = (n < length texts) × (text_at texts n ≡ (chance_at chances k).text)

-- numbers stay where more texts are kept
pub numbers_kept : (chances : List ChanceText) (old new : List (List ℕ)) (numbers : List ℕ) → KeepsTexts old new → AreNumbers chances old numbers → AreNumbers chances new numbers
numbers_kept chances old new numbers keeps are k h =
    let was = are k h in
    let kept = keeps (get_or numbers k 0) was.0 in
    (kept.0, kept.1 ∙ was.1)

-- the number of one more
pub numbers_more : (chances : List ChanceText) (texts : List (List ℕ)) (numbers : List ℕ) (n e : ℕ) → AreNumbers chances texts numbers → length numbers ≡ e → n < length texts → text_at texts n ≡ (chance_at chances e).text → AreNumbers chances texts (numbers ++ n ∷ [])
numbers_more chances texts numbers n e are at within named =
    λ k h. by_place k (eq-or-lt_of_le (let le : k ≤ length numbers = omega (arith, h, length-append numbers (n ∷ [])) in le))
  where
    by_place : (k : ℕ) → (k ≡ length numbers) ⊎ (k < length numbers) → Names chances texts k (get_or (numbers ++ n ∷ []) k 0)
    by_place k (inl is) =
        let last : n ≡ get_or (numbers ++ n ∷ []) k 0 = sym (ap (λ i. get_or (numbers ++ n ∷ []) i 0) is ∙ get_or-append_seam numbers n [] 0) in
        let here : e ≡ k = sym at ∙ sym is in
        subst (λ i. Names chances texts k i) last (subst (λ i. Names chances texts i n) here (within, named))
    by_place k (inr lt) =
        subst (λ i. Names chances texts k i) (sym (get_or_append_left numbers (n ∷ []) 0 k lt)) (are k lt)

-- the number of a probability's text
pub number_of_chance : (program : KeptProgram) (numbers : List ℕ) (held : Held) (e n : ℕ) → IsTextFor program numbers held → e < length program.chances
    → n ≡ get_or numbers e n → (n < length held.texts) × (text_at held.texts n ≡ (chance_at program.chances e).text)
number_of_chance program numbers held e n fits there is =
    let numbered : e < length numbers = omega (arith, there, fits.counted) in
    let named = fits.numbered e numbered in
    let same : get_or numbers e 0 ≡ n = sym (is ∙ get_or_default_zero numbers e n numbered) in
    (subst (λ m. m < length held.texts) same named.0, subst (λ m. text_at held.texts m ≡ (chance_at program.chances e).text) same named.1)

-- the same for a text with the same tables
pub still_fits : (program : KeptProgram) (numbers : List ℕ) (old new : Held) → IsTextFor program numbers old → new.detectors ≡ old.detectors → new.targets ≡ old.targets → new.texts ≡ old.texts
    → IsTextFor program numbers new
still_fits program numbers old new fits detectors targets texts =
    record {
      counted = fits.counted;
      numbered = subst (λ ts. AreNumbers program.chances ts numbers) (sym texts) fits.numbered;
      detectors = detectors ∙ fits.detectors;
      targets = targets ∙ fits.targets;
    }
