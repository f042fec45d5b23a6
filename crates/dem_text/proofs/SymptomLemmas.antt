-- The symptom of the error lines that are named is read off the bits that a fold leaves.
use Rattle.std.proofs.Common.{◌≡◌, ℕ, zero, suc, ◌+◌, ◌<◌, ◌≤◌, Bool, false, List, [], ◌∷◌, ◌++◌, length, get_or, map, take, drop, append_assoc, None, refl, ap, ap₂, subst, sym, ◌∙◌, arith}
use Rattle.std.specs.List.{range_with_len}
use Rattle.std.proofs.lemmas.List.{drop_at, take_more}
use Rattle.std.proofs.lemmas.List.FromFn.{length-map-range_with_len, take-map-range_with_len}
use Rattle.pauli_word.proofs.Parities.{exclusive_or-false}
use Rattle.step_model.proofs.MemberLemmas.{map_agree}
use Rattle.step_model.specs.WellFormed.{most_observables}
use Rattle.dem_text.specs.Meanings.{detector_count, error_lines, meaning_of, observable_count}
use Rattle.dem_text.specs.Models.{first_beyond}
use Rattle.dem_text.specs.NamedLines.{is_among, lines_named}
use Rattle.dem_text.specs.Shifts.{no_shift, placed_from}
use Rattle.dem_text.specs.Sums.{is_in_symptom, symptom_of}
use Rattle.dem_text.specs.Verdicts.{Instruction}
use Rattle.dem_text.specs.private.Folds.{fold_over, fold_start}
use Rattle.dem_text.specs.private.Gathering.{bits_in, most_places}
use Rattle.dem_text.specs.private.Tables.{most_detectors}
use Rattle.dem_text.proofs.BitsLemmas.{fold-bits, names_oddly, oddly-flipped, oddly-high, oddly-low}
use Rattle.dem_text.proofs.NearLemmas.{few-counts}
use Rattle.dem_text.proofs.SumLemmas.{none-set}

-- ---- parts of a list of values

range-both : (f : ℕ → Bool) (a m n : ℕ) → map f (range_with_len a (m + n)) ≡ map f (range_with_len a m) ++ map f (range_with_len (a + m) n)
range-both f a zero n =
    let none : zero + n ≡ n = omega arith in
    let here : a ≡ a + zero = omega arith in ap (λ k. map f (range_with_len a k)) none ∙ ap (λ b. map f (range_with_len b n)) here
range-both f a (suc m) n =
    let more : suc m + n ≡ suc (m + n) = omega arith in
    let there : a + 1 + m ≡ a + suc m = omega arith in
    ap (λ k. map f (range_with_len a k)) more
    ∙ ap (λ bs. f a ∷ bs) (range-both f (a + 1) m n)
    ∙ ap (λ b. map f (range_with_len a (suc m)) ++ map f (range_with_len b n)) there

range-same : (f g : ℕ → Bool) (a b n : ℕ) → ((k : ℕ) → k < n → f (a + k) ≡ g (b + k)) → map f (range_with_len a n) ≡ map g (range_with_len b n)
range-same f g a b zero same = refl
range-same f g a b (suc n) same =
    let first : f a ≡ g b =
    let here : a ≡ a + 0 = omega arith in
    let there : b + 0 ≡ b = omega arith in ap f here ∙ same 0 (omega arith) ∙ ap g there in
    ap₂ (λ (x : Bool) (xs : List Bool). x ∷ xs) first
    (range-same f g (a + 1) (b + 1) n
    (λ k below.
    let here : a + 1 + k ≡ a + suc k = omega arith in
    let there : b + suc k ≡ b + 1 + k = omega arith in ap f here ∙ same (suc k) (omega (arith, below)) ∙ ap g there))

-- one bit more of the second part
pub part-more : (first rest found found' : List Bool) (o : ℕ) (b : Bool) → o < length rest → found ≡ first ++ take o rest → b ≡ get_or rest o false → found' ≡ found ++ b ∷ [] → found' ≡ first ++ take (o + 1) rest
part-more first rest found found' o b here is same next =
    next
    ∙ ap₂ (λ (xs : List Bool) (x : Bool). xs ++ x ∷ []) is same
    ∙ append_assoc first (take o rest) (get_or rest o false ∷ [])
    ∙ ap (λ (xs : List Bool). first ++ xs) (sym (take_more rest o false here))

-- the bits of so many detectors and observables, among those of as many as there may be
bits-parts : (f g : ℕ → Bool) (base places d o : ℕ) → d ≤ base → o ≤ places → ((t : ℕ) → t < d → f t ≡ g t) → ((k : ℕ) → k < o → f (base + k) ≡ g (d + k))
    → take d (map f (range_with_len 0 (base + places))) ++ take o (drop base (map f (range_with_len 0 (base + places)))) ≡ map g (range_with_len 0 (d + o))
bits-parts f g base places d o few fewer low high =
    let whole = map f (range_with_len 0 (base + places)) in
    let none : 0 + base ≡ base = omega arith in
    let none' : 0 + d ≡ d = omega arith in
    let same_low : (k : ℕ) → k < d → f (0 + k) ≡ g (0 + k) =
    λ k below. let e : 0 + k ≡ k = omega arith in ap f e ∙ low k below ∙ ap g (sym e) in
    let front : take d whole ≡ map g (range_with_len 0 d) =
    take-map-range_with_len f 0 (base + places) d (omega (arith, few)) ∙ range-same f g 0 0 d same_low in
    let behind : drop base whole ≡ map f (range_with_len base places) =
    ap (drop base) (range-both f 0 base places)
    ∙ drop_at (map f (range_with_len 0 base)) (map f (range_with_len (0 + base) places)) base (length-map-range_with_len f 0 base)
    ∙ ap (λ b. map f (range_with_len b places)) none in
    let back : take o (drop base whole) ≡ map g (range_with_len d o) =
    ap (take o) behind ∙ take-map-range_with_len f base places o fewer ∙ range-same f g base d o high in
    ap₂ (λ (xs ys : List Bool). xs ++ ys) front back
    ∙ ap (λ b. map g (range_with_len 0 d) ++ map g (range_with_len b o)) (sym none')
    ∙ sym (range-both g 0 d o)

-- ---- the symptom

-- so many bits as a variable: antt would compute a list of a number of them
all-bits : (named : List ℕ) (is : List Instruction) (n : ℕ) → first_beyond (placed_from no_shift is) ≡ None
    → (fold_over named (fold_start n) is).bits ≡ map (λ t. names_oddly most_detectors named 0 (placed_from no_shift is) t) (range_with_len 0 n)
all-bits named is n near =
    fold-bits named n is (fold_start n) (λ t. false) refl near (none-set 0 n)
    ∙ map_agree _ _ (λ t. exclusive_or-false (names_oddly most_detectors named 0 (placed_from no_shift is) t)) (range_with_len 0 n)

length-all : (named : List ℕ) (is : List Instruction) (n : ℕ) → first_beyond (placed_from no_shift is) ≡ None → length (fold_over named (fold_start n) is).bits ≡ n
length-all named is n near =
    ap length (all-bits named is n near)
    ∙ length-map-range_with_len (λ t. names_oddly most_detectors named 0 (placed_from no_shift is) t) 0 n

symptom-parts : (named : List ℕ) (is : List Instruction) (n base places : ℕ) → first_beyond (placed_from no_shift is) ≡ None → n ≡ base + places → base ≡ most_detectors
    → detector_count (placed_from no_shift is) ≤ base → observable_count (placed_from no_shift is) ≤ places
    → take (detector_count (placed_from no_shift is)) (fold_over named (fold_start n) is).bits ++ take (observable_count (placed_from no_shift is)) (drop base (fold_over named (fold_start n) is).bits)
    ≡ symptom_of (meaning_of (placed_from no_shift is)) (lines_named named (meaning_of (placed_from no_shift is)))
symptom-parts named is n base places near all same few fewer =
    let lines = placed_from no_shift is in
    let d = detector_count lines in
    let o = observable_count lines in
    let errors = error_lines d o lines in
    let oddly : ℕ → Bool = λ t. names_oddly most_detectors named 0 lines t in
    let in_symptom : ℕ → Bool = λ t. is_in_symptom (map (is_among named) (range_with_len 0 (length errors))) errors t in
    let most : d ≤ most_detectors = subst (λ b. d ≤ b) same few in
    ap (λ bs. take d bs ++ take o (drop base bs)) (all-bits named is n near ∙ ap (λ m. map oddly (range_with_len 0 m)) all)
    ∙ bits-parts oddly in_symptom base places d o few fewer
    (λ t below.
    oddly-low most_detectors d named 0 lines t (omega (arith, below, few, same)) below
    ∙ sym (oddly-flipped d o named 0 lines t (omega (arith, below))))
    (λ k below.
    ap (λ b. oddly (b + k)) same
    ∙ oddly-high most_detectors d named 0 lines k most (omega arith)
    ∙ sym (oddly-flipped d o named 0 lines (d + k) (omega (arith, below))))

module _ (named : List ℕ) (is : List Instruction) (near : first_beyond (placed_from no_shift is) ≡ None) where
  pub length-bits : length (fold_over named (fold_start most_places) is).bits ≡ most_places
  length-bits = length-all named is most_places near

  pub symptom-bits : bits_in (fold_over named (fold_start most_places) is).bits (detector_count (placed_from no_shift is)) (observable_count (placed_from no_shift is))
      ≡ symptom_of (meaning_of (placed_from no_shift is)) (lines_named named (meaning_of (placed_from no_shift is)))
  symptom-bits =
      let few = few-counts (placed_from no_shift is) near in
      symptom-parts named is most_places most_detectors most_observables near refl refl few.0 few.1
