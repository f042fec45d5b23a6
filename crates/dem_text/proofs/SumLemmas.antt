-- Truth values turned round by the lines named are the exclusive sum of these.
use Rattle.std.proofs.Common.{◌≡◌, ℕ, zero, suc, ◌+◌, ◌==◌, ◌<◌, ◌≤◌, Bool, true, false, not, ◌&&◌, List, [], ◌∷◌, length, map, get_or, set, drop, replicate, refl, ap, sym, ◌∙◌, ◌⊎◌, inl, inr, arith}
use Rattle.std.specs.Prelude.{if◌then◌else◌, min}
use Rattle.std.specs.List.{range_with_len}
use Rattle.std.proofs.lemmas.Bool.{cases_lt, eq-eqb, ne_eqb}
use Rattle.std.proofs.lemmas.List.{drop_all}
use Rattle.std.proofs.lemmas.List.FromFn.{get_or-map-range_with_len, length-map-range_with_len}
use Rattle.pauli_word.specs.Parity.{exclusive_or}
use Rattle.pauli_word.proofs.Parities.{exclusive_or-false, exclusive_or_assoc, exclusive_or_left_comm}
use Rattle.step_model.specs.ErrorModels.{ErrorLine, ErrorModel}
use Rattle.dem_text.specs.Sums.{is_in_symptom, symptom_of}
use Rattle.step_model.specs.Targets.{is_listed}
use Rattle.step_model.proofs.MemberLemmas.{map_agree, map_range_below, set-map-range}
use Rattle.dem_text.specs.private.Turned.{turned, turned_at, turned_by}

-- ---- one truth value

pub turned_at-set : (bits : List Bool) (t : ℕ) (d : Bool) → t < length bits → set bits t (not (get_or bits t d)) ≡ turned_at bits t
turned_at-set [] t d h = absurd (omega (arith, h))
turned_at-set (b ∷ bits) zero d h = refl
turned_at-set (b ∷ bits) (suc t) d h = ap (λ (bs : List Bool). b ∷ bs) (turned_at-set bits t d (omega (arith, h)))

pub turned_at-past : (bits : List Bool) (t : ℕ) → length bits ≤ t → bits ≡ turned_at bits t
turned_at-past [] t h = refl
turned_at-past (b ∷ bits) zero h = absurd (omega (arith, h))
turned_at-past (b ∷ bits) (suc t) h = ap (λ (bs : List Bool). b ∷ bs) (turned_at-past bits t (omega (arith, h)))

length-turned_at : (bits : List Bool) (t : ℕ) → length (turned_at bits t) ≡ length bits
length-turned_at [] t = refl
length-turned_at (b ∷ bits) zero = refl
length-turned_at (b ∷ bits) (suc t) = let rest = length-turned_at bits t in omega (arith, rest)

length-turned : (bits : List Bool) (targets : List ℕ) → length (turned bits targets) ≡ length bits
length-turned bits [] = refl
length-turned bits (t ∷ targets) = length-turned (turned_at bits t) targets ∙ length-turned_at bits t

pub length-turned_if : (named : Bool) (bits : List Bool) (targets : List ℕ) → length (if named then turned bits targets else bits) ≡ length bits
length-turned_if true bits targets = length-turned bits targets
length-turned_if false bits targets = refl

-- ---- all of them

turned_at-map : (f : ℕ → Bool) (n u : ℕ) → turned_at (map f (range_with_len 0 n)) u ≡ map (λ t. exclusive_or (u == t) (f t)) (range_with_len 0 n)
turned_at-map f n u =
    let long = length-map-range_with_len f 0 n in
    elim (cases_lt u n) [
      | inl below ↦
          sym (turned_at-set (map f (range_with_len 0 n)) u false (omega (arith, below, long)))
          ∙ set-map-range f (λ t. exclusive_or (u == t) (f t)) n u _ below
          (ap not (get_or-map-range_with_len f 0 n u u false below (omega arith)) ∙ sym (ap (λ b. exclusive_or b (f u)) (eq-eqb u u refl)))
          (λ r other. sym (ap (λ b. exclusive_or b (f r)) (ne_eqb u r (λ e. other (sym e)))))
      | inr past ↦
          sym (turned_at-past (map f (range_with_len 0 n)) u (omega (arith, past, long)))
          ∙ map_range_below f (λ t. exclusive_or (u == t) (f t)) 0 n
          (λ r below. sym (ap (λ b. exclusive_or b (f r)) (ne_eqb u r (λ e. absurd (omega (arith, e, below, past))))))
    ]

pub swapped : (a b c : Bool) → exclusive_or a (exclusive_or b c) ≡ exclusive_or (exclusive_or b a) c
swapped a b c = exclusive_or_left_comm a b c ∙ sym (exclusive_or_assoc b a c)

pub turned-map : (f : ℕ → Bool) (n : ℕ) (targets : List ℕ) → turned (map f (range_with_len 0 n)) targets ≡ map (λ t. exclusive_or (is_listed targets t) (f t)) (range_with_len 0 n)
turned-map f n [] = refl
turned-map f n (u ∷ targets) =
    ap (λ bits. turned bits targets) (turned_at-map f n u)
    ∙ turned-map (λ t. exclusive_or (u == t) (f t)) n targets
    ∙ map_agree _ _ (λ t. swapped (is_listed targets t) (u == t) (f t)) (range_with_len 0 n)

pub named-map : (f : ℕ → Bool) (n : ℕ) (named : Bool) (targets : List ℕ) → (if named then turned (map f (range_with_len 0 n)) targets else map f (range_with_len 0 n))
    ≡ map (λ t. exclusive_or (named && is_listed targets t) (f t)) (range_with_len 0 n)
named-map f n true targets = turned-map f n targets
named-map f n false targets = refl

turned_by-map : (f : ℕ → Bool) (n : ℕ) (named : List Bool) (lines : List ErrorLine) → turned_by (map f (range_with_len 0 n)) named lines
    ≡ map (λ t. exclusive_or (is_in_symptom named lines t) (f t)) (range_with_len 0 n)
turned_by-map f n [] lines = refl
turned_by-map f n (b ∷ named) [] = refl
turned_by-map f n (b ∷ named) (line ∷ lines) =
    ap (λ bits. turned_by bits named lines) (named-map f n b line.targets)
    ∙ turned_by-map (λ t. exclusive_or (b && is_listed line.targets t) (f t)) n named lines
    ∙ map_agree _ _ (λ t. swapped (is_in_symptom named lines t) (b && is_listed line.targets t) (f t)) (range_with_len 0 n)

pub none-set : (a n : ℕ) → replicate n false ≡ map (λ t. false) (range_with_len a n)
none-set a zero = refl
none-set a (suc n) = ap (λ (bs : List Bool). false ∷ bs) (none-set (a + 1) n)

pub symptom-turned : (model : ErrorModel) (named : List Bool) → turned_by (replicate (model.detectors + model.observables) false) named model.lines ≡ symptom_of model named
symptom-turned model named =
    let count = model.detectors + model.observables in
    ap (λ bits. turned_by bits named model.lines) (none-set 0 count)
    ∙ turned_by-map (λ t. false) count named model.lines
    ∙ map_agree _ _ (λ t. exclusive_or-false (is_in_symptom named model.lines t)) (range_with_len 0 count)

-- ---- lines one after another

pub turned_by-done : (bits named : List Bool) (lines : List ErrorLine) (k : ℕ) → length named ≤ k ⊎ length lines ≤ k → turned_by bits (drop k named) (drop k lines) ≡ bits
turned_by-done bits named lines k (inl h) = rw (drop_all k named h) refl
turned_by-done bits named lines k (inr h) = rw (drop_all k lines h) (no_lines bits (drop k named))
  where
    no_lines : (bits named : List Bool) → turned_by bits named [] ≡ bits
    no_lines bits [] = refl
    no_lines bits (n ∷ named) = refl

pub past_either : (a b k : ℕ) → min a b ≤ k → (b ≤ k) ⊎ (a ≤ k)
past_either a b k h =
    elim (cases_lt k b) as (λ _. (b ≤ k) ⊎ (a ≤ k)) [ inl few ↦ inr (omega (arith, few, h)) | inr past ↦ inl past ]
