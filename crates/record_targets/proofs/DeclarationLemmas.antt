-- What declarations name, next to what a program's targets list: each record as often, and each target in its turn.
use Rattle.std.proofs.Common.{◌≡◌, ◌≢◌, ◌+◌, ◌<◌, ◌≤◌, ◌==◌, ℕ, zero, suc, Bool, false, if◌then◌else◌, List, [], ◌∷◌, ◌++◌, length, map, get_or, inl, inr, refl, ap, sym, ◌∙◌, arith, append_assoc, append-nil}
use Rattle.std.specs.Prelude.{All}
use Rattle.std.specs.List.{concat, range_with_len}
use Rattle.std.proofs.lemmas.Bool.{cases_eq, eq-eqb, ne_eqb}
use Rattle.std.proofs.lemmas.List.{drop_at, get_or-append-add, get_or_append_left}
use Rattle.std.proofs.lemmas.List.Folds.{concat-append}
use Rattle.step_model.specs.Listing.{Listing}
use Rattle.step_model.specs.Targets.{target_at}
use Rattle.circuit_walk.specs.Declarations.{AreDeclarations, Declared, Detector, Inclusion, IsNextDeclared, IsThere, added_to, detectors_in}
use Rattle.circuit_walk.proofs.DeclaredParts.{next_detector, detector_is, observable_is}
use Rattle.record_targets.specs.private.ListedTargets.{AreCounted, included_in, left_from, named_in, times_in}
use Rattle.record_targets.proofs.ListedLemmas.{times-append}

-- ---- one after another

named-append : (xs ys : List Declared) → named_in (xs ++ ys) ≡ named_in xs ++ named_in ys
named-append [] ys = refl
named-append (Detector records ∷ xs) ys =
    ap (λ (rs : List ℕ). records ++ rs) (named-append xs ys) ∙ sym (append_assoc records (named_in xs) (named_in ys))
named-append (Inclusion k records ∷ xs) ys =
    ap (λ (rs : List ℕ). records ++ rs) (named-append xs ys) ∙ sym (append_assoc records (named_in xs) (named_in ys))

-- ---- how often they name a record

module _ (r : ℕ) where
  -- detectors and inclusions apart
  apart : (all : List Declared) → times_in r (named_in all) ≡ times_in r (concat (detectors_in all)) + times_in r (included_in all)
  apart [] = omega arith
  apart (Detector records ∷ all) =
      omega (arith, times-append r records (named_in all), times-append r records (concat (detectors_in all)), apart all)
  apart (Inclusion k records ∷ all) =
      omega (arith, times-append r records (named_in all), times-append r records (included_in all), apart all)

  -- how often lists, one for each of some numbers, have it
  abbrev times_over : (ℕ → List ℕ) → List ℕ → ℕ
  times_over f ks = times_in r (concat (map f ks))

  over-append : (f g : ℕ → List ℕ) (ks : List ℕ) → times_over (λ k. f k ++ g k) ks ≡ times_over f ks + times_over g ks
  over-append f g [] = omega arith
  over-append f g (k ∷ ks) =
      omega (
        arith,
        times-append r (f k ++ g k) (concat (map (λ k. f k ++ g k) ks)),
        times-append r (f k) (g k),
        times-append r (f k) (concat (map f ks)),
        times-append r (g k) (concat (map g ks)),
        over-append f g ks,
      )

  over-nothing : (ks : List ℕ) → times_over (λ k. []) ks ≡ 0
  over-nothing [] = refl
  over-nothing (k ∷ ks) = over-nothing ks

  -- records at one number alone
  module _ (o : ℕ) (records : List ℕ) where
    abbrev at_one : ℕ → List ℕ
    at_one k = if o == k then records else []

    at_other : (k : ℕ) → o ≢ k → at_one k ≡ []
    at_other k ne = ap (λ b. if b then records else []) (ne_eqb o k ne)

    over-others : (a n : ℕ) → o < a → times_over at_one (range_with_len a n) ≡ 0
    over-others a zero past = refl
    over-others a (suc n) past =
        ap (λ (rs : List ℕ). times_in r (rs ++ concat (map at_one (range_with_len (a + 1) n)))) (at_other a (λ e. absurd (omega (arith, e, past))))
        ∙ over-others (a + 1) n (omega (arith, past))

    over-one : (a n : ℕ) → a ≤ o → o < a + n → times_over at_one (range_with_len a n) ≡ times_in r records
    over-one a zero le lt = absurd (omega (arith, le, lt))
    over-one a (suc n) le lt =
        elim (cases_eq o a) as (λ _. times_over at_one (range_with_len a (suc n)) ≡ times_in r records) [
          | inl e ↦
              omega (
                arith,
                ap (λ (rs : List ℕ). times_in r (rs ++ concat (map at_one (range_with_len (a + 1) n)))) (ap (λ b. if b then records else []) (eq-eqb o a e)),
                times-append r records (concat (map at_one (range_with_len (a + 1) n))),
                over-others (a + 1) n (omega (arith, e)),
              )
          | inr ne ↦
              ap (λ (rs : List ℕ). times_in r (rs ++ concat (map at_one (range_with_len (a + 1) n)))) (at_other a ne)
              ∙ over-one (a + 1) n (omega (arith, le, ne)) (omega (arith, lt))
        ]

  -- what is added to all observables
  included_over : (program : Listing) (all : List Declared) → All (IsThere program) all → times_in r (included_in all) ≡ times_over (λ k. added_to k all) (range_with_len 0 (length program.observables))
  included_over program [] there = sym (over-nothing (range_with_len 0 (length program.observables)))
  included_over program (Detector records ∷ all) there =
      included_over program all (λ i d lt. there (suc i) d (omega (arith, lt)))
  included_over program (Inclusion o records ∷ all) there =
      let ks = range_with_len 0 (length program.observables) in
      let low : o < length program.observables = there 0 (Inclusion o records) (omega arith) in
      omega (
        arith,
        times-append r records (included_in all),
        included_over program all (λ i d lt. there (suc i) d (omega (arith, lt))),
        over-append (at_one o records) (λ k. added_to k all) ks,
        over-one o records 0 (length program.observables) (omega arith) (omega (arith, low)),
      )

  pub times_included : (program : Listing) (all : List Declared) → AreDeclarations program all → times_in r (concat program.observables) ≡ times_in r (included_in all)
  times_included program all are = ap (λ l. times_in r (concat l)) are.observables ∙ sym (included_over program all are.there)

  -- as often as all targets list it
  pub times_named : (program : Listing) (all : List Declared) → AreDeclarations program all → times_in r (named_in all) ≡ times_in r (left_from program 0)
  times_named program all are =
      omega (
        arith,
        apart all,
        ap (λ l. times_in r (concat l)) are.detectors,
        times_included program all are,
        ap (times_in r) (concat-append program.detectors program.observables),
        times-append r (concat program.detectors) (concat program.observables),
      )

-- one more declaration is counted
pub counted_next : (program : Listing) (done : List Declared) (next : Declared) (records : List ℕ) (was failed : Bool) (counts new : List ℕ) → named_in (next ∷ []) ≡ records ++ [] → AreCounted program done was counts → length new ≡ length counts
    → (failed ≡ false → (was ≡ false) × ((r : ℕ) → r < length counts → get_or new r 0 ≡ get_or counts r 0 + times_in r records))
    → AreCounted program (done ++ next ∷ []) failed new
counted_next program done next records was failed counts new names so_far long more =
    record {
      size = long ∙ so_far.size;
      counted = λ well r lt.
          let now = more well in
          let low : r < length counts = omega (arith, lt, long) in
          omega (
            arith,
            now.1 r low,
            so_far.counted now.0 r low,
            ap (times_in r) (named-append done (next ∷ [])),
            times-append r (named_in done) (named_in (next ∷ [])),
            ap (times_in r) (names ∙ append-nil records),
          );
    }

-- ---- the next declaration

pub next_is_target : (program : Listing) (done : List Declared) (records : List ℕ) → IsNextDeclared program done (Detector records) → target_at program (length (detectors_in done)) ≡ records
next_is_target program done records next =
    get_or_append_left program.detectors program.observables [] (length (detectors_in done)) (next_detector program done records next)
    ∙ detector_is program done records next

pub observable_target : (program : Listing) (all : List Declared) (k : ℕ) → AreDeclarations program all → k < length program.observables → target_at program (length program.detectors + k) ≡ added_to k all
observable_target program all k are low =
    get_or-append-add program.detectors program.observables k [] ∙ observable_is program all k are low

-- what is left behind all detectors
pub left_behind : (program : Listing) → left_from program (length program.detectors) ≡ concat program.observables
left_behind program = ap concat (drop_at program.detectors program.observables (length program.detectors) refl)
