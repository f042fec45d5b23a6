-- The sets of all targets, where what declarations add to observables is put into those of the detectors.
use Rattle.std.proofs.Common.{◌≡◌, ◌+◌, ◌-◌, ◌<◌, ◌==◌, ◌&&◌, ℕ, Bool, false, if◌then◌else◌, List, [], ◌∷◌, ◌++◌, length, get_or, inl, inr, refl, ap, subst, sym, ◌∙◌, arith, length-append}
use Rattle.std.proofs.lemmas.Bool.{cases_eq, cases_lt, eq-eqb, le-ltb, lt-ltb, ne_eqb}
use Rattle.std.proofs.lemmas.List.FromFn.{get_or-map-range_with_len}
use Rattle.pauli_word.specs.Parity.{exclusive_or}
use Rattle.pauli_word.proofs.Parities.{exclusive_or-false, exclusive_or_assoc, exclusive_or_left_comm}
use Rattle.step_model.specs.Listing.{Listing}
use Rattle.step_model.specs.Targets.{is_listed, target_at, targets_of}
use Rattle.circuit_walk.specs.Declarations.{AreDeclarations, Declared, Detector, Inclusion, added_to}
use Rattle.record_targets.specs.private.ListedTargets.{listed_below, listing_below, with_included}
use Rattle.record_targets.specs.private.RecordSets.{toggled_in_each}
use Rattle.record_targets.proofs.ApartLemmas.{listed_both}
use Rattle.record_targets.proofs.DeclarationLemmas.{observable_target}
use Rattle.record_targets.proofs.SetLemmas.{length-listing_below, length-toggled_in_each, listing_below-long, listing_below-rows, rows_same, toggled_in_at, toggled_in_long}

pub included-append : (n : ℕ) (xs ys : List Declared) (sets : List (List Bool)) → with_included n (xs ++ ys) sets ≡ with_included n ys (with_included n xs sets)
included-append n [] ys sets = refl
included-append n (Detector records ∷ xs) ys sets = included-append n xs ys sets
included-append n (Inclusion k records ∷ xs) ys sets = included-append n xs ys (toggled_in_each (n + k) records sets)

length-included : (n : ℕ) (all : List Declared) (sets : List (List Bool)) → length (with_included n all sets) ≡ length sets
length-included n [] sets = refl
length-included n (Detector records ∷ all) sets = length-included n all sets
length-included n (Inclusion k records ∷ all) sets =
    length-included n all (toggled_in_each (n + k) records sets) ∙ length-toggled_in_each (n + k) records sets

-- all rows are of m bits
abbrev AreLong : ℕ → List (List Bool) → Type 0
AreLong m sets = (r : ℕ) → r < length sets → length (get_or sets r []) ≡ m

still_long : (t : ℕ) (records : List ℕ) (sets : List (List Bool)) (m : ℕ) → AreLong m sets → AreLong m (toggled_in_each t records sets)
still_long t records sets m long r lt =
    toggled_in_long t records sets m r (omega (arith, lt, length-toggled_in_each t records sets)) long

included_long : (n : ℕ) (all : List Declared) (sets : List (List Bool)) (m : ℕ) → AreLong m sets → AreLong m (with_included n all sets)
included_long n [] sets m long = long
included_long n (Detector records ∷ all) sets m long = included_long n all sets m long
included_long n (Inclusion k records ∷ all) sets m long =
    included_long n all (toggled_in_each (n + k) records sets) m (still_long (n + k) records sets m long)

-- ---- one bit

abbrev bit : List (List Bool) → ℕ → ℕ → Bool
bit sets s d = get_or (get_or sets s []) d false

module _ (n m s : ℕ) where
  -- of a detector
  bit_before : (all : List Declared) (sets : List (List Bool)) (d : ℕ) → AreLong m sets → s < length sets → d < m → d < n → bit (with_included n all sets) s d ≡ bit sets s d
  bit_before [] sets d long there below before = refl
  bit_before (Detector records ∷ all) sets d long there below before = bit_before all sets d long there below before
  bit_before (Inclusion o records ∷ all) sets d long there below before =
      let next = toggled_in_each (n + o) records sets in
      bit_before all next d (still_long (n + o) records sets m long) (omega (arith, there, length-toggled_in_each (n + o) records sets)) below before
      ∙ toggled_in_at (n + o) s records sets d there (omega (arith, below, long s there))
      ∙ ap (λ b. exclusive_or (b && is_listed records s) (bit sets s d)) (ne_eqb (n + o) d (λ e. absurd (omega (arith, e, before))))

  -- whether an inclusion adds the record to an observable
  here : (o k : ℕ) (records : List ℕ) → ((n + o == n + k) && is_listed records s) ≡ is_listed (if o == k then records else []) s
  here o k records =
      elim (cases_eq o k) as (λ _. ((n + o == n + k) && is_listed records s) ≡ is_listed (if o == k then records else []) s) [
        | inl e ↦
            let sum : n + o ≡ n + k = omega (arith, e) in
            ap (λ b. b && is_listed records s) (eq-eqb (n + o) (n + k) sum)
            ∙ ap (λ b. is_listed (if b then records else []) s) (sym (eq-eqb o k e))
        | inr ne ↦
            ap (λ b. b && is_listed records s) (ne_eqb (n + o) (n + k) (λ e. ne (omega (arith, e))))
            ∙ ap (λ b. is_listed (if b then records else []) s) (sym (ne_eqb o k ne))
      ]

  -- of an observable
  bit_behind : (all : List Declared) (sets : List (List Bool)) (k : ℕ) → AreLong m sets → s < length sets → n + k < m → bit (with_included n all sets) s (n + k) ≡ exclusive_or (is_listed (added_to k all) s) (bit sets s (n + k))
  bit_behind [] sets k long there below = refl
  bit_behind (Detector records ∷ all) sets k long there below = bit_behind all sets k long there below
  bit_behind (Inclusion o records ∷ all) sets k long there below =
      let next = toggled_in_each (n + o) records sets in
      let first = if o == k then records else [] in
      let rest = is_listed (added_to k all) s in
      bit_behind all next k (still_long (n + o) records sets m long) (omega (arith, there, length-toggled_in_each (n + o) records sets)) below
      ∙ ap (exclusive_or rest) (toggled_in_at (n + o) s records sets (n + k) there (omega (arith, below, long s there)) ∙ ap (λ b. exclusive_or b (bit sets s (n + k))) (here o k records))
      ∙ exclusive_or_left_comm rest (is_listed first s) (bit sets s (n + k))
      ∙ sym (exclusive_or_assoc (is_listed first s) rest (bit sets s (n + k)))
      ∙ ap (λ b. exclusive_or b (bit sets s (n + k))) (sym (listed_both first (added_to k all) s))

-- ---- behind all declarations

pub all_included : (program : Listing) (all : List Declared) → AreDeclarations program all
    → with_included (length program.detectors) all (listing_below program (length program.detectors)) ≡ listing_below program (length (targets_of program))
all_included program all are =
    rows_same program (with_included n all before) (listed_below program m)
    (length-included n all before ∙ size)
    (λ r lt. included_long n all before m long r (omega (arith, lt, length-included n all before, size)))
    (λ r d lt below. by_order r d lt below)
  where
    n : ℕ
    n = length program.detectors

    m : ℕ
    m = length (targets_of program)

    count : m ≡ n + length program.observables
    count = length-append program.detectors program.observables

    before : List (List Bool)
    before = listing_below program n

    size : length before ≡ program.records
    size = length-listing_below program n

    long : AreLong m before
    long r lt = listing_below-long program n r (omega (arith, lt, size))

    was : (r d : ℕ) → r < program.records → d < m → bit before r d ≡ listed_below program n r d
    was r d lt below =
        ap (λ (row : List Bool). get_or row d false) (listing_below-rows program n r lt)
        ∙ get_or-map-range_with_len (listed_below program n r) 0 m d d false below (omega arith)

    by_order : (r d : ℕ) → r < program.records → d < m → bit (with_included n all before) r d ≡ listed_below program m r d
    by_order r d lt below =
        elim (cases_lt d n) as (λ _. bit (with_included n all before) r d ≡ listed_below program m r d) [
          | inl less ↦
              bit_before n m r all before d long (omega (arith, lt, size)) below less
              ∙ was r d lt below
              ∙ ap (λ b. b && is_listed (target_at program d) r) (lt-ltb d n less ∙ sym (lt-ltb d m below))
          | inr le ↦
              let k = d - n in
              let place : n + k ≡ d = omega (arith, le) in
              subst (λ j. bit (with_included n all before) r j ≡ listed_below program m r j) place
              (bit_behind n m r all before k long (omega (arith, lt, size)) (omega (arith, place, below))
              ∙ ap (exclusive_or (is_listed (added_to k all) r))
              (was r (n + k) lt (omega (arith, place, below)) ∙ ap (λ b. b && is_listed (target_at program (n + k)) r) (le-ltb (n + k) n (omega arith)))
              ∙ exclusive_or-false (is_listed (added_to k all) r)
              ∙ ap (λ (l : List ℕ). is_listed l r) (sym (observable_target program all k are (omega (arith, place, below, count))))
              ∙ ap (λ b. b && is_listed (target_at program (n + k)) r) (sym (lt-ltb (n + k) m (omega (arith, place, below)))))
        ]
