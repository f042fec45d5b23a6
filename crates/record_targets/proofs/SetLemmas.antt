-- Targets toggled in sets, and the sets of the targets that list each record, found from the lists of all targets.
use Rattle.std.proofs.Common.{◌≡◌, ℕ, ◌+◌, ◌<◌, ◌==◌, Bool, true, false, not, ◌&&◌, List, [], ◌∷◌, map, length, get_or, inl, inr, refl, ap, ap₂, sym, ◌∙◌, arith, length-set, get_or-set_same, get_or-set_other}
use Rattle.std.specs.Prelude.{All, replicate}
use Rattle.std.specs.List.{range_with_len}
use Rattle.std.proofs.lemmas.Bool.{cases_eq, cases_lt, eq-eqb, ne_eqb, lt-ltb, le-ltb}
use Rattle.std.proofs.lemmas.List.{get_or-replicate, length-replicate}
use Rattle.std.proofs.lemmas.List.FromFn.{length-map-range_with_len, get_or-map-range_with_len, fill_by_all}
use Rattle.pauli_word.specs.Parity.{exclusive_or}
use Rattle.pauli_word.proofs.Parities.{exclusive_or-false, exclusive_or_assoc, exclusive_or_left_comm}
use Rattle.step_model.specs.Listing.{Listing, ListedStep}
use Rattle.step_model.specs.Targets.{targets_of, target_at, is_listed}
use Rattle.record_targets.specs.ListingSets.{listing_set, listing_sets, sensitivity_before, toggled_each}
use Rattle.step_model.specs.TargetSets.{toggled}
use Rattle.record_targets.specs.private.ListedTargets.{listed_below, listing_below}
use Rattle.record_targets.specs.private.RecordSets.{toggled_in, toggled_in_each}
use Rattle.step_model.proofs.MemberLemmas.{map_agree, map_range_below}

abbrev target_count : Listing → ℕ
target_count program = length (targets_of program)

-- ---- toggling
pub length-toggled_each : (ts : List ℕ) (bits : List Bool) → length (toggled_each ts bits) ≡ length bits
length-toggled_each [] bits = refl
length-toggled_each (t ∷ ts) bits = length-toggled_each ts (toggled t bits) ∙ length-set bits t (not (get_or bits t false))

toggled_at : (t k : ℕ) (bits : List Bool) → k < length bits → get_or (toggled t bits) k false ≡ exclusive_or (t == k) (get_or bits k false)
toggled_at t k bits h =
    elim (cases_eq t k) as (λ _. get_or (toggled t bits) k false ≡ exclusive_or (t == k) (get_or bits k false)) [
      | inl e ↦
          ap (λ j. get_or (toggled j bits) k false) e
          ∙ (get_or-set_same bits k (not (get_or bits k false)) false h
          ∙ ap (λ b. exclusive_or b (get_or bits k false)) (sym (eq-eqb t k e)))
      | inr ne ↦
          get_or-set_other bits t k (not (get_or bits t false)) false (λ e. ne (sym e))
          ∙ ap (λ b. exclusive_or b (get_or bits k false)) (sym (ne_eqb t k ne))
    ]

-- each place is toggled as often as it is listed
pub toggled_each_at : (ts : List ℕ) (k : ℕ) (bits : List Bool) → k < length bits → get_or (toggled_each ts bits) k false ≡ exclusive_or (is_listed ts k) (get_or bits k false)
toggled_each_at [] k bits h = refl
toggled_each_at (t ∷ ts) k bits h =
    toggled_each_at ts k (toggled t bits) (omega (arith, h, length-set bits t (not (get_or bits t false))))
    ∙ (ap (exclusive_or (is_listed ts k)) (toggled_at t k bits h)
    ∙ (exclusive_or_left_comm (is_listed ts k) (t == k) (get_or bits k false)
    ∙ sym (exclusive_or_assoc (t == k) (is_listed ts k) (get_or bits k false))))

-- ---- the sets from the lists: those of the targets below t have been gone through
pub length-toggled_in_each : (t : ℕ) (named : List ℕ) (sets : List (List Bool)) → length (toggled_in_each t named sets) ≡ length sets
length-toggled_in_each t [] sets = refl
length-toggled_in_each t (r ∷ named) sets = length-toggled_in_each t named (toggled_in t r sets) ∙ length-set sets r (toggled t (get_or sets r []))

-- at a record the target is toggled as often as the record is listed
pub toggled_in_at : (t s : ℕ) (named : List ℕ) (sets : List (List Bool)) (d : ℕ) → s < length sets → d < length (get_or sets s [])
    → get_or (get_or (toggled_in_each t named sets) s []) d false ≡ exclusive_or ((t == d) && is_listed named s) (get_or (get_or sets s []) d false)
toggled_in_at t s [] sets d hs hd = ap (λ b. exclusive_or b (get_or (get_or sets s []) d false)) (none (t == d))
  where
    none : (b : Bool) → false ≡ (b && false)
    none false = refl
    none true = refl
toggled_in_at t s (r ∷ named) sets d hs hd =
    elim (cases_eq s r) as (λ _. get_or (get_or (toggled_in_each t (r ∷ named) sets) s []) d false ≡ exclusive_or ((t == d) && is_listed (r ∷ named) s) (get_or (get_or sets s []) d false)) [
      | inl e ↦
          let row : get_or next s [] ≡ toggled t (get_or sets s []) = ap (λ j. get_or next j []) e ∙ (get_or-set_same sets r (toggled t (get_or sets r [])) [] (omega (arith, hs, e)) ∙ ap (λ j. toggled t (get_or sets j [])) (sym e)) in
          toggled_in_at t s named next d (omega (arith, hs, size)) (omega (arith, hd, ap length row, length-set (get_or sets s []) t (not (get_or (get_or sets s []) t false))))
          ∙ (ap (λ (bits : List Bool). exclusive_or ((t == d) && is_listed named s) (get_or bits d false)) row
          ∙ (ap (exclusive_or ((t == d) && is_listed named s)) (toggled_at t d (get_or sets s []) hd)
          ∙ both (t == d) (is_listed named s) (r == s) (get_or (get_or sets s []) d false) (eq-eqb r s (sym e))))
      | inr ne ↦
          let row : get_or next s [] ≡ get_or sets s [] = get_or-set_other sets r s (toggled t (get_or sets r [])) [] ne in
          toggled_in_at t s named next d (omega (arith, hs, size)) (omega (arith, hd, ap length row))
          ∙ (ap (λ (bits : List Bool). exclusive_or ((t == d) && is_listed named s) (get_or bits d false)) row
          ∙ ap (λ b. exclusive_or ((t == d) && exclusive_or b (is_listed named s)) (get_or (get_or sets s []) d false)) (sym (ne_eqb r s (λ e. ne (sym e)))))
    ]
  where
    next : List (List Bool)
    next = toggled_in t r sets

    size : length next ≡ length sets
    size = length-set sets r (toggled t (get_or sets r []))

    both : (a b c x : Bool) → c ≡ true → exclusive_or (a && b) (exclusive_or a x) ≡ exclusive_or (a && exclusive_or c b) x
    both a b false x h = cc
    both false b true x h = refl
    both true false true x h = refl
    both true true true false h = refl
    both true true true true h = refl

-- rows with the same bits at each place
pub rows_same : (program : Listing) (sets : List (List Bool)) (f : ℕ → ℕ → Bool) → length sets ≡ program.records → ((r : ℕ) → r < program.records → length (get_or sets r []) ≡ length (targets_of program))
    → ((r d : ℕ) → r < program.records → d < length (targets_of program) → get_or (get_or sets r []) d false ≡ f r d)
    → sets ≡ map (λ r. map (f r) (range_with_len 0 (length (targets_of program)))) (range_with_len 0 program.records)
rows_same program sets f size long same =
    fill_by_all (λ r. map (f r) (range_with_len 0 (target_count program))) sets program.records [] size
    (λ r lt. fill_by_all (f r) (get_or sets r []) (target_count program) false (long r lt) (λ d below. same r d lt below))

-- a row keeps its length
pub toggled_in_long : (t : ℕ) (named : List ℕ) (sets : List (List Bool)) (m s : ℕ) → s < length sets → ((r : ℕ) → r < length sets → length (get_or sets r []) ≡ m) → length (get_or (toggled_in_each t named sets) s []) ≡ m
toggled_in_long t [] sets m s h long = long s h
toggled_in_long t (r ∷ named) sets m s h long =
    toggled_in_long t named (toggled_in t r sets) m s (omega (arith, h, size))
    (λ k lt. elim (cases_eq k r) as (λ _. length (get_or (toggled_in t r sets) k []) ≡ m) [
      | inl e ↦
          ap (λ j. length (get_or (toggled_in t r sets) j [])) e
          ∙ (ap length (get_or-set_same sets r (toggled t (get_or sets r [])) [] (omega (arith, lt, size, e)))
          ∙ (length-set (get_or sets r []) t (not (get_or (get_or sets r []) t false)) ∙ long r (omega (arith, lt, size, e))))
      | inr ne ↦ ap length (get_or-set_other sets r k (toggled t (get_or sets r [])) [] ne) ∙ long k (omega (arith, lt, size))
    ])
  where
    size : length (toggled_in t r sets) ≡ length sets
    size = length-set sets r (toggled t (get_or sets r []))

pub listing_below-rows : (program : Listing) (t r : ℕ) → r < program.records → get_or (listing_below program t) r [] ≡ map (listed_below program t r) (range_with_len 0 (length (targets_of program)))
listing_below-rows program t r h = get_or-map-range_with_len (λ r. map (listed_below program t r) (range_with_len 0 (target_count program))) 0 program.records r r [] h (omega arith)

pub length-listing_below : (program : Listing) (t : ℕ) → length (listing_below program t) ≡ program.records
length-listing_below program t = length-map-range_with_len (λ r. map (listed_below program t r) (range_with_len 0 (target_count program))) 0 program.records

pub listing_below-long : (program : Listing) (t r : ℕ) → r < program.records → length (get_or (listing_below program t) r []) ≡ length (targets_of program)
listing_below-long program t r h = ap length (listing_below-rows program t r h) ∙ length-map-range_with_len (listed_below program t r) 0 (target_count program)

-- one target more
pub listing_below-more : (program : Listing) (t : ℕ) → t < length (targets_of program) → toggled_in_each t (target_at program t) (listing_below program t) ≡ listing_below program (t + 1)
listing_below-more program t within =
    rows_same program (toggled_in_each t (target_at program t) before) (listed_below program (t + 1))
    (length-toggled_in_each t (target_at program t) before ∙ size)
    (λ r lt. toggled_in_long t (target_at program t) before (target_count program) r (omega (arith, lt, size)) (λ k below. listing_below-long program t k (omega (arith, below, size))))
    (λ r d lt below.
    toggled_in_at t r (target_at program t) before d (omega (arith, lt, size)) (omega (arith, below, listing_below-long program t r lt))
    ∙ (ap (exclusive_or ((t == d) && is_listed (target_at program t) r))
    (ap (λ row. get_or row d false) (listing_below-rows program t r lt)
    ∙ get_or-map-range_with_len (listed_below program t r) 0 (target_count program) d d false below (omega arith))
    ∙ by_order r d))
  where
    before : List (List Bool)
    before = listing_below program t

    size : length before ≡ program.records
    size = length-listing_below program t

    by_order : (r d : ℕ) → exclusive_or ((t == d) && is_listed (target_at program t) r) (listed_below program t r d) ≡ listed_below program (t + 1) r d
    by_order r d =
        elim (cases_eq t d) as (λ _. exclusive_or ((t == d) && is_listed (target_at program t) r) (listed_below program t r d) ≡ listed_below program (t + 1) r d) [
          | inl e ↦
              ap₂ (λ b c. exclusive_or (b && is_listed (target_at program t) r) (c && is_listed (target_at program d) r)) (eq-eqb t d e) (le-ltb d t (omega (arith, e)))
              ∙ (exclusive_or-false (is_listed (target_at program t) r)
              ∙ (ap (λ k. is_listed (target_at program k) r) e ∙ ap (λ b. b && is_listed (target_at program d) r) (sym (lt-ltb d (t + 1) (omega (arith, e))))))
          | inr ne ↦
              ap (λ b. exclusive_or (b && is_listed (target_at program t) r) (listed_below program t r d)) (ne_eqb t d ne)
              ∙ elim (cases_lt d t) as (λ _. listed_below program t r d ≡ listed_below program (t + 1) r d) [
                | inl lt ↦ ap (λ b. b && is_listed (target_at program d) r) (lt-ltb d t lt ∙ sym (lt-ltb d (t + 1) (omega (arith, lt))))
                | inr le ↦ ap (λ b. b && is_listed (target_at program d) r) (le-ltb d t le ∙ sym (le-ltb d (t + 1) (omega (arith, le, ne))))
              ]
        ]

-- before any target, and after all
pub listing_below-none : (program : Listing) → replicate program.records (replicate (length (targets_of program)) false) ≡ listing_below program 0
listing_below-none program =
    rows_same program empty (listed_below program 0)
    (length-replicate program.records (replicate (target_count program) false))
    (λ r lt. ap length (row r lt) ∙ length-replicate (target_count program) false)
    (λ r d lt below. ap (λ bits. get_or bits d false) (row r lt)
    ∙ (get_or-replicate (target_count program) d false false below
    ∙ ap (λ b. b && is_listed (target_at program d) r) (sym (le-ltb d 0 (omega arith)))))
  where
    empty : List (List Bool)
    empty = replicate program.records (replicate (target_count program) false)

    row : (r : ℕ) → r < program.records → get_or empty r [] ≡ replicate (target_count program) false
    row r lt = get_or-replicate program.records r (replicate (target_count program) false) [] lt

pub listing_below-all : (program : Listing) → listing_below program (length (targets_of program)) ≡ listing_sets program []
listing_below-all program =
    map_agree (λ r. map (listed_below program (target_count program) r) (range_with_len 0 (target_count program))) (listing_set program [])
    (λ r. map_range_below (listed_below program (target_count program) r) (λ d. is_listed (target_at program d) r) 0 (target_count program)
    (λ d lt. ap (λ b. b && is_listed (target_at program d) r) (lt-ltb d (target_count program) (omega (arith, lt)))))
    (range_with_len 0 program.records)

-- ---- sizes
pub length-listing_set : (program : Listing) (steps : List ListedStep) (r : ℕ) → length (listing_set program steps r) ≡ length (targets_of program)
length-listing_set program steps r = length-map-range_with_len (λ d. is_listed (sensitivity_before program steps d).records r) 0 (target_count program)

pub length-listing_sets : (program : Listing) (steps : List ListedStep) → length (listing_sets program steps) ≡ program.records
length-listing_sets program steps = length-map-range_with_len (listing_set program steps) 0 program.records

pub listing_sets-row : (program : Listing) (steps : List ListedStep) (r : ℕ) (d : List Bool) → r < program.records → get_or (listing_sets program steps) r d ≡ listing_set program steps r
listing_sets-row program steps r d lt = get_or-map-range_with_len (listing_set program steps) 0 program.records r r d lt (omega arith)

pub listing_sets-long : (program : Listing) (steps : List ListedStep) → All (λ set. length set ≡ length (targets_of program)) (listing_sets program steps)
listing_sets-long program steps k d lt =
    ap length (listing_sets-row program steps k d (omega (arith, lt, length-listing_sets program steps))) ∙ length-listing_set program steps k
