-- The places of targets, gone back over the steps and read off at the start.
use Rattle.std.proofs.Common.{◌≡◌, ℕ, zero, suc, ◌+◌, ◌<◌, ◌==◌, Bool, true, false, ◌||◌, List, [], ◌∷◌, map, length, take, get_or, set, Option, None, Some, inl, inr, refl, ap, ap₂, sym, ◌∙◌, arith, length-set, get_or-set_same, get_or-set_other}
use Rattle.std.specs.Prelude.{All, option_map, filter, replicate, cond}
use Rattle.std.specs.List.{range_with_len, AllPass}
use Rattle.std.proofs.lemmas.Bool.{cases_eq, eq-eqb, ne_eqb}
use Rattle.std.proofs.lemmas.List.{get_or-replicate, length-replicate, take_all}
use Rattle.std.proofs.lemmas.List.Elements.{All-weaker, All-filter}
use Rattle.std.proofs.lemmas.List.FromFn.{length-map-range_with_len, get_or-map-range_with_len, fill_by_all}
use Rattle.pauli_word.specs.declared.letter.Letter.{Letter}
use Rattle.pauli_word.specs.declared.letter.Letter.TheVariants.{I, X, Y, Z}
use Rattle.pauli_word.specs.Letters.{letters_clash}
use Rattle.pauli_word.specs.Words.{anticommute, letter_at}
use Rattle.pauli_word.proofs.WordLaws.{anticommute_comm}
use Rattle.step_model.specs.declared.step.Term.{Term}
use Rattle.step_model.specs.Listing.{Listing, ListedStep, Collapse, Measured, Recorded, word_of_terms, measured_word}
use Rattle.step_model.specs.Sensitivities.{later_or_here, latest_place, has_X_or_Y, lowest_X_or_Y}
use Rattle.step_model.specs.Targets.{targets_of, target_at}
use Rattle.step_model.specs.WellFormed.{step_fits}
use Rattle.backward.specs.private.Collapses.{or_where, noted}
use Rattle.backward.specs.private.Passes.{tracked_before, latest_before, lowest_below, opened}
use Rattle.record_targets.specs.ListingSets.{sensitivity_before}
use Rattle.trackers.specs.Tracked.{Tracked, is_among, anticommuting}
use Rattle.backward.proofs.PassLines.{anticommuting-before}
use Rattle.step_model.proofs.RangeLemmas.{among_range}
use Rattle.step_model.proofs.MemberLemmas.{All-range}
use Rattle.step_model.proofs.SensitivityLengths.{length-sensitivity}
use Rattle.trackers.proofs.WordLemmas.{one_term}

abbrev target_count : Listing → ℕ
target_count program = length (targets_of program)

-- ---- noting
twice : (value : ℕ) (b : Bool) (o : Option ℕ) → or_where value b (or_where value true o) ≡ or_where value true o
twice value b None = refl
twice value b (Some k) = refl

pub length-noted : (value : ℕ) (ts : List ℕ) (found : List (Option ℕ)) → length (noted value ts found) ≡ length found
length-noted value [] found = refl
length-noted value (t ∷ ts) found = length-noted value ts (set found t (or_where value true (get_or found t None))) ∙ length-set found t (or_where value true (get_or found t None))

-- what is noted at a target: nothing depends on the order of the list, or on how often it names one
pub noted_at : (value : ℕ) (ts : List ℕ) (found : List (Option ℕ)) (k : ℕ) → k < length found → get_or (noted value ts found) k None ≡ or_where value (is_among ts k) (get_or found k None)
noted_at value [] found k h = same (get_or found k None)
  where
    same : (o : Option ℕ) → o ≡ or_where value false o
    same None = refl
    same (Some j) = refl
noted_at value (t ∷ ts) found k h =
    noted_at value ts next k (omega (arith, h, length-set found t new))
    ∙ elim (cases_eq k t) as (λ _. or_where value (is_among ts k) (get_or next k None) ≡ or_where value (is_among (t ∷ ts) k) (get_or found k None)) [
      | inl e ↦
          ap (or_where value (is_among ts k)) (ap (λ j. get_or next j None) e ∙ get_or-set_same found t new None (omega (arith, h, e)))
          ∙ (twice value (is_among ts k) (get_or found t None)
          ∙ (ap (λ j. or_where value true (get_or found j None)) (sym e)
          ∙ ap (λ b. or_where value (b || is_among ts k) (get_or found k None)) (sym (eq-eqb k t e))))
      | inr ne ↦
          ap (or_where value (is_among ts k)) (get_or-set_other found t k new None ne)
          ∙ ap (λ b. or_where value (b || is_among ts k) (get_or found k None)) (sym (ne_eqb k t ne))
    ]
  where
    new : Option ℕ
    new = or_where value true (get_or found t None)

    next : List (Option ℕ)
    next = set found t new

pub some_left : (n : ℕ) (b : Bool) → b ≡ (n == 0) → b ≡ false → 0 < n
some_left zero b e f = let no : true ≡ false = sym e ∙ f in cc
some_left (suc n) b e f = omega arith

-- a list with something in it is open
pub opened_some : (n : ℕ) (list : List (Option ℕ)) → 0 < length list → opened n list ≡ list
opened_some n [] some = absurd (omega (arith, some))
opened_some n (o ∷ list) some = refl

-- a number for each target, by what it was and whether the target is hit
noted_each : (program : Listing) (value : ℕ) (old new : ℕ → Option ℕ) (hit : ℕ → Bool) → ((d : ℕ) → d < length (targets_of program) → or_where value (hit d) (old d) ≡ new d)
    → noted value (filter hit (range_with_len 0 (length (targets_of program)))) (map old (range_with_len 0 (length (targets_of program)))) ≡ map new (range_with_len 0 (length (targets_of program)))
noted_each program value old new hit same =
    fill_by_all new (noted value ts before) (target_count program) None
    (length-noted value ts before ∙ long)
    (λ k lt. noted_at value ts before k (omega (arith, lt, long))
    ∙ (ap₂ (or_where value) (among_range hit k 0 (target_count program) (omega arith) (omega (arith, lt))) (get_or-map-range_with_len old 0 (target_count program) k k None lt (omega arith))
    ∙ same k lt))
  where
    ts : List ℕ
    ts = filter hit (range_with_len 0 (target_count program))

    before : List (Option ℕ)
    before = map old (range_with_len 0 (target_count program))

    long : length before ≡ target_count program
    long = length-map-range_with_len old 0 (target_count program)

-- ---- collapses
one_more : (before : ℕ) (c : Measured) (r : Option Recorded) (o : Option ℕ) (b : Bool) → or_where before b (option_map (λ k. before + 1 + k) o) ≡ option_map (λ k. before + k) (later_or_here (Collapse c r) o b)
one_more before c r (Some k) b = let e : before + 1 + k ≡ before + (1 + k) = omega arith in ap Some e
one_more before c r None true = let e : before ≡ before + 0 = omega arith in ap Some e
one_more before c r None false = refl

pub latest_before-collapse : (program : Listing) (before : ℕ) (terms : List Term) (c : Measured) (r : Option Recorded) (steps : List ListedStep) → word_of_terms program.qubits terms ≡ measured_word program.qubits c
    → noted before (anticommuting terms (tracked_before program steps)) (latest_before program (before + 1) steps) ≡ latest_before program before (Collapse c r ∷ steps)
latest_before-collapse program before terms c r steps e =
    ap (λ ts. noted before ts (latest_before program (before + 1) steps)) (anticommuting-before program terms steps)
    ∙ noted_each program before
    (λ d. option_map (λ k. before + 1 + k) (latest_place program.qubits (target_at program d) steps))
    (λ d. option_map (λ k. before + k) (latest_place program.qubits (target_at program d) (Collapse c r ∷ steps)))
    (λ d. anticommute (sensitivity_before program steps d).word (word_of_terms program.qubits terms))
    (λ d lt. ap (λ b. or_where before b (option_map (λ k. before + 1 + k) (latest_place program.qubits (target_at program d) steps)))
    (ap (anticommute (sensitivity_before program steps d).word) e ∙ anticommute_comm (sensitivity_before program steps d).word (measured_word program.qubits c))
    ∙ one_more before c r (latest_place program.qubits (target_at program d) steps) (anticommute (measured_word program.qubits c) (sensitivity_before program steps d).word))

pub latest_before-none : (program : Listing) (before : ℕ) → replicate (length (targets_of program)) None ≡ latest_before program before []
latest_before-none program before =
    fill_by_all (λ d. None) (replicate (target_count program) None) (target_count program) None (length-replicate (target_count program) None)
    (λ k lt. get_or-replicate (target_count program) k None None lt)

-- the targets that are hit are among those that there are
pub hit_in_words : (n : ℕ) (terms : List Term) (t : Tracked) → length t.words ≡ n → All (λ k. k < n) (anticommuting terms t)
hit_in_words n terms t e =
    All-filter (λ k. anticommute (get_or t.words k []) (word_of_terms t.qubits terms)) (λ k. k < n) (range_with_len 0 (length t.words))
    (All-weaker (λ k. k < 0 + length t.words) (λ k. k < n) (λ k within. omega (arith, within, e)) (range_with_len 0 (length t.words)) (All-range 0 (length t.words)))

pub hit_in_range : (program : Listing) (terms : List Term) (t : Tracked) → length t.words ≡ length (targets_of program) → All (λ k. k < length (targets_of program)) (anticommuting terms t)
hit_in_range program terms t e = hit_in_words (length (targets_of program)) terms t e

-- ---- the start
next_lowest : (q : ℕ) (w : List Letter) → q < length w → or_where q (has_X_or_Y (letter_at w q)) (lowest_X_or_Y (take q w)) ≡ lowest_X_or_Y (take (suc q) w)
next_lowest q [] h = absurd (omega (arith, h))
next_lowest zero (a ∷ w) h = first (has_X_or_Y a)
  where
    first : (b : Bool) → or_where zero b None ≡ cond b (Some 0) (option_map suc (lowest_X_or_Y []))
    first true = refl
    first false = refl
next_lowest (suc q) (a ∷ w) h = by_letter (has_X_or_Y a) (next_lowest q w (omega (arith, h)))
  where
    shifted : (b : Bool) (o : Option ℕ) → or_where (suc q) b (option_map suc o) ≡ option_map suc (or_where q b o)
    shifted b (Some k) = refl
    shifted true None = refl
    shifted false None = refl

    by_letter : (b : Bool) → or_where q (has_X_or_Y (letter_at w q)) (lowest_X_or_Y (take q w)) ≡ lowest_X_or_Y (take (suc q) w)
        → or_where (suc q) (has_X_or_Y (letter_at w q)) (cond b (Some 0) (option_map suc (lowest_X_or_Y (take q w)))) ≡ cond b (Some 0) (option_map suc (lowest_X_or_Y (take (suc q) w)))
    by_letter true later = refl
    by_letter false later = shifted (has_X_or_Y (letter_at w q)) (lowest_X_or_Y (take q w)) ∙ ap (option_map suc) later

clash_with_Z : (a : Letter) → letters_clash Z a ≡ has_X_or_Y a
clash_with_Z I = refl
clash_with_Z X = refl
clash_with_Z Y = refl
clash_with_Z Z = refl

pub lowest_below-more : (program : Listing) (q : ℕ) → AllPass (step_fits program) program.steps → q < program.qubits
    → noted q (anticommuting (record { qubit = q; letter = Z } ∷ []) (tracked_before program program.steps)) (lowest_below program q) ≡ lowest_below program (q + 1)
lowest_below-more program q fits within =
    ap (λ ts. noted q ts (lowest_below program q)) (anticommuting-before program (record { qubit = q; letter = Z } ∷ []) program.steps)
    ∙ noted_each program q (λ d. lowest_X_or_Y (take q (word d))) (λ d. lowest_X_or_Y (take (q + 1) (word d)))
    (λ d. anticommute (word d) (word_of_terms program.qubits (record { qubit = q; letter = Z } ∷ [])))
    (λ d lt. ap (λ b. or_where q b (lowest_X_or_Y (take q (word d))))
    (one_term program.qubits (word d) (record { qubit = q; letter = Z }) (long d) within ∙ clash_with_Z (letter_at (word d) q))
    ∙ (next_lowest q (word d) (omega (arith, within, long d)) ∙ ap (λ k. lowest_X_or_Y (take k (word d))) next))
  where
    word : ℕ → List Letter
    word d = (sensitivity_before program program.steps d).word

    long : (d : ℕ) → length (word d) ≡ program.qubits
    long d = length-sensitivity program (target_at program d) program.steps fits

    next : suc q ≡ q + 1
    next = omega arith

pub length-lowest_below : (program : Listing) (q : ℕ) → length (lowest_below program q) ≡ length (targets_of program)
length-lowest_below program q = length-map-range_with_len (λ d. lowest_X_or_Y (take q (sensitivity_before program program.steps d).word)) 0 (target_count program)

pub lowest_below-none : (program : Listing) → replicate (length (targets_of program)) None ≡ lowest_below program 0
lowest_below-none program =
    fill_by_all (λ d. lowest_X_or_Y (take 0 (sensitivity_before program program.steps d).word)) (replicate (target_count program) None) (target_count program) None (length-replicate (target_count program) None)
    (λ k lt. get_or-replicate (target_count program) k None None lt)

pub lowest_below-all : (program : Listing) (d : ℕ) → AllPass (step_fits program) program.steps → d < length (targets_of program) → get_or (lowest_below program program.qubits) d None ≡ lowest_X_or_Y (sensitivity_before program program.steps d).word
lowest_below-all program d fits lt =
    get_or-map-range_with_len (λ d. lowest_X_or_Y (take program.qubits (sensitivity_before program program.steps d).word)) 0 (target_count program) d d None lt (omega arith)
    ∙ ap lowest_X_or_Y (take_all program.qubits (sensitivity_before program program.steps d).word (omega (arith, length-sensitivity program (target_at program d) program.steps fits)))

pub length-latest_before : (program : Listing) (left : ℕ) (steps : List ListedStep) → length (latest_before program left steps) ≡ length (targets_of program)
length-latest_before program left steps = length-map-range_with_len (λ d. option_map (λ k. left + k) (latest_place program.qubits (target_at program d) steps)) 0 (target_count program)
