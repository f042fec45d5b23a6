-- The lines of a stretch of steps; those of all steps are the error model's.
use Rattle.std.proofs.Common.{◌≡◌, ℕ, zero, suc, ◌+◌, ◌-◌, ◌<◌, ◌≤◌, ◌==◌, Bool, false, not, ◌&&◌, ◌||◌, cond, List, [], ◌∷◌, ◌++◌, map, length, drop, get_or, Some, refl, ap, ap₂, sym, ◌∙◌, arith}
use Rattle.std.specs.Prelude.{filter, reverse}
use Rattle.std.specs.List.{range_with_len, flat_map}
use Rattle.std.proofs.lemmas.Bool.{eq-eqb, ne_eqb}
use Rattle.std.proofs.lemmas.Grind.{flat_map-append}
use Rattle.std.proofs.lemmas.List.{append-nil, reverse-append, reverse-reverse, drop_all, drop_more}
use Rattle.std.proofs.lemmas.List.FromFn.{get_or-map-range_with_len, length-map-range_with_len}
use Rattle.pauli_word.specs.Words.{anticommute}
use Rattle.step_model.specs.declared.step.Term.{Term}
use Rattle.step_model.specs.ErrorModels.{ErrorLine}
use Rattle.step_model.specs.HitModels.{targets_hit, error_line_of, model_of}
use Rattle.step_model.specs.Hits.{hits_at, hits_among}
use Rattle.step_model.specs.Listing.{Listing, ListedStep, Collapse, Fault, Measured, Recorded, word_of_terms, fault_at, fault_word}
use Rattle.step_model.specs.Sensitivities.{sensitivity}
use Rattle.step_model.specs.Targets.{targets_of, target_at, is_listed}
use Rattle.step_model.specs.WellFormed.{IsWellFormed, faults_named, step_faults}
use Rattle.step_model.proofs.HitSteps.{NamesFew, Nothing, One_fault, earlier, first_of_range, names_few, or_none, rest_of_range, unnamed}
use Rattle.error_models.specs.ModelText.{line_text}
use Rattle.backward.specs.private.Passes.{tracked_before, listing_at}
use Rattle.record_targets.specs.ListingSets.{sensitivity_before, listing_set}
use Rattle.backward.specs.private.Stretches.{line_for, hit_at, line_at, first_lines, lines_at, lines_between, text_between}
use Rattle.trackers.specs.Tracked.{anticommuting}
use Rattle.backward.proofs.PassWords.{words_count, words_at}
use Rattle.step_model.proofs.MemberLemmas.{filter_range_agree}

abbrev target_count : Listing → ℕ
target_count program = length (targets_of program)

-- ---- all steps
-- the lines found going back over these steps, the last of them first
abbrev lines_found : Listing → List ListedStep → List ErrorLine
lines_found program [] = []
lines_found program (step ∷ steps) = lines_found program steps ++ first_lines program (step ∷ steps)

-- the line of a fault for what it hits at these steps
abbrev line_among : Listing → List ListedStep → ℕ → List ErrorLine
line_among program steps f = line_for (fault_at program f).text (filter (λ d. hits_among program (target_at program d) f steps) (range_with_len 0 (target_count program)))

pub reverse_line : (text ts : List ℕ) → reverse (line_for text ts) ≡ line_for text ts
reverse_line text [] = refl
reverse_line text (t ∷ ts) = refl

-- a step that names no fault adds nothing to what the faults after it hit
others_same : (program : Listing) (step : ListedStep) (steps : List ListedStep) (k m : ℕ) → ((named : List ℕ) (f : ℕ) → k ≤ f → hits_at program f step (sensitivity program.qubits named steps) ≡ false)
    → flat_map (line_among program steps) (range_with_len k m) ≡ flat_map (line_among program (step ∷ steps)) (range_with_len k m)
others_same program step steps k zero none = refl
others_same program step steps k (suc m) none =
    ap₂ (λ hit rest. line_for (fault_at program k).text hit ++ rest)
    (filter_range_agree (λ d. hits_among program (target_at program d) k steps) (λ d. hits_among program (target_at program d) k (step ∷ steps)) 0 (target_count program)
    (λ d lt. ap (λ b. b || hits_among program (target_at program d) k steps) (sym (none (target_at program d) k (omega arith)))))
    (others_same program step steps (k + 1) m (λ named f le. none named f (omega (arith, le))))

lines_found-among : (program : Listing) (steps : List ListedStep) (k m : ℕ) → faults_named steps ≡ range_with_len k m → lines_found program steps ≡ reverse (flat_map (line_among program steps) (range_with_len k m))
lines_found-among program [] k zero h = refl
lines_found-among program [] k (suc m) h = cc
lines_found-among program (step ∷ steps) k m h = by_names (names_few step) (λ a b p. lines_found-among program steps a b p)
  where
    by_names : NamesFew (step_faults step) → ((a b : ℕ) → faults_named steps ≡ range_with_len a b → lines_found program steps ≡ reverse (flat_map (line_among program steps) (range_with_len a b))) → lines_found program (step ∷ steps) ≡ reverse (flat_map (line_among program (step ∷ steps)) (range_with_len k m))
    by_names (Nothing none) found_later =
        ap (λ fs. lines_found program steps ++ flat_map (line_at program step steps) fs) none
        ∙ (append-nil (lines_found program steps)
        ∙ (found_later k m (sym (ap (λ fs. fs ++ faults_named steps) none) ∙ h)
        ∙ ap reverse (others_same program step steps k m (λ named f le. unnamed program f step (sensitivity program.qubits named steps) [] none tt))))
    by_names (One_fault e one) found_later =
        let whole : e ∷ faults_named steps ≡ range_with_len k m = sym (ap (λ fs. fs ++ faults_named steps) one) ∙ h in
        let first : e ≡ k = first_of_range e k m (faults_named steps) whole in
        let later = rest_of_range e k m (faults_named steps) whole in
        let rest : List ErrorLine = flat_map (line_among program (step ∷ steps)) (range_with_len (k + 1) later.0) in
        let own : line_among program (step ∷ steps) e ≡ line_at program step steps e =
        ap (line_for (fault_at program e).text)
        (filter_range_agree (λ d. hits_among program (target_at program d) e (step ∷ steps)) (λ d. hits_at program e step (sensitivity_before program steps d)) 0 (target_count program)
        (λ d lt. ap (λ b. hits_at program e step (sensitivity_before program steps d) || b) (earlier program (target_at program d) e steps (k + 1) later.0 later.1 (omega (arith, first)))
        ∙ or_none (hits_at program e step (sensitivity_before program steps d)))) in
        let found : lines_found program steps ≡ reverse rest =
        found_later (k + 1) later.0 later.1
        ∙ ap reverse (others_same program step steps (k + 1) later.0 (λ named f le. unnamed program f step (sensitivity program.qubits named steps) (e ∷ []) one (λ p. omega (arith, p, first, le)))) in
        ap (λ fs. lines_found program steps ++ flat_map (line_at program step steps) fs) one
        ∙ (ap (λ l. lines_found program steps ++ l) (append-nil (line_at program step steps e) ∙ sym own)
        ∙ (ap₂ (λ (x y : List ErrorLine). x ++ y) found (sym (reverse_line (fault_at program e).text (filter (λ d. hits_among program (target_at program d) e (step ∷ steps)) (range_with_len 0 (target_count program)))))
        ∙ (sym (reverse-append (line_among program (step ∷ steps) e) rest)
        ∙ ap (λ fs. reverse (flat_map (line_among program (step ∷ steps)) fs)) (ap (λ fs. e ∷ fs) (sym later.1) ∙ whole))))

-- the lines for all faults are those of the faults that hit something
lines_of_hits : (program : Listing) (fs : List ℕ) → flat_map (line_among program program.steps) fs ≡ map (error_line_of program) (filter (λ f. not (length (targets_hit program f) == 0)) fs)
lines_of_hits program [] = refl
lines_of_hits program (f ∷ fs) = by_hit (targets_hit program f) refl (lines_of_hits program fs)
  where
    rest : List ErrorLine
    rest = map (error_line_of program) (filter (λ f. not (length (targets_hit program f) == 0)) fs)

    chosen : Bool → List ErrorLine
    chosen b = map (error_line_of program) (cond (not b) (f ∷ filter (λ f. not (length (targets_hit program f) == 0)) fs) (filter (λ f. not (length (targets_hit program f) == 0)) fs))

    by_hit : (ts : List ℕ) → targets_hit program f ≡ ts → flat_map (line_among program program.steps) fs ≡ rest → flat_map (line_among program program.steps) (f ∷ fs) ≡ map (error_line_of program) (filter (λ f. not (length (targets_hit program f) == 0)) (f ∷ fs))
    by_hit [] e more_is =
        ap₂ (λ hit more. line_for (fault_at program f).text hit ++ more) e more_is
        ∙ sym (ap chosen (eq-eqb (length (targets_hit program f)) 0 (ap length e)))
    by_hit (t ∷ ts) e more_is =
        ap₂ (λ hit more. line_for (fault_at program f).text hit ++ more) e more_is
        ∙ (ap (λ (hit : List ℕ). record { text = (fault_at program f).text; targets = hit } ∷ rest) (sym e)
        ∙ sym (ap chosen (ne_eqb (length (targets_hit program f)) 0 (λ none. omega (arith, none, ap length e)))))

lines_found-all : (program : Listing) → IsWellFormed program → lines_found program program.steps ≡ reverse (model_of program).lines
lines_found-all program fits =
    lines_found-among program program.steps 0 (length program.faults) fits.faults_in_order
    ∙ ap reverse (lines_of_hits program (range_with_len 0 (length program.faults)))

-- ---- stretches
-- a step has one line at most
pub reverse_first : (program : Listing) (steps : List ListedStep) → reverse (first_lines program steps) ≡ first_lines program steps
reverse_first program [] = refl
reverse_first program (step ∷ steps) = by_names (names_few step)
  where
    by_names : NamesFew (step_faults step) → reverse (first_lines program (step ∷ steps)) ≡ first_lines program (step ∷ steps)
    by_names (Nothing none) = ap (λ fs. reverse (flat_map (line_at program step steps) fs)) none ∙ ap (flat_map (line_at program step steps)) (sym none)
    by_names (One_fault e one) =
        ap (λ fs. reverse (flat_map (line_at program step steps) fs)) one
        ∙ (ap reverse (append-nil (line_at program step steps e))
        ∙ (reverse_line (fault_at program e).text (hit_at program step steps e)
        ∙ (sym (append-nil (line_at program step steps e)) ∙ ap (flat_map (line_at program step steps)) (sym one))))

found_between : (program : Listing) (k m : ℕ) → k + m ≡ length program.steps → lines_found program (drop k program.steps) ≡ reverse (flat_map (lines_at program) (range_with_len k m))
found_between program k zero e = ap (lines_found program) (drop_all k program.steps (omega (arith, e)))
found_between program k (suc m) e =
    let step : ListedStep = get_or program.steps k (Fault 0) in
    let steps : List ListedStep = drop (k + 1) program.steps in
    let front : drop k program.steps ≡ step ∷ steps = drop_more program.steps k (Fault 0) (omega (arith, e)) in
    let next : k + 1 + m ≡ length program.steps = omega (arith, e) in
    ap (lines_found program) front
    ∙ (ap₂ (λ (x y : List ErrorLine). x ++ y) (found_between program (k + 1) m next) (sym (reverse_first program (step ∷ steps)) ∙ ap (λ l. reverse (first_lines program l)) (sym front))
    ∙ sym (reverse-append (lines_at program k) (flat_map (lines_at program) (range_with_len (k + 1) m))))

-- the lines of all steps are the model's
pub lines_between-all : (program : Listing) → IsWellFormed program → lines_between program 0 (length program.steps) ≡ (model_of program).lines
lines_between-all program fits =
    let lines : List ErrorLine = flat_map (lines_at program) (range_with_len 0 (length program.steps)) in
    let whole : reverse lines ≡ reverse (model_of program).lines = sym (found_between program 0 (length program.steps) (omega arith)) ∙ lines_found-all program fits in
    let count : length program.steps - 0 ≡ length program.steps = omega arith in
    ap (λ n. flat_map (lines_at program) (range_with_len 0 n)) count ∙ (sym (reverse-reverse lines) ∙ (ap reverse whole ∙ reverse-reverse (model_of program).lines))

-- none between a place and itself
pub lines_between-none : (program : Listing) (k : ℕ) → lines_between program k k ≡ []
lines_between-none program k = let none : k - k ≡ 0 = omega arith in ap (λ n. flat_map (lines_at program) (range_with_len k n)) none

-- one step more, in front
pub lines_between-more : (program : Listing) (k to : ℕ) → k < to → lines_between program k to ≡ lines_at program k ++ lines_between program (k + 1) to
lines_between-more program k to lt =
    let count : to - k ≡ suc (to - (k + 1)) = omega (arith, lt) in
    ap (λ n. flat_map (lines_at program) (range_with_len k n)) count

pub lines_back-more : (program : Listing) (k to : ℕ) → k < to → reverse (lines_between program (k + 1) to) ++ lines_at program k ≡ reverse (lines_between program k to)
lines_back-more program k to lt =
    ap (λ l. reverse (lines_between program (k + 1) to) ++ l) (sym (reverse_first program (drop k program.steps)))
    ∙ (sym (reverse-append (lines_at program k) (lines_between program (k + 1) to)) ∙ ap reverse (sym (lines_between-more program k to lt)))

range_parts : (a m n : ℕ) → range_with_len a m ++ range_with_len (a + m) n ≡ range_with_len a (m + n)
range_parts a zero n =
    let same : a + 0 ≡ a = omega arith in
    let count : n ≡ 0 + n = omega arith in
    ap₂ range_with_len same count
range_parts a (suc m) n =
    let next : a + suc m ≡ a + 1 + m = omega arith in
    let count : suc (m + n) ≡ suc m + n = omega arith in
    ap (λ k. a ∷ (range_with_len (a + 1) m ++ range_with_len k n)) next ∙ (ap (λ l. a ∷ l) (range_parts (a + 1) m n) ∙ ap (range_with_len a) count)

-- two stretches, one after the other
pub lines_between-parts : (program : Listing) (a b c : ℕ) → a ≤ b → b ≤ c → lines_between program a b ++ lines_between program b c ≡ lines_between program a c
lines_between-parts program a b c ab bc =
    let to : a + (b - a) ≡ b = omega (arith, ab) in
    let all : b - a + (c - b) ≡ c - a = omega (arith, ab, bc) in
    sym (flat_map-append (lines_at program) (range_with_len a (b - a)) (range_with_len b (c - b)))
    ∙ ap (flat_map (lines_at program)) (ap (λ k. range_with_len a (b - a) ++ range_with_len k (c - b)) (sym to) ∙ (range_parts a (b - a) (c - b) ∙ ap (range_with_len a) all))

pub text_between-parts : (program : Listing) (a b c : ℕ) → a ≤ b → b ≤ c → text_between program a b ++ text_between program b c ≡ text_between program a c
text_between-parts program a b c ab bc =
    sym (flat_map-append (line_text (length program.detectors)) (lines_between program a b) (lines_between program b c))
    ∙ ap (flat_map (line_text (length program.detectors))) (lines_between-parts program a b c ab bc)

-- ---- what is noted at a step
-- at a collapse: its flip hits the targets that list its record
pub hit_at-collapse : (program : Listing) (c : Measured) (r : Recorded) (steps : List ListedStep) (f : ℕ) → r.flip ≡ Some f → listing_at program steps (Some r.number) ≡ hit_at program (Collapse c (Some r)) steps f
hit_at-collapse program c r steps f e =
    ap (λ n. filter (λ t. get_or (listing_set program steps r.number) t false) (range_with_len 0 n)) (length-map-range_with_len lists 0 (target_count program))
    ∙ filter_range_agree (λ t. get_or (listing_set program steps r.number) t false) (λ d. hits_at program f (Collapse c (Some r)) (sensitivity_before program steps d)) 0 (target_count program)
    (λ d lt. get_or-map-range_with_len lists 0 (target_count program) d d false (omega (arith, lt)) (omega arith)
    ∙ sym (ap (λ flip. hits_at program f (Collapse c (Some (record r { flip = flip }))) (sensitivity_before program steps d)) e
    ∙ ap (λ b. b && lists d) (eq-eqb f f refl)))
  where
    lists : ℕ → Bool
    lists d = is_listed (sensitivity_before program steps d).records r.number

-- the targets whose words anticommute with a product of letters
pub anticommuting-before : (program : Listing) (terms : List Term) (steps : List ListedStep) → anticommuting terms (tracked_before program steps) ≡ filter (λ d. anticommute (sensitivity_before program steps d).word (word_of_terms program.qubits terms)) (range_with_len 0 (length (targets_of program)))
anticommuting-before program terms steps =
    ap (λ n. filter (λ k. anticommute (get_or (tracked_before program steps).words k []) (word_of_terms program.qubits terms)) (range_with_len 0 n)) (words_count program steps)
    ∙ filter_range_agree (λ k. anticommute (get_or (tracked_before program steps).words k []) (word_of_terms program.qubits terms)) (λ d. anticommute (sensitivity_before program steps d).word (word_of_terms program.qubits terms)) 0 (target_count program)
    (λ k lt. ap (λ w. anticommute w (word_of_terms program.qubits terms)) (words_at program steps k (omega (arith, lt))))

-- at a fault that applies a word
pub hit_at-fault : (program : Listing) (f : ℕ) (terms : List Term) (steps : List ListedStep) → word_of_terms program.qubits terms ≡ fault_word program f → anticommuting terms (tracked_before program steps) ≡ hit_at program (Fault f) steps f
hit_at-fault program f terms steps e =
    anticommuting-before program terms steps
    ∙ filter_range_agree (λ d. anticommute (sensitivity_before program steps d).word (word_of_terms program.qubits terms)) (λ d. hits_at program f (Fault f) (sensitivity_before program steps d)) 0 (target_count program)
    (λ d lt. ap (anticommute (sensitivity_before program steps d).word) e
    ∙ ap (λ b. b && anticommute (sensitivity_before program steps d).word (fault_word program f)) (sym (eq-eqb f f refl)))
