-- The words that are tracked, gone back over one step.
use Rattle.std.proofs.Common.{◌≡◌, ℕ, ◌<◌, Bool, true, false, List, [], ◌∷◌, map, length, get_or, Option, None, Some, refl, ap, ap₂, sym, ◌∙◌, arith, length-set}
use Rattle.std.specs.Prelude.{All, replicate}
use Rattle.std.specs.List.{range_with_len, AllPass}
use Rattle.std.proofs.lemmas.List.{get_or-replicate, length-replicate}
use Rattle.std.proofs.lemmas.List.FromFn.{length-map-range_with_len, get_or-map-range_with_len, fill_by_all}
use Rattle.gate_table.specs.declared.gate.Gate.{Gate}
use Rattle.pauli_word.specs.declared.letter.Letter.{Letter}
use Rattle.pauli_word.specs.Words.{letters_product, no_letters, lone_letter}
use Rattle.pauli_word.proofs.LoneLetters.{length-lone_letter, letters_product_of_no_letters}
use Rattle.pauli_word.proofs.WordLaws.{length-letters_product, letters_product_assoc, letters_product_comm}
use Rattle.step_model.specs.declared.step.Term.{Term}
use Rattle.step_model.specs.Listing.{Listing, ListedStep, One, Two, Collapse, Measured, Recorded, word_of_terms}
use Rattle.step_model.specs.Sensitivities.{cleared, multiplied, record_counts}
use Rattle.step_model.specs.Targets.{targets_of, is_listed}
use Rattle.step_model.specs.WellFormed.{step_fits}
use Rattle.backward.specs.private.Collapses.{times_terms, reset_at, undone_collapse}
use Rattle.backward.specs.private.Passes.{IsMeasured, reset_word, tracked_before, listing_at}
use Rattle.record_targets.specs.ListingSets.{sensitivity_before, listing_set}
use Rattle.trackers.specs.Tracked.{Tracked, fresh, each_word, with_I_at, undone_one, undone_two, is_among, added}
use Rattle.step_model.proofs.MemberLemmas.{map_range_below, map-map, among_members}
use Rattle.step_model.proofs.SensitivityLengths.{length-sensitivity}

abbrev with_words : ℕ → List (List Letter) → Tracked
with_words n words = record { qubits = n; words = words }

abbrev target_count : Listing → ℕ
target_count program = length (targets_of program)

-- the word of a target before these steps
abbrev word : Listing → List ListedStep → ℕ → List Letter
word program steps d = (sensitivity_before program steps d).word

pub words_count : (program : Listing) (steps : List ListedStep) → length (tracked_before program steps).words ≡ length (targets_of program)
words_count program steps = length-map-range_with_len (word program steps) 0 (target_count program)

pub words_at : (program : Listing) (steps : List ListedStep) (d : ℕ) → d < length (targets_of program) → get_or (tracked_before program steps).words d [] ≡ (sensitivity_before program steps d).word
words_at program steps d h = get_or-map-range_with_len (word program steps) 0 (target_count program) d d [] h (omega arith)

-- fresh words are those after the last step
pub tracked_before-none : (program : Listing) → fresh program.qubits (length (targets_of program)) ≡ tracked_before program []
tracked_before-none program =
    ap (with_words program.qubits)
    (fill_by_all (word program []) (replicate (target_count program) (no_letters program.qubits)) (target_count program) []
    (length-replicate (target_count program) (no_letters program.qubits))
    (λ k lt. get_or-replicate (target_count program) k (no_letters program.qubits) [] lt))

pub tracked_before-one : (program : Listing) (gate : Gate) (q : ℕ) (steps : List ListedStep) → each_word (undone_one gate q) (tracked_before program steps) ≡ tracked_before program (One gate q ∷ steps)
tracked_before-one program gate q steps = ap (with_words program.qubits) (map-map (undone_one gate q) (word program steps) (range_with_len 0 (target_count program)))

pub tracked_before-two : (program : Listing) (gate : Gate) (a b : ℕ) (steps : List ListedStep) → each_word (undone_two gate a b) (tracked_before program steps) ≡ tracked_before program (Two gate a b ∷ steps)
tracked_before-two program gate a b steps = ap (with_words program.qubits) (map-map (undone_two gate a b) (word program steps) (range_with_len 0 (target_count program)))

-- ---- products
product_twice : (b : Bool) (v u w : List Letter) → multiplied b u (multiplied b v w) ≡ multiplied b (letters_product v u) w
product_twice false v u w = refl
product_twice true v u w = sym (letters_product_assoc u v w) ∙ ap (λ p. letters_product p w) (letters_product_comm u v)

product_of_none : (b : Bool) (n : ℕ) (w : List Letter) → length w ≡ n → w ≡ multiplied b (no_letters n) w
product_of_none false n w h = refl
product_of_none true n w h = sym (letters_product_of_no_letters n w h)

length-multiplied : (b : Bool) (n : ℕ) (v w : List Letter) → length v ≡ n → length w ≡ n → length (multiplied b v w) ≡ n
length-multiplied false n v w h k = k
length-multiplied true n v w h k = length-letters_product v w (h ∙ sym k) ∙ h

-- the words of some targets, times the whole product
pub times_terms_each : (targets : List ℕ) (terms : List Term) (n : ℕ) (words : List (List Letter)) → All (λ w. length w ≡ n) words
    → times_terms targets terms (with_words n words) ≡ with_words n (map (λ k. multiplied (is_among targets k) (word_of_terms n terms) (get_or words k [])) (range_with_len 0 (length words)))
times_terms_each targets [] n words long =
    ap (with_words n)
    (fill_by_all (λ k. multiplied (is_among targets k) (no_letters n) (get_or words k [])) words (length words) [] refl
    (λ k lt. product_of_none (is_among targets k) n (get_or words k []) (long k [] lt)))
times_terms_each targets (term ∷ terms) n words long =
    times_terms_each targets terms n next next_long
    ∙ ap (with_words n)
    (ap (λ m. map (λ k. multiplied (is_among targets k) (word_of_terms n terms) (get_or next k [])) (range_with_len 0 m)) count
    ∙ map_range_below (λ k. multiplied (is_among targets k) (word_of_terms n terms) (get_or next k [])) (λ k. multiplied (is_among targets k) (word_of_terms n (term ∷ terms)) (get_or words k [])) 0 (length words)
    (λ k lt. ap (multiplied (is_among targets k) (word_of_terms n terms)) (next_at k (omega (arith, lt)))
    ∙ product_twice (is_among targets k) (lone_letter n term.qubit term.letter) (word_of_terms n terms) (get_or words k [])))
  where
    made : ℕ → List Letter
    made k = multiplied (is_among targets k) (lone_letter n term.qubit term.letter) (get_or words k [])

    next : List (List Letter)
    next = map made (range_with_len 0 (length words))

    count : length next ≡ length words
    count = length-map-range_with_len made 0 (length words)

    next_at : (k : ℕ) → k < length words → get_or next k [] ≡ made k
    next_at k lt = get_or-map-range_with_len made 0 (length words) k k [] lt (omega arith)

    next_long : All (λ w. length w ≡ n) next
    next_long k d lt =
        let within : k < length words = omega (arith, lt, count) in
        ap length (get_or-map-range_with_len made 0 (length words) k k d within (omega arith))
        ∙ length-multiplied (is_among targets k) n (lone_letter n term.qubit term.letter) (get_or words k []) (length-lone_letter n term.qubit term.letter) (long k [] within)

-- ---- collapses
abbrev pub recorded_number : Option Recorded → Option ℕ
recorded_number None = None
recorded_number (Some r) = Some r.number

-- the words after the reset
after_reset : (program : Listing) (reset : Option ℕ) (steps : List ListedStep) → reset_at reset (tracked_before program steps) ≡ with_words program.qubits (map (λ d. reset_word reset (word program steps d)) (range_with_len 0 (target_count program)))
after_reset program None steps = refl
after_reset program (Some q) steps = ap (with_words program.qubits) (map-map (with_I_at q) (word program steps) (range_with_len 0 (target_count program)))

-- a target is among those whose sensitivity lists the record exactly where that counts it
counted : (program : Listing) (r : Option Recorded) (steps : List ListedStep) (rec : Option ℕ) → recorded_number r ≡ rec → (k : ℕ) → k < length (targets_of program)
    → is_among (listing_at program steps rec) k ≡ record_counts (sensitivity_before program steps k).records r
counted program None steps None e k lt = refl
counted program None steps (Some n) e k lt = cc
counted program (Some r) steps None e k lt = cc
counted program (Some r) steps (Some n) e k lt =
    let same : r.number ≡ n = cc in
    let set : List Bool = listing_set program steps n in
    let lists : ℕ → Bool = λ d. is_listed (sensitivity_before program steps d).records n in
    among_members set k (omega (arith, lt, length-map-range_with_len lists 0 (target_count program)))
    ∙ (get_or-map-range_with_len lists 0 (target_count program) k k false lt (omega arith)
    ∙ ap (is_listed (sensitivity_before program steps k).records) (sym same))

pub tracked_before-collapse : (program : Listing) (c : Measured) (r : Option Recorded) (steps : List ListedStep) (terms : List Term) (reset rec : Option ℕ)
    → IsMeasured program.qubits terms reset c → recorded_number r ≡ rec → AllPass (step_fits program) steps
    → undone_collapse (listing_at program steps rec) terms reset (tracked_before program steps) ≡ tracked_before program (Collapse c r ∷ steps)
tracked_before-collapse program c r steps terms reset rec is e fits =
    ap (times_terms targets terms) (after_reset program reset steps)
    ∙ (times_terms_each targets terms program.qubits cleared_words long
    ∙ ap (with_words program.qubits)
    (ap (λ m. map made (range_with_len 0 m)) count
    ∙ map_range_below made (word program (Collapse c r ∷ steps)) 0 (target_count program) (λ k lt. at_each k (omega (arith, lt)))))
  where
    targets : List ℕ
    targets = listing_at program steps rec

    cleared_words : List (List Letter)
    cleared_words = map (λ d. reset_word reset (word program steps d)) (range_with_len 0 (target_count program))

    count : length cleared_words ≡ target_count program
    count = length-map-range_with_len (λ d. reset_word reset (word program steps d)) 0 (target_count program)

    made : ℕ → List Letter
    made k = multiplied (is_among targets k) (word_of_terms program.qubits terms) (get_or cleared_words k [])

    length-reset : (o : Option ℕ) (w : List Letter) → length (reset_word o w) ≡ length w
    length-reset None w = refl
    length-reset (Some q) w = length-set w q _

    long : All (λ w. length w ≡ program.qubits) cleared_words
    long k d lt =
        ap length (get_or-map-range_with_len (λ d. reset_word reset (word program steps d)) 0 (target_count program) k k d (omega (arith, lt, count)) (omega arith))
        ∙ (length-reset reset (word program steps k) ∙ length-sensitivity program _ steps fits)

    at_each : (k : ℕ) → k < target_count program → made k ≡ word program (Collapse c r ∷ steps) k
    at_each k lt =
        ap₂ (λ b w. multiplied b (word_of_terms program.qubits terms) w) (counted program r steps rec e k lt)
        (get_or-map-range_with_len (λ d. reset_word reset (word program steps d)) 0 (target_count program) k k [] lt (omega arith) ∙ sym (is.clears (word program steps k)))
        ∙ ap (λ v. multiplied (record_counts (sensitivity_before program steps k).records r) v (cleared c (word program steps k))) is.word_is

pub length-added : (targets : List ℕ) (letter : Letter) (q : ℕ) (t : Tracked) → length (added targets letter q t).words ≡ length t.words
length-added targets letter q t = length-map-range_with_len (λ k. multiplied (is_among targets k) (lone_letter t.qubits q letter) (get_or t.words k [])) 0 (length t.words)

-- words that no target lists stay
added_none : (letter : Letter) (q : ℕ) (t : Tracked) → added [] letter q t ≡ t
added_none letter q t =
    ap (λ (words : List (List Letter)). record t { words = words }) (sym (fill_by_all (λ k. get_or t.words k []) t.words (length t.words) [] refl (λ k lt. refl)))

pub times_none : (targets : List ℕ) (terms : List Term) (t : Tracked) → length targets ≡ 0 → times_terms targets terms t ≡ t
times_none [] [] t none = refl
times_none [] (term ∷ terms) t none = ap (times_terms [] terms) (added_none term.letter term.qubit t) ∙ times_none [] terms t none
times_none (x ∷ targets) terms t none = absurd (omega (arith, none))
