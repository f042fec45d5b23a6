-- A run and the reference run that differ by a frame before a step differ by the followed frame behind it.
use Rattle.std.proofs.Common.{append-nil, ◌≡◌, ℕ, ◌||◌, ◌&&◌, not, Bool, true, false, List, [], ◌∷◌, ◌++◌, length, drop, Option, None, Some, refl, ap, ap₂, sym, subst, ◌∙◌, if◌then◌else◌}
use Rattle.pauli_word.specs.declared.letter.Letter.{Letter}
use Rattle.pauli_word.specs.Parity.{exclusive_or}
use Rattle.pauli_word.specs.States.{State, applied, collapsed, correcting, is_decided, outcome}
use Rattle.pauli_word.specs.Words.{Signed, anticommute, lone_letter, product, signed, with_sign_changed}
use Rattle.pauli_word.proofs.Parities.{exclusive_or-false}
use Rattle.pauli_word.proofs.WordLaws.{anticommute_comm}
use Rattle.step_model.specs.declared.step.Term.{Term}
use Rattle.step_model.specs.Frames.{Frame}
use Rattle.step_model.specs.Listing.{Listing, ListedStep, One, Two, Collapse, Fault, Feedback, Measured, Word, Reset, Recorded, measured_word, word_of_terms, is_collapse}
use Rattle.step_model.specs.Runs.{RunState, flip_happens, next, next_coin}
use Rattle.step_model.specs.Sensitivities.{multiplied}
use Rattle.step_model.specs.WellFormed.{step_fits}
use Rattle.step_model.proofs.StateIsGroup.{length-measured}
use Rattle.step_model.proofs.StepNumbers.{length-word_of_terms}
use Rattle.run_laws.specs.Shifts.{flipped_by, carried_with, flip_at, DifferByFrame}
use Rattle.run_laws.specs.ShiftedWords.{multiplied_by}
use Rattle.run_laws.proofs.PairRuns.{with_coins, same-collapse}
use Rattle.run_laws.proofs.ShiftCollapse.{is_decided-shifted}
use Rattle.run_laws.proofs.ShiftSteps.{anticommute-multiplied, next-differ}
use Rattle.run_laws.proofs.ShiftedWords.{frame_product}
use Rattle.frames.specs.private.Beside.{Differ}
use Rattle.frames.specs.private.Followed.{turned, followed}

-- two runs that differ by a frame do so with the coins that a law wants
with_law_coins : (n : ℕ) (v : Frame) (flips : List Bool) (m m' : RunState) → Differ n v m m' → DifferByFrame n v flips (with_coins m []) (with_coins m' (flipped_by flips []))
with_law_coins n v flips m m' d = record {
  size = d.size;
  group = d.group;
  states = d.states;
  coins = refl;
  records_size = d.records_size;
  records = d.records;
}

without_coins : (n : ℕ) (v : Frame) (flips : List Bool) (m m' : RunState) → DifferByFrame n v flips m m' → Differ n v m m'
without_coins n v flips m m' d = record {
  size = d.size;
  group = d.group;
  states = d.states;
  records_size = d.records_size;
  records = d.records;
}

-- one step with the coins of the law
law_step : (program : Listing) (faults : List Bool) (step : ListedStep) (v : Frame) (m m' : RunState)
    → step_fits program step ≡ true → Differ program.qubits v m m'
    → Differ program.qubits (carried_with program [] faults step v) (next program [] step (with_coins m [])) (next program faults step (with_coins m' (flipped_by (flip_at program.qubits v step) [])))
law_step program faults step v m m' fits d =
    let flips = flip_at program.qubits v step in
    without_coins program.qubits (carried_with program [] faults step v) [] _ _
    (next-differ program [] faults step v [] (with_coins m []) (with_coins m' (flipped_by flips [])) fits
    (subst (λ fs. DifferByFrame program.qubits v fs (with_coins m []) (with_coins m' (flipped_by flips []))) (sym (append-nil flips))
    (with_law_coins program.qubits v flips m m' d)))

-- a collapse whose outcome is decided doesn't mind its coin
decided-collapsed : (s : State) (w : List Letter) (coin coin' : Bool) (p : Signed) → is_decided s w ≡ true → collapsed w coin s p ≡ collapsed w coin' s p
decided-collapsed s w coin coin' p decided =
    ap (λ d. if d then s p else (not (anticommute p.letters w) && (s p || s (product (signed w coin) p)))) decided
    ∙ sym (ap (λ d. if d then s p else (not (anticommute p.letters w) && (s p || s (product (signed w coin') p)))) decided)

decided-chosen : (plus minus coin coin' : Bool) → plus || minus ≡ true → (if plus then false else (if minus then true else coin)) ≡ (if plus then false else (if minus then true else coin'))
decided-chosen true minus coin coin' h = refl
decided-chosen false true coin coin' h = refl
decided-chosen false false coin coin' h = cc

decided-outcome : (s : State) (w : List Letter) (coin coin' : Bool) → is_decided s w ≡ true → outcome s w coin ≡ outcome s w coin'
decided-outcome s w coin coin' decided = decided-chosen (s (signed w false)) (s (signed w true)) coin coin' decided

-- the run after it is the same then, whatever its coins were
pub decided-states : (program : Listing) (faults : List Bool) (c : Measured) (r : Option Recorded) (m : RunState) (coins : List Bool) → is_decided m.state (measured_word program.qubits c) ≡ true
    → (p : Signed) → (next program faults (Collapse c r) (with_coins m coins)).state p ≡ (next program faults (Collapse c r) m).state p
decided-states program faults (Word w) r m coins decided p = decided-collapsed m.state w (next_coin coins) (next_coin m.coins) p decided
decided-states program faults (Reset letter q) r m coins decided p =
    let n = program.qubits in
    let w = lone_letter n q letter in
    let coin = next_coin coins in
    ap (λ seen. applied seen (lone_letter n q (correcting letter)) (collapsed w coin m.state) p) (decided-outcome m.state w coin (next_coin m.coins) decided)
    ∙ decided-collapsed m.state w coin (next_coin m.coins)
    (with_sign_changed (outcome m.state w (next_coin m.coins) && anticommute p.letters (lone_letter n q (correcting letter))) p) decided

pub decided-records : (program : Listing) (faults : List Bool) (c : Measured) (r : Option Recorded) (m : RunState) (coins : List Bool) → is_decided m.state (measured_word program.qubits c) ≡ true
    → (next program faults (Collapse c r) (with_coins m coins)).records ≡ (next program faults (Collapse c r) m).records
decided-records program faults c None m coins decided = refl
decided-records program faults c (Some r) m coins decided =
    ap (λ seen. m.records ++ exclusive_or seen (exclusive_or r.inverted (flip_happens faults r.flip)) ∷ [])
    (decided-outcome m.state (measured_word program.qubits c) (next_coin coins) (next_coin m.coins) decided)

-- the reference run's coin is 0, as is one that isn't there
reference-step : (program : Listing) (c : Measured) (r : Option Recorded) (m : RunState) → next_coin m.coins ≡ false
    → next program [] (Collapse c r) (with_coins m []) ≡ with_coins (next program [] (Collapse c r) m) []
reference-step program c r m zero = same-collapse program [] c r m [] (sym zero)

-- so two runs differ behind a collapse by the frame that is carried over it, where the outcome is decided, and where the
-- second run's coin is the frame's flip
module _ (program : Listing) (faults : List Bool) (c : Measured) (r : Option Recorded) (v : Frame) (m m' : RunState) (fits : step_fits program (Collapse c r) ≡ true) (zero : next_coin m.coins ≡ false) (d : Differ program.qubits v m m') where
  law : Differ program.qubits (carried_with program [] faults (Collapse c r) v) (with_coins (next program [] (Collapse c r) m) []) (next program faults (Collapse c r) (with_coins m' (flipped_by (flip_at program.qubits v (Collapse c r)) [])))
  law = subst (λ k. Differ program.qubits (carried_with program [] faults (Collapse c r) v) k (next program faults (Collapse c r) (with_coins m' (flipped_by (flip_at program.qubits v (Collapse c r)) [])))) (reference-step program c r m zero) (law_step program faults (Collapse c r) v m m' fits d)

  pub collapse-decided : is_decided m.state (measured_word program.qubits c) ≡ true → Differ program.qubits (carried_with program [] faults (Collapse c r) v) (next program [] (Collapse c r) m) (next program faults (Collapse c r) m')
  collapse-decided decided =
      let coins = flipped_by (flip_at program.qubits v (Collapse c r)) [] in
      let here : is_decided m'.state (measured_word program.qubits c) ≡ true =
      is_decided-shifted program.qubits v.word (measured_word program.qubits c) m.state m'.state d.states (length-measured program c r fits) ∙ decided in
      record {
        size = law.size;
        group = law.group;
        states = λ p size. sym (decided-states program faults c r m' coins here p) ∙ law.states p size;
        records_size = law.records_size;
        records = sym (decided-records program faults c r m' coins here) ∙ law.records;
      }

  pub collapse-coin : next_coin m'.coins ≡ anticommute v.word (measured_word program.qubits c) → Differ program.qubits (carried_with program [] faults (Collapse c r) v) (next program [] (Collapse c r) m) (next program faults (Collapse c r) m')
  collapse-coin coin =
      let coins = flipped_by (flip_at program.qubits v (Collapse c r)) [] in
      let same : next program faults (Collapse c r) (with_coins m' coins) ≡ with_coins (next program faults (Collapse c r) m') (drop 1 coins) =
      same-collapse program faults c r m' coins (exclusive_or-false (anticommute v.word (measured_word program.qubits c)) ∙ sym coin) in
      let with_next : Differ program.qubits (carried_with program [] faults (Collapse c r) v) (with_coins (next program [] (Collapse c r) m) []) (with_coins (next program faults (Collapse c r) m') (drop 1 coins)) =
      subst (λ k. Differ program.qubits (carried_with program [] faults (Collapse c r) v) (with_coins (next program [] (Collapse c r) m) []) k) same law in
      record {
        size = with_next.size;
        group = with_next.group;
        states = with_next.states;
        records_size = with_next.records_size;
        records = with_next.records;
      }

-- a frame times a word of the reference's state
times_word : (n : ℕ) (v : Frame) (m m' : RunState) (u : List Letter) (negative : Bool) → Differ n v m m' → length u ≡ n → m.state (signed u negative) ≡ true → Differ n (multiplied_by u v) m m'
times_word n v m m' u negative d size member =
    let e : DifferByFrame n (multiplied_by u v) [] (with_coins m []) (with_coins m' []) =
    frame_product n v [] (with_coins m []) (with_coins m' []) u negative (with_law_coins n v [] m m' d) size member in
    record { size = e.size; group = e.group; states = e.states; records_size = e.records_size; records = e.records }

-- the frame that is turned at a random collapse has the coin as its flip
pub turned-flip : (n : ℕ) (terms : List Term) (coin : Bool) (w : List Letter) (v : Frame) → length v.word ≡ n → anticommute w (word_of_terms n terms) ≡ true → anticommute (turned n (Some terms) coin w v).word w ≡ coin
turned-flip n terms coin w v size clash =
    let u = word_of_terms n terms in
    let b = exclusive_or coin (anticommute v.word w) in
    anticommute_comm (multiplied b u v.word) w
    ∙ anticommute-multiplied b w u v.word (length-word_of_terms n terms ∙ sym size)
    ∙ ap₂ (λ x y. exclusive_or (b && x) y) clash (anticommute_comm w v.word)
    ∙ undone coin (anticommute v.word w)
  where
    undone : (x y : Bool) → exclusive_or (exclusive_or x y && true) y ≡ x
    undone false false = refl
    undone false true = refl
    undone true false = refl
    undone true true = refl

turned-differ : (n : ℕ) (terms : List Term) (coin : Bool) (w : List Letter) (v : Frame) (m m' : RunState) (negative : Bool) → Differ n v m m' → m.state (signed (word_of_terms n terms) negative) ≡ true
    → (b : Bool) → Differ n (record v { word = multiplied b (word_of_terms n terms) v.word }) m m'
turned-differ n terms coin w v m m' negative d member true = times_word n v m m' (word_of_terms n terms) negative d (length-word_of_terms n terms) member
turned-differ n terms coin w v m m' negative d member false = d

pub collapse-random : (program : Listing) (faults : List Bool) (c : Measured) (r : Option Recorded) (terms : List Term) (v : Frame) (m m' : RunState) (negative : Bool)
    → step_fits program (Collapse c r) ≡ true → next_coin m.coins ≡ false → Differ program.qubits v m m'
    → m.state (signed (word_of_terms program.qubits terms) negative) ≡ true
    → anticommute (measured_word program.qubits c) (word_of_terms program.qubits terms) ≡ true
    → Differ program.qubits (followed program faults (Some terms) (next_coin m'.coins) (Collapse c r) v) (next program [] (Collapse c r) m) (next program faults (Collapse c r) m')
collapse-random program faults c r terms v m m' negative fits zero d member clash =
    let n = program.qubits in
    let w = measured_word n c in
    let coin = next_coin m'.coins in
    collapse-coin program faults c r (turned n (Some terms) coin w v) m m' fits zero
    (turned-differ n terms coin w v m m' negative d member (exclusive_or coin (anticommute v.word w)))
    (sym (turned-flip n terms coin w v d.size clash))

-- the other steps take no coin
pub other-step : (program : Listing) (faults : List Bool) (replaced : Option (List Term)) (coin : Bool) (step : ListedStep) (v : Frame) (m m' : RunState)
    → step_fits program step ≡ true → is_collapse step ≡ false → Differ program.qubits v m m'
    → Differ program.qubits (followed program faults replaced coin step v) (next program [] step m) (next program faults step m')
other-step program faults replaced coin (One gate q) v m m' fits other d =
    let e = law_step program faults (One gate q) v m m' fits d in
    record { size = e.size; group = e.group; states = e.states; records_size = e.records_size; records = e.records }
other-step program faults replaced coin (Two gate a b) v m m' fits other d =
    let e = law_step program faults (Two gate a b) v m m' fits d in
    record { size = e.size; group = e.group; states = e.states; records_size = e.records_size; records = e.records }
other-step program faults replaced coin (Collapse c r) v m m' fits other d = cc
other-step program faults replaced coin (Fault f) v m m' fits other d =
    let e = law_step program faults (Fault f) v m m' fits d in
    record { size = e.size; group = e.group; states = e.states; records_size = e.records_size; records = e.records }
other-step program faults replaced coin (Feedback w r) v m m' fits other d =
    let e = law_step program faults (Feedback w r) v m m' fits d in
    record { size = e.size; group = e.group; states = e.states; records_size = e.records_size; records = e.records }
