-- One step of two runs that differ by a frame: afterwards they differ by the frame carried over it.
use Rattle.std.proofs.Common.{◌≡◌, ℕ, ◌+◌, Bool, true, false, ◌&&◌, List, [], ◌∷◌, ◌++◌, length, drop, get_or, subst, length-set, length-append, append-nil, Option, None, Some, refl, ap, ap₂, sym, ◌∙◌}
use Rattle.std.proofs.lemmas.Bool.{and_from}
use Rattle.gate_table.specs.declared.gate.Gate.{Gate}
use Rattle.pauli_word.specs.declared.letter.Letter.{Letter}
use Rattle.pauli_word.specs.Parity.{exclusive_or}
use Rattle.pauli_word.specs.Words.{Signed, anticommute, lone_letter, letters_product, signed, with_sign_changed}
use Rattle.pauli_word.proofs.Parities.{exclusive_or_assoc, same_truth, same_truth-true, at_six_truths}
use Rattle.pauli_word.proofs.WordLaws.{anticommute_comm, anticommute-product}
use Rattle.gate_table.specs.WordImages.{image_at, image_at_two, preimage_at, preimage_at_two}
use Rattle.step_model.specs.Listing.{ListedStep, One, Two, Collapse, Fault, Feedback, Measured, Word, Reset, Recorded, measured_word, Listing, fault_word, effect_at}
use Rattle.pauli_word.specs.States.{State, applied, collapsed, correcting, outcome}
use Rattle.step_model.specs.Runs.{RunState, next_coin, happens, flip_happens, next}
use Rattle.step_model.specs.Sensitivities.{cleared, multiplied}
use Rattle.run_laws.specs.Shifts.{flipped_by, carried_with, flip_at, IsShifted, DifferByFrame}
use Rattle.step_model.specs.WellFormed.{step_fits, word_fits}
use Rattle.step_model.specs.Frames.{Frame}
use Rattle.run_laws.proofs.ConstancySteps.{reset_fits}
use Rattle.run_laws.proofs.ShiftGates.{image_of_preimage, image_of_preimage_two, anticommute-images, anticommute-images_two}
use Rattle.step_model.proofs.SensitivityLengths.{length-cleared, length-multiplied}
use Rattle.step_model.proofs.StateIsGroup.{IsGroup-next, length-measured}
use Rattle.run_laws.proofs.ShiftCollapse.{outcome-shifted, collapsed-shifted, reset-shifted}
use Rattle.run_laws.proofs.ShiftLists.{joined-append, get_or-joined}
use Rattle.pauli_word.proofs.LoneLetters.{length-lone_letter}
use Rattle.run_laws.proofs.ShiftWords.{length-effect_word}

-- feedback that fits is by a word of the program's qubits
pub length-fed : (program : Listing) (w : List Letter) (r : ℕ) → step_fits program (Feedback w r) ≡ true → length w ≡ program.qubits
length-fed program w r fits = length-measured program (Word w) None (and_from (word_fits program.qubits w) true fits refl)

pub length-carried_with : (program : Listing) (first second : List Bool) (step : ListedStep) (v : Frame) → step_fits program step ≡ true → length v.word ≡ program.qubits → length (carried_with program first second step v).word ≡ program.qubits
length-carried_with program first second (One gate q) v fits size = length-set v.word q _ ∙ size
length-carried_with program first second (Two gate a b) v fits size = length-set _ b _ ∙ length-set v.word a _ ∙ size
length-carried_with program first second (Collapse c r) v fits size = length-cleared program.qubits c v.word size
length-carried_with program first second (Fault f) v fits size =
    length-multiplied program.qubits (exclusive_or (happens first f) (happens second f)) (fault_word program f) v.word
    (length-effect_word program.qubits (effect_at program f)) size
length-carried_with program first second (Feedback w r) v fits size =
    length-multiplied program.qubits (get_or v.records r false) w v.word (length-fed program w r fits) size

-- a gate: the preimage of a word with another sign is the preimage, with the other sign
one-states : (program : Listing) (gate : Gate) (q : ℕ) (v : List Letter) (s t : State) → step_fits program (One gate q) ≡ true → length v ≡ program.qubits → IsShifted program.qubits v s t → IsShifted program.qubits (image_at gate q (signed v false)).letters (λ p. s (preimage_at gate q p)) (λ p. t (preimage_at gate q p))
one-states program gate q v s t fits size shifted p size' =
    let r = preimage_at gate q p in
    let long : length r.letters ≡ program.qubits = length-set p.letters q _ ∙ size' in
    shifted r long
    ∙ ap (λ b. s (with_sign_changed b r))
    (sym (anticommute-images program gate q r (signed v false) fits long size)
    ∙ ap (λ (x : Signed). anticommute x.letters (image_at gate q (signed v false)).letters) (image_of_preimage program gate q p fits size'))
    ∙ ap (λ x. s (signed r.letters x)) (sym (exclusive_or_assoc (anticommute p.letters (image_at gate q (signed v false)).letters) p.negative _))

two-states : (program : Listing) (gate : Gate) (a b : ℕ) (v : List Letter) (s t : State) → step_fits program (Two gate a b) ≡ true → length v ≡ program.qubits → IsShifted program.qubits v s t → IsShifted program.qubits (image_at_two gate a b (signed v false)).letters (λ p. s (preimage_at_two gate a b p)) (λ p. t (preimage_at_two gate a b p))
two-states program gate a b v s t fits size shifted p size' =
    let r = preimage_at_two gate a b p in
    let long : length r.letters ≡ program.qubits = length-set _ b _ ∙ length-set p.letters a _ ∙ size' in
    shifted r long
    ∙ ap (λ c. s (with_sign_changed c r))
    (sym (anticommute-images_two program gate a b r (signed v false) fits long size)
    ∙ ap (λ (x : Signed). anticommute x.letters (image_at_two gate a b (signed v false)).letters) (image_of_preimage_two program gate a b p fits size'))
    ∙ ap (λ x. s (signed r.letters x)) (sym (exclusive_or_assoc (anticommute p.letters (image_at_two gate a b (signed v false)).letters) p.negative _))

-- a fault: applied in one run and not in the other it multiplies the frame
fault-signs : (b c x y e : Bool) → exclusive_or y (exclusive_or (c && x) e) ≡ exclusive_or (b && x) (exclusive_or (exclusive_or (exclusive_or b c && x) y) e)
fault-signs b c x y e =
    same_truth-true _ _
    (at_six_truths
    (λ b c x y e _. same_truth (exclusive_or y (exclusive_or (c && x) e)) (exclusive_or (b && x) (exclusive_or (exclusive_or (exclusive_or b c && x) y) e)))
    refl b c x y e false)

pub anticommute-multiplied : (b : Bool) (p w v : List Letter) → length w ≡ length v → anticommute p (multiplied b w v) ≡ exclusive_or (b && anticommute p w) (anticommute p v)
anticommute-multiplied true p w v size =
    anticommute_comm p (letters_product w v) ∙ anticommute-product w v p size ∙ ap₂ exclusive_or (anticommute_comm w p) (anticommute_comm v p)
anticommute-multiplied false p w v size = refl

fault-states : (n : ℕ) (b c : Bool) (w v : List Letter) (s t : State) → length w ≡ n → length v ≡ n → IsShifted n v s t → IsShifted n (multiplied (exclusive_or b c) w v) (applied b w s) (applied c w t)
fault-states n b c w v s t size size' shifted p long =
    shifted (with_sign_changed (c && anticommute p.letters w) p) long
    ∙ ap (λ x. s (signed p.letters x))
    (fault-signs b c (anticommute p.letters w) (anticommute p.letters v) p.negative
    ∙ ap (λ x. exclusive_or (b && anticommute p.letters w) (exclusive_or x p.negative)) (sym (anticommute-multiplied (exclusive_or b c) p.letters w v (size ∙ sym size'))))

-- the coin of a collapse in the second run
flipped_coin : (flip : Bool) (flips coins coins' : List Bool) → coins' ≡ flipped_by (flip ∷ flips) coins → next_coin coins' ≡ exclusive_or flip (next_coin coins)
flipped_coin flip flips coins coins' h = ap next_coin h

-- the outcome of a collapse in the second run
pub outcome-next : (n : ℕ) (v : Frame) (w : List Letter) (rest : List Bool) (m m' : RunState) → length w ≡ n → DifferByFrame n v (anticommute v.word w ∷ rest) m m' → outcome m'.state w (next_coin m'.coins) ≡ exclusive_or (anticommute v.word w) (outcome m.state w (next_coin m.coins))
outcome-next n v w rest m m' size differ =
    ap (outcome m'.state w) (flipped_coin (anticommute v.word w) rest m.coins m'.coins differ.coins)
    ∙ outcome-shifted n v.word w m.state m'.state (next_coin m.coins) differ.states differ.group size

collapse-states : (program : Listing) (first second : List Bool) (c : Measured) (r : Option Recorded) (v : Frame) (rest : List Bool) (m m' : RunState)
    → step_fits program (Collapse c r) ≡ true
    → DifferByFrame program.qubits v (anticommute v.word (measured_word program.qubits c) ∷ rest) m m'
    → IsShifted program.qubits (cleared c v.word) (next program first (Collapse c r) m).state (next program second (Collapse c r) m').state
collapse-states program first second (Reset letter q) r v rest m m' fits differ p size =
    let n = program.qubits in
    let w = lone_letter n q letter in
    let here = reset_fits program letter q r fits in
    ap₂ (λ seen x. applied seen (lone_letter n q (correcting letter)) (collapsed w x m'.state) p)
    (outcome-next n v w rest m m' (length-lone_letter n q letter) differ)
    (flipped_coin (anticommute v.word w) rest m.coins m'.coins differ.coins)
    ∙ reset-shifted n q letter v.word m.state m'.state (outcome m.state w (next_coin m.coins)) (next_coin m.coins)
    here.letter_fits here.qubit_fits
    differ.size differ.group differ.states p size
collapse-states program first second (Word w) r v rest m m' fits differ p size =
    ap (λ x. collapsed w x m'.state p) (flipped_coin (anticommute v.word w) rest m.coins m'.coins differ.coins)
    ∙ collapsed-shifted program.qubits v.word w m.state m'.state (next_coin m.coins) differ.states (length-measured program (Word w) r fits) p size

-- what feedback reads in the second run
fed-back : (n : ℕ) (v : Frame) (flips : List Bool) (m m' : RunState) (r : ℕ) → DifferByFrame n v flips m m' → get_or v.records r false ≡ exclusive_or (get_or m.records r false) (get_or m'.records r false)
fed-back n v flips m m' r differ =
    read-signs (get_or v.records r false) (get_or m.records r false)
    ∙ ap (exclusive_or (get_or m.records r false)) (sym (ap (λ xs. get_or xs r false) differ.records ∙ get_or-joined v.records m.records r))
  where
    read-signs : (x y : Bool) → x ≡ exclusive_or y (exclusive_or x y)
    read-signs false false = refl
    read-signs false true = refl
    read-signs true false = refl
    read-signs true true = refl

next-states : (program : Listing) (first second : List Bool) (step : ListedStep) (v : Frame) (rest : List Bool) (m m' : RunState)
    → step_fits program step ≡ true
    → DifferByFrame program.qubits v (flip_at program.qubits v step ++ rest) m m'
    → IsShifted program.qubits (carried_with program first second step v).word (next program first step m).state (next program second step m').state
next-states program first second (One gate q) v rest m m' fits differ = one-states program gate q v.word m.state m'.state fits differ.size differ.states
next-states program first second (Two gate a b) v rest m m' fits differ = two-states program gate a b v.word m.state m'.state fits differ.size differ.states
next-states program first second (Collapse c r) v rest m m' fits differ = collapse-states program first second c r v rest m m' fits differ
next-states program first second (Fault f) v rest m m' fits differ =
    fault-states program.qubits (happens first f) (happens second f) (fault_word program f) v.word m.state m'.state
    (length-effect_word program.qubits (effect_at program f)) differ.size differ.states
next-states program first second (Feedback w r) v rest m m' fits differ =
    let b = get_or m.records r false in
    let c = get_or m'.records r false in
    subst (λ x. IsShifted program.qubits (multiplied x w v.word) (applied b w m.state) (applied c w m'.state))
    (sym (fed-back program.qubits v rest m m' r differ))
    (fault-states program.qubits b c w v.word m.state m'.state (length-fed program w r fits) differ.size differ.states)

next-coins : (program : Listing) (first second : List Bool) (step : ListedStep) (v : Frame) (rest : List Bool) (m m' : RunState)
    → m'.coins ≡ flipped_by (flip_at program.qubits v step ++ rest) m.coins
    → (next program second step m').coins ≡ flipped_by rest (next program first step m).coins
next-coins program first second (One gate q) v rest m m' h = h
next-coins program first second (Two gate a b) v rest m m' h = h
next-coins program first second (Collapse c r) v rest m m' h = ap (drop 1) h
next-coins program first second (Fault f) v rest m m' h = h
next-coins program first second (Feedback w r) v rest m m' h = h

length-one_more : (xs ys : List Bool) (x y : Bool) → length xs ≡ length ys → length (xs ++ x ∷ []) ≡ length (ys ++ y ∷ [])
length-one_more xs ys x y h = length-append xs (x ∷ []) ∙ ap (λ n. n + 1) h ∙ sym (length-append ys (y ∷ []))

next-size : (program : Listing) (first second : List Bool) (step : ListedStep) (v : Frame) (m : RunState)
    → length v.records ≡ length m.records
    → length (carried_with program first second step v).records ≡ length (next program first step m).records
next-size program first second (One gate q) v m h = h
next-size program first second (Two gate a b) v m h = h
next-size program first second (Collapse c None) v m h = ap length (append-nil v.records) ∙ h
next-size program first second (Collapse c (Some r)) v m h = length-one_more v.records m.records _ _ h
next-size program first second (Fault f) v m h = h
next-size program first second (Feedback w r) v m h = h

record-signs : (b seen inverted x y : Bool) → exclusive_or (exclusive_or b seen) (exclusive_or inverted y) ≡ exclusive_or (exclusive_or b (exclusive_or x y)) (exclusive_or seen (exclusive_or inverted x))
record-signs b seen inverted x y =
    same_truth-true _ _
    (at_six_truths
    (λ b seen inverted x y _. same_truth (exclusive_or (exclusive_or b seen) (exclusive_or inverted y)) (exclusive_or (exclusive_or b (exclusive_or x y)) (exclusive_or seen (exclusive_or inverted x))))
    refl b seen inverted x y false)

next-records : (program : Listing) (first second : List Bool) (step : ListedStep) (v : Frame) (rest : List Bool) (m m' : RunState)
    → step_fits program step ≡ true
    → DifferByFrame program.qubits v (flip_at program.qubits v step ++ rest) m m'
    → (next program second step m').records ≡ flipped_by (carried_with program first second step v).records (next program first step m).records
next-records program first second (One gate q) v rest m m' fits differ = differ.records
next-records program first second (Two gate a b) v rest m m' fits differ = differ.records
next-records program first second (Collapse c None) v rest m m' fits differ = differ.records ∙ ap (λ flips. flipped_by flips m.records) (sym (append-nil v.records))
next-records program first second (Collapse c (Some r)) v rest m m' fits differ =
    let w = measured_word program.qubits c in
    let seen = outcome m.state w (next_coin m.coins) in
    ap₂ (λ xs x. xs ++ x ∷ []) differ.records
    (ap (λ x. exclusive_or x (exclusive_or r.inverted (flip_happens second r.flip)))
    (outcome-next program.qubits v w rest m m' (length-measured program c (Some r) fits) differ)
    ∙ record-signs (anticommute v.word w) seen r.inverted (flip_happens first r.flip) (flip_happens second r.flip))
    ∙ sym (joined-append v.records _ m.records (exclusive_or seen (exclusive_or r.inverted (flip_happens first r.flip)) ∷ []) differ.records_size)
next-records program first second (Fault f) v rest m m' fits differ = differ.records
next-records program first second (Feedback w r) v rest m m' fits differ = differ.records

pub next-differ : (program : Listing) (first second : List Bool) (step : ListedStep) (v : Frame) (rest : List Bool) (m m' : RunState)
    → step_fits program step ≡ true
    → DifferByFrame program.qubits v (flip_at program.qubits v step ++ rest) m m'
    → DifferByFrame program.qubits (carried_with program first second step v) rest (next program first step m) (next program second step m')
next-differ program first second step v rest m m' fits differ = record {
  size = length-carried_with program first second step v fits differ.size;
  group = IsGroup-next program first step m fits differ.group;
  states = next-states program first second step v rest m m' fits differ;
  coins = next-coins program first second step v rest m m' differ.coins;
  records_size = next-size program first second step v m differ.records_size;
  records = next-records program first second step v rest m m' fits differ;
}
