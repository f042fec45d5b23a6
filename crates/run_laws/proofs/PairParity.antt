-- The flips of a frame over the records that a target names: their parity says whether the frame anticommutes with the
-- target's sensitivity where the frame begins.
use Rattle.std.proofs.Common.{◌≡◌, ℕ, ◌&&◌, Bool, true, false, List, [], ◌∷◌, if◌then◌else◌, get_or, length, length-append, length-set, append-nil, None, Some, refl, ap, ap₂, sym, ◌∙◌}
use Rattle.std.proofs.lemmas.List.Elements.{All-head, All-tail}
use Rattle.std.specs.List.{AllPass, range_with_len}
use Rattle.pauli_word.specs.declared.letter.Letter.{Letter}
use Rattle.pauli_word.specs.Parity.{exclusive_or}
use Rattle.pauli_word.specs.Words.{Signed, anticommute, signed}
use Rattle.pauli_word.proofs.Parities.{exclusive_or-false, exclusive_or_assoc, same_truth, same_truth-true, at_four_truths}
use Rattle.step_model.specs.Frames.{Frame, carried}
use Rattle.gate_table.specs.WordImages.{image_at, image_at_two, preimage_at, preimage_at_two}
use Rattle.step_model.specs.Listing.{ListedStep, One, Two, Collapse, Fault, Feedback, Measured, Word, Reset, measured_word, Listing}
use Rattle.step_model.specs.Sensitivities.{Sensitivity, cleared, multiplied, sensitivity_before, sensitivity}
use Rattle.run_laws.specs.Shifts.{carried_over}
use Rattle.step_model.specs.Targets.{parity, is_listed}
use Rattle.step_model.specs.WellFormed.{step_fits, records_made}
use Rattle.run_laws.proofs.ShiftGates.{image_of_preimage, image_of_preimage_two, anticommute-images, anticommute-images_two}
use Rattle.run_laws.proofs.ConstancyRecords.{parity-push}
use Rattle.run_laws.proofs.ShiftRuns.{same-carried}
use Rattle.run_laws.proofs.ShiftSteps.{length-carried_with, length-fed, anticommute-multiplied}
use Rattle.run_laws.proofs.ShiftWords.{anticommute-none, anticommute-cleared}
use Rattle.step_model.proofs.SensitivityLengths.{length-cleared, length-sensitivity}
use Rattle.step_model.proofs.StateIsGroup.{length-measured}
use Rattle.pauli_word.proofs.WordLaws.{anticommute_comm}
use Rattle.step_model.proofs.HitSteps.{first_of_range, rest_of_range}

cleared-either : (c : Measured) (v w : List Letter) → anticommute (cleared c v) w ≡ anticommute v (cleared c w)
cleared-either (Reset letter q) v w = anticommute-cleared v w q
cleared-either (Word u) v w = refl

-- these steps make the records from number r on
abbrev pub Numbered : ℕ → List ListedStep → Type 0
Numbered r steps = (count : ℕ) × (records_made steps ≡ range_with_len r count)

-- what a frame flips of the records to which a target is sensitive, and whether its word anticommutes with the sensitivity
abbrev pub balance : Sensitivity → Frame → Bool
balance s v = exclusive_or (parity s.records v.records) (anticommute v.word s.word)

collapse-signs : (p counts clash rest : Bool) → exclusive_or (exclusive_or p (counts && clash)) rest ≡ exclusive_or p (exclusive_or (counts && clash) rest)
collapse-signs p counts clash rest = exclusive_or_assoc p (counts && clash) rest

-- where feedback is, its record's flip multiplies the frame, and its clash with the sensitivity changes the records
feedback-signs : (flip : Bool) (v w s : List Letter) (r : ℕ) (records : List ℕ) (flips : List Bool) (clash : Bool) → get_or flips r false ≡ flip → anticommute s w ≡ clash → length w ≡ length v → exclusive_or (parity records flips) (anticommute (multiplied flip w v) s) ≡ exclusive_or (parity (if clash then r ∷ records else records) flips) (anticommute v s)
feedback-signs flip v w s r records flips clash e f size =
    ap (exclusive_or (parity records flips))
    (anticommute_comm (multiplied flip w v) s ∙ anticommute-multiplied flip s w v size ∙ ap₂ (λ x y. exclusive_or (flip && x) y) f (anticommute_comm s v))
    ∙ by_clash clash
  where
    by_clash : (clash : Bool) → exclusive_or (parity records flips) (exclusive_or (flip && clash) (anticommute v s)) ≡ exclusive_or (parity (if clash then r ∷ records else records) flips) (anticommute v s)
    by_clash true =
        same_truth-true _ _
        (at_four_truths (λ p f c _. same_truth (exclusive_or p (exclusive_or (f && true) c)) (exclusive_or (exclusive_or f p) c)) refl (parity records flips) flip (anticommute v s) false)
        ∙ ap (λ x. exclusive_or (exclusive_or x (parity records flips)) (anticommute v s)) (sym e)
    by_clash false =
        same_truth-true _ _
        (at_four_truths (λ p f c _. same_truth (exclusive_or p (exclusive_or (f && false) c)) (exclusive_or p c)) refl (parity records flips) flip (anticommute v s) false)

-- carrying the frame over a step forward and the sensitivity back
step-balance : (program : Listing) (step : ListedStep) (s : Sensitivity) (v : Frame) (rest : List ListedStep) → step_fits program step ≡ true → Numbered (length v.records) (step ∷ rest) → length v.word ≡ program.qubits → length s.word ≡ program.qubits → balance s (carried program.qubits step v) ≡ balance (sensitivity_before program.qubits step s) v
step-balance program (One gate q) s v rest fits numbered size size' =
    let r = preimage_at gate q (signed s.word false) in
    ap (exclusive_or (parity s.records v.records))
    (ap (λ (x : Signed). anticommute (image_at gate q (signed v.word false)).letters x.letters) (sym (image_of_preimage program gate q (signed s.word false) fits size'))
    ∙ anticommute-images program gate q (signed v.word false) r fits size (length-set s.word q _ ∙ size'))
step-balance program (Two gate a b) s v rest fits numbered size size' =
    let r = preimage_at_two gate a b (signed s.word false) in
    ap (exclusive_or (parity s.records v.records))
    (ap (λ (x : Signed). anticommute (image_at_two gate a b (signed v.word false)).letters x.letters) (sym (image_of_preimage_two program gate a b (signed s.word false) fits size'))
    ∙ anticommute-images_two program gate a b (signed v.word false) r fits size (length-set _ b _ ∙ length-set s.word a _ ∙ size'))
step-balance program (Collapse c None) s v rest fits numbered size size' =
    ap₂ (λ xs x. exclusive_or (parity s.records xs) x) (append-nil v.records) (cleared-either c v.word s.word)
step-balance program (Collapse c (Some r)) s v rest fits numbered size size' =
    let n = program.qubits in
    let u = measured_word n c in
    let counts = is_listed s.records r.number in
    let long : length u ≡ n = length-measured program c (Some r) fits in
    ap₂ exclusive_or
    (parity-push s.records v.records (anticommute v.word u)
    ∙ ap (λ k. exclusive_or (parity s.records v.records) (is_listed s.records k && anticommute v.word u)) (sym (first_of_range r.number (length v.records) numbered.0 (records_made rest) numbered.1)))
    (cleared-either c v.word s.word)
    ∙ collapse-signs (parity s.records v.records) counts (anticommute v.word u) (anticommute v.word (cleared c s.word))
    ∙ ap (exclusive_or (parity s.records v.records))
    (sym (anticommute-multiplied counts v.word u (cleared c s.word) (long ∙ sym (length-cleared n c s.word size'))))
step-balance program (Fault f) s v rest fits numbered size size' = refl
step-balance program (Feedback w r) s v rest fits numbered size size' =
    feedback-signs (get_or v.records r false) v.word w s.word r s.records v.records (anticommute s.word w) refl refl (length-fed program w r fits ∙ sym size)

pub length-carried : (program : Listing) (step : ListedStep) (v : Frame) → step_fits program step ≡ true → length v.word ≡ program.qubits → length (carried program.qubits step v).word ≡ program.qubits
length-carried program step v fits size = ap (λ (w : Frame). length w.word) (sym (same-carried program [] v step)) ∙ length-carried_with program [] [] step v fits size

-- a frame's records are numbered as those of a run
numbered-carried : (program : Listing) (step : ListedStep) (v : Frame) (rest : List ListedStep) → Numbered (length v.records) (step ∷ rest) → Numbered (length (carried program.qubits step v).records) rest
numbered-carried program (One gate q) v rest h = h
numbered-carried program (Two gate a b) v rest h = h
numbered-carried program (Collapse c None) v rest h = (h.0, h.1 ∙ ap (λ k. range_with_len k h.0) (ap length (sym (append-nil v.records))))
numbered-carried program (Collapse c (Some r)) v rest h =
    let more = rest_of_range r.number (length v.records) h.0 (records_made rest) h.1 in
    (more.0, more.1 ∙ ap (λ k. range_with_len k more.0) (sym (length-append v.records (anticommute v.word (measured_word program.qubits c) ∷ []))))
numbered-carried program (Fault f) v rest h = h
numbered-carried program (Feedback w r) v rest h = h

-- a frame carried to the end flips a target where it is out of balance at the start
pub parity-carried : (program : Listing) (faults : List Bool) (named : List ℕ) (steps : List ListedStep) (v : Frame) → AllPass (step_fits program) steps → Numbered (length v.records) steps → length v.word ≡ program.qubits → parity named (carried_over program faults faults steps v).records ≡ balance (sensitivity program.qubits named steps) v
parity-carried program faults named [] v fit numbered size =
    sym (exclusive_or-false (parity named v.records)) ∙ ap (exclusive_or (parity named v.records)) (sym (anticommute-none v.word program.qubits))
parity-carried program faults named (step ∷ steps) v fit numbered size =
    let here : step_fits program step ≡ true = All-head (λ x. step_fits program x ≡ true) step steps fit in
    let later : AllPass (step_fits program) steps = All-tail (λ x. step_fits program x ≡ true) step steps fit in
    ap (λ (w : Frame). parity named (carried_over program faults faults steps w).records) (same-carried program faults v step)
    ∙ parity-carried program faults named steps (carried program.qubits step v) later (numbered-carried program step v steps numbered) (length-carried program step v here size)
    ∙ step-balance program step (sensitivity program.qubits named steps) v steps here numbered size (length-sensitivity program named steps later)
