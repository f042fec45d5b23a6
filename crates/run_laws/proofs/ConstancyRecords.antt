-- What a step does to the parity of a target's records: it changes by the step's own record, where that counts.
use Rattle.std.proofs.Common.{◌≡◌, ℕ, zero, suc, ◌+◌, ◌==◌, Bool, false, ◌&&◌, List, [], ◌∷◌, ◌++◌, length, get_or, if◌then◌else◌, true, Some, None, refl, ap, ap₂, sym, ◌∙◌, length-append}
use Rattle.std.specs.List.{range_with_len}
use Rattle.std.proofs.Math.Dec.{eqb-suc-suc, eqb-suc-zero, eqb-zero-suc}
use Rattle.pauli_word.specs.Parity.{exclusive_or}
use Rattle.pauli_word.specs.declared.letter.Letter.{Letter}
use Rattle.pauli_word.specs.Words.{anticommute}
use Rattle.pauli_word.proofs.Parities.{exclusive_or-false, same_truth, same_truth-true, at_six_truths}
pub use Rattle.step_model.proofs.HitSteps.{first_of_range}
use Rattle.step_model.proofs.HitSteps.{rest_of_range}
use Rattle.step_model.specs.Listing.{ListedStep, One, Two, Collapse, Fault, Feedback, measured_word, Listing, step_records}
use Rattle.step_model.specs.Runs.{RunState, next, next_coin, record_changes}
use Rattle.pauli_word.specs.States.{outcome}
use Rattle.step_model.specs.Sensitivities.{Sensitivity, record_counts, sensitivity_before}
use Rattle.step_model.specs.Targets.{parity, is_listed}

-- no record gives every target the parity false
pub parity-none : (named : List ℕ) → parity named [] ≡ false
parity-none [] = refl
parity-none (r ∷ named) = parity-none named

-- a record more, read at r
pub get_or-push : (records : List Bool) (b : Bool) (r : ℕ) → get_or (records ++ b ∷ []) r false ≡ exclusive_or (get_or records r false) (r == length records && b)
get_or-push [] b zero = refl
get_or-push [] b (suc r) = ap (λ x. x && b) (sym (eqb-suc-zero r))
get_or-push (x ∷ records) b zero = sym (ap (λ y. exclusive_or x (y && b)) (eqb-zero-suc (length records)) ∙ exclusive_or-false x)
get_or-push (x ∷ records) b (suc r) =
    get_or-push records b r ∙ ap (λ y. exclusive_or (get_or records r false) (y && b)) (sym (eqb-suc-suc r (length records)))

regroup : (g e b p l : Bool) → exclusive_or (exclusive_or g (e && b)) (exclusive_or p (l && b)) ≡ exclusive_or (exclusive_or g p) (exclusive_or e l && b)
regroup g e b p l =
    same_truth-true _ _
    (at_six_truths
    (λ g e b p l _. same_truth (exclusive_or (exclusive_or g (e && b)) (exclusive_or p (l && b))) (exclusive_or (exclusive_or g p) (exclusive_or e l && b)))
    refl g e b p l false)

-- a record more changes the parity where the target counts it and it is 1
pub parity-push : (named : List ℕ) (records : List Bool) (b : Bool) → parity named (records ++ b ∷ []) ≡ exclusive_or (parity named records) (is_listed named (length records) && b)
parity-push [] records b = refl
parity-push (r ∷ named) records b =
    ap₂ exclusive_or (get_or-push records b r) (parity-push named records b)
    ∙ regroup (get_or records r false) (r == length records) b (parity named records) (is_listed named (length records))

-- what a step changes in the parity of the records to which a target is sensitive; s is the sensitivity after it
abbrev pub record_change : Listing → List Bool → ListedStep → Sensitivity → RunState → Bool
record_change program faults (One gate q) s m = false
record_change program faults (Two gate a b) s m = false
record_change program faults (Collapse c r) s m =
    record_counts s.records r
    && exclusive_or (outcome m.state (measured_word program.qubits c) (next_coin m.coins)) (record_changes faults r)
record_change program faults (Fault f) s m = false
record_change program faults (Feedback w r) s m = anticommute s.word w && get_or m.records r false

fed_back : (c x p : Bool) → p ≡ exclusive_or (exclusive_or x p) x
fed_back c x p = same_truth-true _ _ (at_six_truths (λ x p _ _ _ _. same_truth p (exclusive_or (exclusive_or x p) x)) refl x p false false false false)

-- feedback changes the records to which the target is sensitive, and no record
fed : (w v : List Letter) (r : ℕ) (records : List ℕ) (values : List Bool) (clashes : Bool) → parity records values ≡ exclusive_or (parity (if clashes then r ∷ records else records) values) (clashes && get_or values r false)
fed w v r records values true = fed_back true (get_or values r false) (parity records values)
fed w v r records values false = sym (exclusive_or-false (parity records values))

pub parity-next : (program : Listing) (faults : List Bool) (step : ListedStep) (s : Sensitivity) (rest : List ℕ) (m : RunState) (k : ℕ) → step_records step ++ rest ≡ range_with_len (length m.records) k → parity s.records (next program faults step m).records ≡ exclusive_or (parity (sensitivity_before program.qubits step s).records m.records) (record_change program faults step s m)
parity-next program faults (One gate q) s rest m k h = sym (exclusive_or-false (parity s.records m.records))
parity-next program faults (Two gate a b) s rest m k h = sym (exclusive_or-false (parity s.records m.records))
parity-next program faults (Collapse c None) s rest m k h = sym (exclusive_or-false (parity s.records m.records))
parity-next program faults (Collapse c (Some r)) s rest m k h =
    parity-push s.records m.records recorded
    ∙ ap (λ x. exclusive_or (parity s.records m.records) (is_listed s.records x && recorded)) (sym (first_of_range r.number (length m.records) k rest h))
  where
    recorded : Bool
    recorded = exclusive_or (outcome m.state (measured_word program.qubits c) (next_coin m.coins)) (record_changes faults (Some r))
parity-next program faults (Fault f) s rest m k h = sym (exclusive_or-false (parity s.records m.records))
parity-next program faults (Feedback w r) s rest m k h = fed w s.word r s.records m.records (anticommute s.word w)

-- the records that the steps after it make go on in order
pub in_order-next : (program : Listing) (faults : List Bool) (step : ListedStep) (rest : List ℕ) (m : RunState) (k : ℕ) → step_records step ++ rest ≡ range_with_len (length m.records) k → (j : ℕ) × (rest ≡ range_with_len (length (next program faults step m).records) j)
in_order-next program faults (One gate q) rest m k h = (k, h)
in_order-next program faults (Two gate a b) rest m k h = (k, h)
in_order-next program faults (Collapse c None) rest m k h = (k, h)
in_order-next program faults (Collapse c (Some r)) rest m k h =
    let more : (j : ℕ) × (rest ≡ range_with_len (length m.records + 1) j) = rest_of_range r.number (length m.records) k rest h in
    (more.0, more.1 ∙ ap (λ x. range_with_len x more.0) (sym (length-append m.records (recorded ∷ []))))
  where
    recorded : Bool
    recorded = exclusive_or (outcome m.state (measured_word program.qubits c) (next_coin m.coins)) (record_changes faults (Some r))
in_order-next program faults (Fault f) rest m k h = (k, h)
in_order-next program faults (Feedback w r) rest m k h = (k, h)
