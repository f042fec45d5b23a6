-- Each fault that a circuit makes fits: its probability is one that is accepted, with its bound, and its letters are at
-- qubits of the circuit.
use Rattle.std.proofs.Common.{◌≡◌, ℕ, ◌<◌, ◌≤◌, ◌==◌, true, not, List, [], ◌∷◌, length, map, Option, None, Some, refl, arith}
use Rattle.std.specs.Prelude.{All, is_some, unwrap_or}
use Rattle.std.specs.List.{flat_map, list_all}
use Rattle.std.proofs.lemmas.Bool.{and_parts, not-false, or_parts}
use Rattle.std.proofs.lemmas.List.Elements.{All-cons, All-map, All-nil}
use Rattle.pauli_word.specs.declared.letter.Letter.{Letter}
use Rattle.step_model.specs.declared.step.Term.{Term}
use Rattle.step_model.specs.Listing.{Applies, Effect, Flips, step_records}
use Rattle.step_model.specs.Probabilities.{probability_bound}
use Rattle.step_model.specs.WellFormed.{EffectFits, FaultFits, TermsFit}
use Rattle.stim_parser.specs.declared.operation.Operation.{Operation}
use Rattle.stim_parser.specs.declared.operation.Operation.TheVariants.{Applies as Gates, Measurement, QubitReset, MeasurementReset, ProductMeasurement, PauliError, CorrelatedError}
use Rattle.stim_parser.specs.declared.target.Target.{Target}
use Rattle.stim_parser.specs.Limits.{are_of_form, has_wrong_arguments, has_wrong_probability, is_plain, is_probability}
use Rattle.stim_parser.specs.Verdicts.{Instruction}
use Rattle.circuit_walk.specs.Before.{Before}
use Rattle.circuit_walk.specs.FaultsMade.{fault_with, faults_made, flips_made}
use Rattle.circuit_walk.specs.Meaning.{made_of, new_faults}
use Rattle.circuit_walk.specs.StepsMade.{operation_made}
use Rattle.circuit_walk.specs.Targets.{term_at, term_of}
use Rattle.circuit_walk.specs.Totals.{first_argument}
use Rattle.circuit_walk.proofs.CircuitInstructions.{FitsOn}
use Rattle.circuit_walk.proofs.MadeNumbers.{gate-no_records, no_flips, reset-no_records}
use Rattle.circuit_walk.proofs.SoundInstructions.{AreSound, all_made}
use Rattle.circuit_walk.proofs.TargetQubits.{factors_fit, pauli_factors, plain_below, qubits_named}

-- ---- probabilities

bound_is : (o : Option ℕ) → is_some o ≡ true → o ≡ Some (unwrap_or o 0)
bound_is None h = absurd cc
bound_is (Some b) h = refl

fault_fits : (n : ℕ) (arguments : List (List ℕ)) (effect : Effect) → is_probability (first_argument arguments) ≡ true → EffectFits n effect → FaultFits n (fault_with arguments effect)
fault_fits n arguments effect h fit = record { bound = bound_is (probability_bound (first_argument arguments)) h; effect = fit }

flips_fit : (n : ℕ) (arguments : List (List ℕ)) (records : List ℕ) → list_all is_probability arguments ≡ true → All (FaultFits n) (flips_made arguments records)
flips_fit n [] records h = All-nil (FaultFits n)
flips_fit n (p ∷ arguments) records h =
    All-map (FaultFits n) (λ r. fault_with (p ∷ arguments) (Flips r)) records
    (λ k d lt. fault_fits n (p ∷ arguments) (Flips _) (and_parts (is_probability p) (list_all is_probability arguments) h).0 tt)

-- an error has an argument
first_probable : (arguments : List (List ℕ)) → (length arguments == 1) ≡ true → list_all is_probability arguments ≡ true → is_probability (first_argument arguments) ≡ true
first_probable [] h k = absurd cc
first_probable (p ∷ arguments) h k = (and_parts (is_probability p) (list_all is_probability arguments) k).0

-- ---- errors

errors_fit : (n : ℕ) (l : Letter) (arguments : List (List ℕ)) (ts : List Target) → is_probability (first_argument arguments) ≡ true → list_all is_plain ts ≡ true → qubits_named ts ≤ n → All (FaultFits n) (map (λ target. fault_with arguments (Applies (term_at l target ∷ []))) ts)
errors_fit n l arguments [] h plain le = All-nil (FaultFits n)
errors_fit n l arguments (t ∷ ts) h plain le =
    let parts = and_parts (is_plain t) (list_all is_plain ts) plain in
    let here : TermsFit n (term_at l t ∷ []) =
    All-cons (λ (term : Term). term.qubit < n) (term_at l t) [] (plain_below n t parts.0 (omega (arith, le))) (All-nil (λ (term : Term). term.qubit < n)) in
    All-cons (FaultFits n) (fault_with arguments (Applies (term_at l t ∷ []))) (map (λ target. fault_with arguments (Applies (term_at l target ∷ []))) ts)
    (fault_fits n arguments (Applies (term_at l t ∷ [])) h here)
    (errors_fit n l arguments ts h parts.1 (omega (arith, le)))

-- ---- instructions

-- where no record is made none is flipped
unflipped : (n : ℕ) (arguments : List (List ℕ)) (records : List ℕ) → records ≡ [] → All (FaultFits n) (flips_made arguments records)
unflipped n arguments records h = rw (h, no_flips arguments) (All-nil (FaultFits n))

operation_fits : (n line : ℕ) (b : Before) (o : Operation) (arguments : List (List ℕ)) (ts : List Target) → FitsOn n (record { line = line; operation = o; arguments = arguments; targets = ts }) → All (FaultFits n) (faults_made (flat_map step_records (operation_made n b o arguments ts)) o arguments ts)
unfolding has_wrong_arguments has_wrong_probability are_of_form
operation_fits n line b (Gates g) arguments ts h = unflipped n arguments (flat_map step_records (operation_made n b (Gates g) arguments ts)) (gate-no_records n b g arguments ts)
operation_fits n line b (QubitReset l) arguments ts h = unflipped n arguments (flat_map step_records (operation_made n b (QubitReset l) arguments ts)) (reset-no_records n b l arguments ts)
operation_fits n line b (Measurement l) arguments ts h = flips_fit n arguments _ (not-false (list_all is_probability arguments) h.fits.probability)
operation_fits n line b (MeasurementReset l) arguments ts h = flips_fit n arguments _ (not-false (list_all is_probability arguments) h.fits.probability)
operation_fits n line b ProductMeasurement arguments ts h = flips_fit n arguments _ (not-false (list_all is_probability arguments) h.fits.probability)
operation_fits n line b (PauliError l) arguments ts h =
    let one = not-false (length arguments == 1) (or_parts (not (length arguments == 1)) _ h.fits.arguments).0 in
    errors_fit n l arguments ts (first_probable arguments one (not-false (list_all is_probability arguments) h.fits.probability)) h.fits.targets h.within
operation_fits n line b CorrelatedError arguments ts h =
    let one = not-false (length arguments == 1) (or_parts (not (length arguments == 1)) _ h.fits.arguments).0 in
    All-cons (FaultFits n) (fault_with arguments (Applies (map term_of ts))) []
    (fault_fits n arguments (Applies (map term_of ts)) (first_probable arguments one (not-false (list_all is_probability arguments) h.fits.probability)) (factors_fit n ts (pauli_factors ts h.fits.targets) h.within))
    (All-nil (FaultFits n))
operation_fits n line b o arguments ts h = unflipped n arguments [] refl

pub faults_fit : (n total : ℕ) (b : Before) (is : List Instruction) → AreSound n total b is → All (FaultFits n) (made_of n (new_faults n) b is)
faults_fit n total b is h =
    all_made (FaultFits n) n total (new_faults n) (λ b i sound. operation_fits n i.line b i.operation i.arguments i.targets sound.fits_on) b is h
