-- A target without a place has the same parity under all coins. Going through a run, the sensitivity of the steps that
-- are left stays in the state, with a sign that takes in the records made and what the steps bring. In the end the
-- sensitivity is the identity, whose sign is plus.
use Rattle.std.proofs.Common.{◌≡◌, ℕ, suc, Bool, true, false, List, [], ◌∷◌, ◌++◌, append-nil, length, Option, Some, None, option_map, refl, ap, sym, ◌∙◌, arith, subst}
use Rattle.std.specs.List.{range_with_len, AllPass, list_all}
use Rattle.std.proofs.lemmas.Bool.{and_from}
use Rattle.pauli_word.specs.declared.letter.Letter.{Letter}
use Rattle.pauli_word.specs.declared.letter.Letter.TheVariants.{I, X, Y, Z}
use Rattle.pauli_word.specs.Parity.{exclusive_or}
use Rattle.pauli_word.specs.Words.{anticommute, no_letters, signed}
use Rattle.pauli_word.proofs.Parities.{same_truth, same_truth-true, at_six_truths}
use Rattle.step_model.specs.declared.step.Place.TheVariants.{Start}
use Rattle.run_laws.specs.Constants.{IsConstant, ParityIsWhatStepsBring, sign_brought, signs_brought, HasSensitivity, SensitivityStays}
use Rattle.step_model.specs.Listing.{ListedStep, Listing}
use Rattle.pauli_word.specs.States.{State, is_I_or_Z}
use Rattle.pauli_word.specs.Groups.{IsGroup}
use Rattle.step_model.specs.Runs.{RunState, next, run_from, start}
use Rattle.step_model.specs.Sensitivities.{Sensitivity, sensitivity, sensitivity_before, collapse_word, latest_place, later_or_here, lowest_X_or_Y, place_of, after_or_start}
use Rattle.step_model.specs.Targets.{parity, target_at}
use Rattle.step_model.specs.WellFormed.{IsWellFormed, step_fits, records_made}
use Rattle.step_model.proofs.SensitivityLengths.{length-sensitivity}
use Rattle.step_model.proofs.StateIsGroup.{IsGroup-next, IsGroup-run_from, list_all-pass}
use Rattle.pauli_word.proofs.Groups.{IsGroup-start}
use Rattle.run_laws.proofs.ConstancyRecords.{parity-none, parity-next, in_order-next, record_change}
use Rattle.run_laws.proofs.ConstancySteps.{sign_after, member-next}

-- no place among steps: none at the first, and none later
none_later : (step : ListedStep) (later : Option ℕ) (here : Bool) → later_or_here step later here ≡ None → later ≡ None
none_later step None here h = refl
none_later step (Some k) here h = cc

none_here : (step : ListedStep) (later : Option ℕ) (here : Bool) → later_or_here step later here ≡ None → here ≡ false
none_here step None false h = refl
none_here step None true h = cc
none_here step (Some k) here h = cc

-- the sign that is left after the steps up to one, where b is the sign before the first of them, p and q the parities of
-- the records before and after, o and t what it and the others bring, and c what its record changes
regroup : (b p q t o c : Bool) → exclusive_or (exclusive_or (exclusive_or b (exclusive_or o c)) (exclusive_or p c)) (exclusive_or q t) ≡ exclusive_or (exclusive_or b p) (exclusive_or q (exclusive_or o t))
regroup b p q t o c =
    same_truth-true _ _
    (at_six_truths
    (λ b p q t o c. same_truth (exclusive_or (exclusive_or (exclusive_or b (exclusive_or o c)) (exclusive_or p c)) (exclusive_or q t)) (exclusive_or (exclusive_or b p) (exclusive_or q (exclusive_or o t))))
    refl b p q t o c)

again : (b p : Bool) → exclusive_or (exclusive_or b p) (exclusive_or p false) ≡ b
again false false = refl
again false true = refl
again true false = refl
again true true = refl

-- in a group state the identity has the sign plus
plus_alone : (n : ℕ) (s : State) (b : Bool) → IsGroup n s → s (signed (no_letters n) b) ≡ true → b ≡ false
plus_alone n s false g h = refl
plus_alone n s true g h = let k : s (signed (no_letters n) true) ≡ false = g.no_minus in cc

-- what the records of a step change, and what it brings, take the sign before to the sign after
stays_from : (program : Listing) (faults : List Bool) (named : List ℕ) (earlier later : List ListedStep) (m : RunState) (b : Bool) (k : ℕ)
    → AllPass (step_fits program) (earlier ++ later) → records_made (earlier ++ later) ≡ range_with_len (length m.records) k
    → latest_place program.qubits named (earlier ++ later) ≡ None → IsGroup program.qubits m.state
    → m.state (signed (sensitivity program.qubits named (earlier ++ later)).word b) ≡ true
    → (run_from program faults earlier m).state (signed (sensitivity program.qubits named later).word
    (exclusive_or (exclusive_or b (parity (sensitivity program.qubits named (earlier ++ later)).records m.records))
    (exclusive_or (parity (sensitivity program.qubits named later).records (run_from program faults earlier m).records) (signs_brought program faults named earlier later)))) ≡ true
stays_from program faults named [] later m b k fits order none g member =
    ap (λ x. m.state (signed (sensitivity program.qubits named later).word x)) (again b (parity (sensitivity program.qubits named later).records m.records)) ∙ member
stays_from program faults named (step ∷ earlier) later m b k fits order none g member =
    let s : Sensitivity = sensitivity program.qubits named (earlier ++ later) in
    let here : step_fits program step ≡ true = fits 0 step (omega arith) in
    let fits_later : AllPass (step_fits program) (earlier ++ later) = λ j d h. fits (suc j) d (omega arith) in
    let rest : (j : ℕ) × (records_made (earlier ++ later) ≡ range_with_len (length (next program faults step m).records) j) =
    in_order-next program faults step (records_made (earlier ++ later)) m k order in
    let apart : anticommute (collapse_word program.qubits step) s.word ≡ false = none_here step (latest_place program.qubits named (earlier ++ later)) _ none in
    let after : RunState = run_from program faults earlier (next program faults step m) in
    let p : Bool = parity (sensitivity_before program.qubits step s).records m.records in
    let q : Bool = parity (sensitivity program.qubits named later).records after.records in
    let t : Bool = signs_brought program faults named earlier later in
    ap (λ x. after.state (signed (sensitivity program.qubits named later).word x))
    (sym (regroup b p q t (sign_brought program faults step s) (record_change program faults step s m))
    ∙ ap (λ x. exclusive_or (exclusive_or (sign_after program faults step m s b) x) (exclusive_or q t))
    (sym (parity-next program faults step s (records_made (earlier ++ later)) m k order)))
    ∙ stays_from program faults named earlier later (next program faults step m) (sign_after program faults step m s b) rest.0
    fits_later
    rest.1
    (none_later step (latest_place program.qubits named (earlier ++ later)) _ none)
    (IsGroup-next program faults step m here g)
    (member-next program faults step m s b here g (length-sensitivity program named (earlier ++ later) fits_later) apart member)

none_further : (o : Option ℕ) → option_map suc o ≡ None → o ≡ None
none_further None e = refl
none_further (Some k) e = cc

-- no X and no Y: all letters are I and Z
all_I_or_Z : (w : List Letter) → lowest_X_or_Y w ≡ None → list_all is_I_or_Z w ≡ true
all_I_or_Z [] h = refl
all_I_or_Z (I ∷ w) h = all_I_or_Z w (none_further (lowest_X_or_Y w) h)
all_I_or_Z (Z ∷ w) h = all_I_or_Z w (none_further (lowest_X_or_Y w) h)
all_I_or_Z (X ∷ w) h = cc
all_I_or_Z (Y ∷ w) h = cc

no_collapse : (o : Option ℕ) (w : List Letter) → after_or_start o w ≡ None → o ≡ None
no_collapse None w h = refl
no_collapse (Some k) w h = cc

no_start : (o : Option ℕ) (w : List Letter) → after_or_start o w ≡ None → lowest_X_or_Y w ≡ None
no_start (Some k) w h = cc
no_start None w h = by_lowest (lowest_X_or_Y w) h
  where
    by_lowest : (q : Option ℕ) → option_map Start q ≡ None → q ≡ None
    by_lowest None e = refl
    by_lowest (Some k) e = cc

-- in the start the sensitivity of a target without a place has letters I and Z alone
stays : (program : Listing) (faults coins : List Bool) (named : List ℕ) (earlier later : List ListedStep) (k : ℕ)
    → AllPass (step_fits program) (earlier ++ later) → records_made (earlier ++ later) ≡ range_with_len 0 k
    → after_or_start (latest_place program.qubits named (earlier ++ later)) (sensitivity program.qubits named (earlier ++ later)).word ≡ None
    → HasSensitivity program faults coins named earlier later
stays program faults coins named earlier later k fits order none =
    ap
    (λ x. m.state (signed (sensitivity program.qubits named later).word (exclusive_or x (exclusive_or (parity (sensitivity program.qubits named later).records m.records) (signs_brought program faults named earlier later)))))
    (sym (parity-none first.records))
    ∙ stays_from program faults named earlier later (start coins) false k fits order
    (no_collapse latest first.word none)
    (IsGroup-start program.qubits)
    (and_from (list_all is_I_or_Z first.word) true (all_I_or_Z first.word (no_start latest first.word none)) refl)
  where
    m : RunState
    m = run_from program faults earlier (start coins)

    latest : Option ℕ
    latest = latest_place program.qubits named (earlier ++ later)

    first : Sensitivity
    first = sensitivity program.qubits named (earlier ++ later)

pub sensitivity_stays : SensitivityStays
sensitivity_stays program d faults coins earlier later fit none split =
    let named = target_at program d in
    stays program faults coins named earlier later program.records
    (subst (λ steps. AllPass (step_fits program) steps) split fit.steps_fit)
    (subst (λ steps. records_made steps ≡ range_with_len 0 program.records) split fit.records_in_order)
    (subst (λ steps. after_or_start (latest_place program.qubits named steps) (sensitivity program.qubits named steps).word ≡ None) split none)

-- two truth values whose exclusive or is false are the same
same : (a b : Bool) → exclusive_or a b ≡ false → a ≡ b
same false false h = refl
same true true h = refl
same false true h = cc
same true false h = cc

-- the parity of a target without a place is what the steps bring
pub parity-brought : (program : Listing) (d : ℕ) → IsWellFormed program → place_of program d ≡ None → ParityIsWhatStepsBring program d
parity-brought program d fit none faults coins =
    let m : RunState = run_from program faults program.steps (start coins) in
    let sign : Bool = exclusive_or (parity (target_at program d) m.records) (signs_brought program faults (target_at program d) program.steps []) in
    same _ _
    (plus_alone program.qubits m.state sign (IsGroup-run_from program faults program.steps (start coins) (list_all-pass (step_fits program) program.steps fit.steps_fit) (IsGroup-start program.qubits))
    (sensitivity_stays program d faults coins program.steps [] fit none (sym (append-nil program.steps))))

pub parity_is_constant : (program : Listing) (d : ℕ) → IsWellFormed program → place_of program d ≡ None → IsConstant program d
parity_is_constant program d fit none happening first second =
    parity-brought program d fit none happening first ∙ sym (parity-brought program d fit none happening second)
