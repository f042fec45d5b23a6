-- Each step of a circuit fits its program: it measures no identity, on qubits that there are, and the faults that it names
-- are those that its instruction makes.
use Rattle.std.proofs.Common.{◌≡◌, ℕ, ◌+◌, ◌≤◌, nat_lt, Bool, true, not, List, [], ◌∷◌, ◌++◌, length, length-append, map, get_or, None, Some, refl, sym, ap, ap₂, ◌∙◌, append_assoc, arith}
use Rattle.std.specs.Prelude.{All}
use Rattle.std.specs.List.{flat_map, list_all, range_with_len}
use Rattle.std.proofs.lemmas.Bool.{and_from, and_parts, eq-eqb, lt-ltb, not-true}
use Rattle.std.proofs.lemmas.List.{get_or-append-add}
use Rattle.std.proofs.lemmas.List.Elements.{All-head, All-tail}
use Rattle.std.proofs.lemmas.List.Folds.{list_all-append}
use Rattle.pauli_word.specs.declared.letter.Letter.{Letter}
use Rattle.pauli_word.specs.Words.{lone_letter}
use Rattle.step_model.specs.declared.step.Term.{Term}
use Rattle.step_model.specs.Listing.{Listing, ListedFault, Collapse, Fault, Applies, Flips, Measured, Word, Reset, effect_at, is_I, no_effect, step_records, word_of_terms}
use Rattle.step_model.specs.WellFormed.{applies_word, flip_fits, flips_record, measured_fits, step_fits, word_fits}
use Rattle.stim_parser.specs.declared.operation.Operation.{Operation}
use Rattle.stim_parser.specs.declared.operation.Operation.TheVariants.{Applies as Gates, Measurement, QubitReset, MeasurementReset, ProductMeasurement, PauliError, CorrelatedError}
use Rattle.stim_parser.specs.declared.target.Target.{Target}
use Rattle.stim_parser.specs.Limits.{are_of_form, has_same_qubit, is_plain, is_plain_or_inverted, products_of, qubit_of}
use Rattle.stim_parser.specs.Verdicts.{Instruction}
use Rattle.circuit_walk.specs.Before.{Before}
use Rattle.circuit_walk.specs.FaultsMade.{fault_with, faults_made, flips_made}
use Rattle.circuit_walk.specs.Meaning.{after, made_of, new_faults, new_steps}
use Rattle.circuit_walk.specs.StepsMade.{collapses_made, numbered_from, operation_made}
use Rattle.circuit_walk.specs.Targets.{is_inverted, is_product_inverted, term_at, term_of}
use Rattle.circuit_walk.proofs.CircuitInstructions.{FitsOn}
use Rattle.circuit_walk.proofs.GatesFit.{gate_fits}
use Rattle.circuit_walk.proofs.MadeNumbers.{collapse_with, collapses-records}
use Rattle.circuit_walk.proofs.ProductsApart.{IsProduct, all_apart}
use Rattle.circuit_walk.proofs.SoundInstructions.{AreSound}
use Rattle.circuit_walk.proofs.TargetQubits.{factors_fit, plain_below, plain_or_inverted_below, qubits_named}
use Rattle.circuit_walk.proofs.WordsApart.{lone_fits, product_fits}

-- ---- what is measured

measures_fit : (n : ℕ) (l : Letter) (ts : List Target) → not (is_I l) ≡ true → list_all is_plain_or_inverted ts ≡ true → qubits_named ts ≤ n → list_all (λ target. measured_fits n (Word (lone_letter n (qubit_of target) l))) ts ≡ true
measures_fit n l [] letter h le = refl
measures_fit n l (t ∷ ts) letter h le =
    let parts = and_parts (is_plain_or_inverted t) (list_all is_plain_or_inverted ts) h in
    and_from (word_fits n (lone_letter n (qubit_of t) l)) (list_all (λ target. measured_fits n (Word (lone_letter n (qubit_of target) l))) ts)
    (lone_fits n (qubit_of t) l (not-true (is_I l) letter) (plain_or_inverted_below n t parts.0 (omega (arith, le))))
    (measures_fit n l ts letter parts.1 (omega (arith, le)))

resets_fit : (n : ℕ) (l : Letter) (ts : List Target) → not (is_I l) ≡ true → list_all is_plain_or_inverted ts ≡ true → qubits_named ts ≤ n → list_all (λ target. measured_fits n (Reset l (qubit_of target))) ts ≡ true
resets_fit n l [] letter h le = refl
resets_fit n l (t ∷ ts) letter h le =
    let parts = and_parts (is_plain_or_inverted t) (list_all is_plain_or_inverted ts) h in
    and_from (measured_fits n (Reset l (qubit_of t))) (list_all (λ target. measured_fits n (Reset l (qubit_of target))) ts)
    (and_from (not (is_I l)) (nat_lt (qubit_of t) n) letter (lt-ltb (qubit_of t) n (plain_or_inverted_below n t parts.0 (omega (arith, le)))))
    (resets_fit n l ts letter parts.1 (omega (arith, le)))

words_fit : (n : ℕ) (products : List (List Target)) → All (IsProduct n) products → list_all (λ product. measured_fits n (Word (word_of_terms n (map term_of product)))) products ≡ true
words_fit n [] h = refl
words_fit n (product ∷ products) h =
    let here : IsProduct n product = All-head (IsProduct n) product products h in
    and_from (word_fits n (word_of_terms n (map term_of product))) (list_all (λ product. measured_fits n (Word (word_of_terms n (map term_of product)))) products)
    (product_fits n (map term_of product) (factors_fit n product here.factors here.within) here.apart)
    (words_fit n products (All-tail (IsProduct n) product products h))

module _ (program : Listing) where
  -- ---- the fault behind others

  -- it is there
  there : (before more : List ListedFault) (f : ListedFault) (k : ℕ) → program.faults ≡ before ++ f ∷ more → k ≡ length before → nat_lt k (length program.faults) ≡ true
  there before more f k e h = lt-ltb k (length program.faults) (omega (arith, ap (λ (fs : List ListedFault). length fs) e, length-append before (f ∷ more), h))

  -- and does what it does
  effect_there : (before more : List ListedFault) (f : ListedFault) (k : ℕ) → program.faults ≡ before ++ f ∷ more → k ≡ length before → effect_at program k ≡ f.effect
  effect_there before more f k e h =
      let place : k ≡ length before + 0 = omega (arith, h) in
      ap₂ (λ (fs : List ListedFault) (i : ℕ). (get_or fs i no_effect).effect) e place
      ∙ ap (λ (x : ListedFault). x.effect) (get_or-append-add before (f ∷ more) 0 no_effect)

  -- ---- collapses

  -- without faults
  plain_collapses_fit : {X : Type 0} (b : Before) (measured : X → Measured) (inverted : X → Bool) (k : ℕ) (xs : List X) → list_all (λ x. measured_fits program.qubits (measured x)) xs ≡ true → list_all (step_fits program) (numbered_from k (collapse_with b [] measured inverted) xs) ≡ true
  plain_collapses_fit b measured inverted k [] h = refl
  plain_collapses_fit b measured inverted k (x ∷ xs) h =
      let parts = and_parts (measured_fits program.qubits (measured x)) (list_all (λ x. measured_fits program.qubits (measured x)) xs) h in
      and_from (step_fits program (collapse_with b [] measured inverted k x)) (list_all (step_fits program) (numbered_from (k + 1) (collapse_with b [] measured inverted) xs))
      (and_from (measured_fits program.qubits (measured x)) true parts.0 refl)
      (plain_collapses_fit b measured inverted (k + 1) xs parts.1)

  -- the fault of each one flips its record
  flipped_collapses_fit : {X : Type 0} (b : Before) (p : List ℕ) (arguments : List (List ℕ)) (measured : X → Measured) (inverted : X → Bool) (k : ℕ) (xs : List X) (before more : List ListedFault) → list_all (λ x. measured_fits program.qubits (measured x)) xs ≡ true → program.faults ≡ before ++ (flips_made (p ∷ arguments) (range_with_len (b.records + k) (length xs)) ++ more) → b.faults + k ≡ length before → list_all (step_fits program) (numbered_from k (collapse_with b (p ∷ arguments) measured inverted) xs) ≡ true
  flipped_collapses_fit b p arguments measured inverted k [] before more h e at = refl
  flipped_collapses_fit b p arguments measured inverted k (x ∷ xs) before more h e at =
      let parts = and_parts (measured_fits program.qubits (measured x)) (list_all (λ x. measured_fits program.qubits (measured x)) xs) h in
      let r = b.records + k in
      let f = b.faults + k in
      let fault = fault_with (p ∷ arguments) (Flips r) in
      let others = flips_made (p ∷ arguments) (range_with_len (r + 1) (length xs)) in
      let next : r + 1 ≡ b.records + (k + 1) = omega arith in
      and_from (step_fits program (collapse_with b (p ∷ arguments) measured inverted k x)) (list_all (step_fits program) (numbered_from (k + 1) (collapse_with b (p ∷ arguments) measured inverted) xs))
      (and_from (measured_fits program.qubits (measured x)) (flip_fits program r (Some f)) parts.0
      (and_from (nat_lt f (length program.faults)) (flips_record r (effect_at program f))
      (there before (others ++ more) fault f e at)
      (ap (flips_record r) (effect_there before (others ++ more) fault f e at) ∙ eq-eqb r r refl)))
      (flipped_collapses_fit b p arguments measured inverted (k + 1) xs (before ++ fault ∷ []) more parts.1
      (e
      ∙ sym (append_assoc before (fault ∷ []) (others ++ more))
      ∙ ap (λ m. (before ++ fault ∷ []) ++ (flips_made (p ∷ arguments) (range_with_len m (length xs)) ++ more)) next)
      (omega (arith, at, length-append before (fault ∷ []))))

  collapses_fit : {X : Type 0} (b : Before) (arguments : List (List ℕ)) (measured : X → Measured) (inverted : X → Bool) (xs : List X) (before more : List ListedFault) → list_all (λ x. measured_fits program.qubits (measured x)) xs ≡ true → program.faults ≡ before ++ (flips_made arguments (flat_map step_records (collapses_made b arguments measured inverted xs)) ++ more) → b.faults ≡ length before → list_all (step_fits program) (collapses_made b arguments measured inverted xs) ≡ true
  collapses_fit b [] measured inverted xs before more h e at = plain_collapses_fit b measured inverted 0 xs h
  collapses_fit b (p ∷ arguments) measured inverted xs before more h e at =
      flipped_collapses_fit b p arguments measured inverted 0 xs before more h
      (e ∙ ap (λ (records : List ℕ). before ++ (flips_made (p ∷ arguments) records ++ more)) (collapses-records b (p ∷ arguments) measured inverted xs))
      (omega (arith, at))

  -- resets
  unrecorded_fit : (l : Letter) (ts : List Target) → not (is_I l) ≡ true → list_all is_plain ts ≡ true → qubits_named ts ≤ program.qubits → list_all (step_fits program) (map (λ target. Collapse (Reset l (qubit_of target)) None) ts) ≡ true
  unrecorded_fit l [] letter h le = refl
  unrecorded_fit l (t ∷ ts) letter h le =
      let parts = and_parts (is_plain t) (list_all is_plain ts) h in
      and_from (step_fits program (Collapse (Reset l (qubit_of t)) None)) (list_all (step_fits program) (map (λ target. Collapse (Reset l (qubit_of target)) None) ts))
      (and_from (measured_fits program.qubits (Reset l (qubit_of t))) true (and_from (not (is_I l)) (nat_lt (qubit_of t) program.qubits) letter (lt-ltb (qubit_of t) program.qubits (plain_below program.qubits t parts.0 (omega (arith, le))))) refl)
      (unrecorded_fit l ts letter parts.1 (omega (arith, le)))

  -- ---- errors

  error_fits : (arguments : List (List ℕ)) (terms : List Term) (before more : List ListedFault) (f : ℕ) → program.faults ≡ before ++ fault_with arguments (Applies terms) ∷ more → f ≡ length before → step_fits program (Fault f) ≡ true
  error_fits arguments terms before more f e at =
      and_from (nat_lt f (length program.faults)) (applies_word (effect_at program f))
      (there before more (fault_with arguments (Applies terms)) f e at)
      (ap applies_word (effect_there before more (fault_with arguments (Applies terms)) f e at))

  errors_fit : (l : Letter) (arguments : List (List ℕ)) (f : ℕ) (ts : List Target) (before more : List ListedFault) → program.faults ≡ before ++ (map (λ target. fault_with arguments (Applies (term_at l target ∷ []))) ts ++ more) → f ≡ length before → list_all (step_fits program) (numbered_from f (λ f target. Fault f) ts) ≡ true
  errors_fit l arguments f [] before more e at = refl
  errors_fit l arguments f (t ∷ ts) before more e at =
      let fault = fault_with arguments (Applies (term_at l t ∷ [])) in
      let others = map (λ target. fault_with arguments (Applies (term_at l target ∷ []))) ts in
      and_from (step_fits program (Fault f)) (list_all (step_fits program) (numbered_from (f + 1) (λ f target. Fault f) ts))
      (error_fits arguments (term_at l t ∷ []) before (others ++ more) f e at)
      (errors_fit l arguments (f + 1) ts (before ++ fault ∷ []) more (e ∙ sym (append_assoc before (fault ∷ []) (others ++ more)))
      (omega (arith, at, length-append before (fault ∷ []))))

  -- ---- instructions

  operation_fits : (line : ℕ) (b : Before) (o : Operation) (arguments : List (List ℕ)) (ts : List Target) (before more : List ListedFault) → FitsOn program.qubits (record { line = line; operation = o; arguments = arguments; targets = ts }) → program.faults ≡ before ++ (faults_made (flat_map step_records (operation_made program.qubits b o arguments ts)) o arguments ts ++ more) → b.faults ≡ length before → list_all (step_fits program) (operation_made program.qubits b o arguments ts) ≡ true
  unfolding are_of_form has_same_qubit
  operation_fits line b (Gates g) arguments ts before more h e at = gate_fits program b.records g ts h.fits.targets h.fits.different h.within
  operation_fits line b (Measurement l) arguments ts before more h e at =
      collapses_fit b arguments (λ target. Word (lone_letter program.qubits (qubit_of target) l)) is_inverted ts before more
      (measures_fit program.qubits l ts h.fits.operation_written h.fits.targets h.within) e at
  operation_fits line b (QubitReset l) arguments ts before more h e at = unrecorded_fit l ts h.fits.operation_written h.fits.targets h.within
  operation_fits line b (MeasurementReset l) arguments ts before more h e at =
      collapses_fit b arguments (λ target. Reset l (qubit_of target)) is_inverted ts before more
      (resets_fit program.qubits l ts h.fits.operation_written h.fits.targets h.within) e at
  operation_fits line b ProductMeasurement arguments ts before more h e at =
      collapses_fit b arguments (λ product. Word (word_of_terms program.qubits (map term_of product))) is_product_inverted (products_of ts) before more
      (words_fit program.qubits (products_of ts) (all_apart program.qubits ts h.fits.targets h.fits.different h.fits.targets_written h.within)) e at
  operation_fits line b (PauliError l) arguments ts before more h e at = errors_fit l arguments b.faults ts before more e at
  operation_fits line b CorrelatedError arguments ts before more h e at =
      and_from (step_fits program (Fault b.faults)) true (error_fits arguments (map term_of ts) before more b.faults e at) refl
  operation_fits line b o arguments ts before more h e at = refl

  -- the faults before those that are to come
  steps_from : (total : ℕ) (b : Before) (is : List Instruction) (before : List ListedFault) → AreSound program.qubits total b is → program.faults ≡ before ++ made_of program.qubits (new_faults program.qubits) b is → b.faults ≡ length before → list_all (step_fits program) (made_of program.qubits (new_steps program.qubits) b is) ≡ true
  unfolding made_of
  steps_from total b [] before h e at = refl
  steps_from total b (i ∷ is) before h e at =
      let n = program.qubits in
      let now = new_faults n b i in
      let later = made_of n (new_faults n) (after n b i) is in
      list_all-append (step_fits program) (new_steps n b i) (made_of n (new_steps n) (after n b i) is)
      ∙ and_from (list_all (step_fits program) (new_steps n b i)) (list_all (step_fits program) (made_of n (new_steps n) (after n b i) is))
      (operation_fits i.line b i.operation i.arguments i.targets before later h.0.fits_on e at)
      (steps_from total (after n b i) is (before ++ now) h.1 (e ∙ sym (append_assoc before now later)) (omega (arith, at, length-append before now)))

  pub steps_fit : (total : ℕ) (b : Before) (is : List Instruction) → AreSound program.qubits total b is → program.faults ≡ made_of program.qubits (new_faults program.qubits) b is → b.faults ≡ 0 → list_all (step_fits program) (made_of program.qubits (new_steps program.qubits) b is) ≡ true
  steps_fit total b is h e at = steps_from total b is [] h e at
