-- The step at a place of an instruction is the one that its operation makes of the target, the pair or the product there.
use Rattle.std.proofs.Common.{◌≡◌, ◌<◌, ◌+◌, ◌*◌, ◌==◌, ℕ, zero, suc, Bool, true, false, if◌then◌else◌, List, [], ◌∷◌, length, get_or, map, Option, None, Some, refl, sym, ap, ap₂, ◌∙◌, subst, arith, option_map}
use Rattle.std.specs.Prelude.{◌≤◌, All, IfSome, slice_get, take}
use Rattle.std.specs.List.{list_all, slice_range}
use Rattle.std.proofs.lemmas.Bool.{and_parts, eq-eqb, ne_eqb}
use Rattle.std.proofs.lemmas.List.Elements.{All-head, All-tail}
use Rattle.std.proofs.lemmas.Option.{slice_get-get_or}
use Rattle.gate_table.specs.declared.gate.Gate.{Gate}
use Rattle.gate_table.specs.Images.{arity_of}
use Rattle.pauli_word.specs.declared.letter.Letter.{Letter}
use Rattle.pauli_word.specs.Words.{lone_letter}
use Rattle.step_model.specs.declared.step.Term.{Term}
use Rattle.step_model.specs.Listing as listing
use Rattle.step_model.specs.Listing.{Reset, Word, word_of_terms}
use Rattle.stim_parser.specs.declared.operation.Operation.{Operation}
use Rattle.stim_parser.specs.declared.operation.Operation.TheVariants.{Applies, CorrelatedError, Measurement, MeasurementReset, PauliError, ProductMeasurement, QubitReset}
use Rattle.stim_parser.specs.declared.target.Target.{Target}
use Rattle.stim_parser.specs.declared.table.Keyword.TheVariants.{Does}
use Rattle.stim_parser.specs.declared.target.Target.TheVariants.{Plain}
use Rattle.stim_parser.specs.Instructions.{target_form}
use Rattle.stim_parser.specs.Limits.{are_of_form, are_products, is_plain, is_plain_or_inverted, products_of, qubit_of}
use Rattle.stim_parser.specs.Verdicts.{Instruction}
use Rattle.circuit_walk.specs.declared.instruction_steps.InstructionSteps.{InstructionSteps}
use Rattle.circuit_walk.specs.declared.letters.Letters.{Letters}
use Rattle.circuit_walk.specs.declared.pairs.PairStep.{PairStep}
use Rattle.circuit_walk.specs.declared.pairs.PairStep.TheVariants as pair
use Rattle.circuit_walk.specs.declared.step.Counts.{Counts}
use Rattle.circuit_walk.specs.declared.step.FaultName.{FaultName}
use Rattle.circuit_walk.specs.declared.step.Step.TheVariants.{Collapse, CollapseWord, Fault, One}
use Rattle.circuit_walk.specs.Before.{Before}
use Rattle.circuit_walk.specs.FaultsMade.{fault_with}
use Rattle.circuit_walk.specs.Letters.{letters_in, letters_named}
use Rattle.circuit_walk.specs.Makes.{one_if}
use Rattle.circuit_walk.specs.Meaning.{new_faults}
use Rattle.circuit_walk.specs.Refusals.{reaches_far}
use Rattle.circuit_walk.specs.Small.{HasSmallQubit}
use Rattle.circuit_walk.specs.Steps.{listed, measured, number_of}
use Rattle.circuit_walk.specs.StepsMade.{pair_made, pairs_made}
use Rattle.circuit_walk.specs.Targets.{is_inverted, is_product_inverted, term_of}
use Rattle.circuit_walk.specs.private.InstructionSteps.{Stands, counts_behind, product_words, recorded_at, words_length}
use Rattle.circuit_walk.specs.private.Names.{IsNext, IsNextFlip, Lends, NamesNext}
use Rattle.circuit_walk.specs.private.Taken.{IsFacing, IsTaken, measuring, pair_in}
use Rattle.circuit_walk.proofs.LentLetters.{is_of, letter_fault_is, product_fault_is, small_of, small_part}
use Rattle.circuit_walk.proofs.ProductPlaces.{place_within}
use Rattle.circuit_walk.proofs.ProductWords.{slice_is, words_number}
use Rattle.circuit_walk.proofs.StandLemmas.{fit_own, gate_behind, measured_form, next_of_gate, own, own_place, place_of_own, products_of_form, reset_form, second_there, single_form}
use Rattle.circuit_walk.proofs.StepLemmas.{collapse_at, numbered_at, of_each, pair_at}

at_element : {X : Type 0} (P : X → Type 0) (xs : List X) (j : ℕ) (x : X) → All P xs → slice_get xs j ≡ Some x → P x
at_element P [] j x h got = cc
at_element P (y ∷ ys) zero x h got = let same : y ≡ x = cc in subst P same (All-head P y ys h)
at_element P (y ∷ ys) (suc j) x h got = at_element P ys j x (All-tail P y ys h) got

passes_at : {X : Type 0} (p : X → Bool) (xs : List X) (j : ℕ) (x : X) → list_all p xs ≡ true → slice_get xs j ≡ Some x → p x ≡ true
passes_at p [] j x h got = cc
passes_at p (y ∷ ys) zero x h got = let same : y ≡ x = cc in subst (λ z. p z ≡ true) same (and_parts (p y) (list_all p ys) h).0
passes_at p (y ∷ ys) (suc j) x h got = passes_at p ys j x (and_parts (p y) (list_all p ys) h).1 got

plain_too : (t : Target) → is_plain t ≡ true → is_plain_or_inverted t ≡ true
plain_too (Plain q) h = refl
plain_too t h = cc

same_counts : (a b : Counts) → a.records ≡ b.records → a.collapses ≡ b.collapses → a.faults ≡ b.faults → a ≡ b
same_counts a b records collapses faults =
    ap (λ n. record a { records = n }) records
    ∙ ap₂ (λ n m. record { records = b.records; collapses = n; faults = m }) collapses faults

-- nothing is flipped where no record is made
none_flipped : (flips : Bool) → one_if (if flips then false else false) ≡ 0
none_flipped false = refl
none_flipped true = refl

gates_count : (g : Gate) (flips : Bool) (c : Counts) → c ≡ counts_behind (Applies g) flips c
gates_count g flips c = same_counts c _ (omega arith) (omega arith) (omega (arith, none_flipped flips))

resets_count : (l : Letter) (flips : Bool) (c : Counts) → record c { collapses = c.collapses + 1 } ≡ counts_behind (QubitReset l) flips c
resets_count l flips c = same_counts _ _ (omega arith) (omega arith) (omega (arith, none_flipped flips))

module _ (s : InstructionSteps) (c : Counts) (f : IsFacing s c) where
  abbrev ts : List Target
  ts = s.targets.now

  -- the counts behind it, by its operation
  counts_are : (o : Operation) (new : Counts) → s.operation ≡ o → new ≡ counts_behind o s.flips c → new ≡ counts_behind s.operation s.flips c
  counts_are o new is same = same ∙ sym (ap (λ p. counts_behind p s.flips c) is)

  -- the qubit of a target is within the limit
  pub small_at : (j : ℕ) (t : Target) → slice_get s.targets.now j ≡ Some t → HasSmallQubit t
  small_at j t at = at_element HasSmallQubit ts j t (fit_own f.instruction s _ f.stands.steps refl).small at

  -- the target at the place is a qubit, where the operation takes no others
  form_of : (o : Operation) → s.operation ≡ o → are_of_form (target_form (Does o)) ts ≡ true
  form_of o is = (fit_own f.instruction s o f.stands.steps is).form

  pub own_single : (g : Gate) → s.operation ≡ Applies g → arity_of g ≡ 1 → (t : Target) → slice_get s.targets.now s.at ≡ Some t → is_plain_or_inverted t ≡ true
  own_single g is one t at = plain_too t (passes_at is_plain ts s.at t (single_form g ts one (form_of (Applies g) is)) at)

  pub own_reset : (l : Letter) → s.operation ≡ QubitReset l → (t : Target) → slice_get s.targets.now s.at ≡ Some t → is_plain_or_inverted t ≡ true
  own_reset l is t at = plain_too t (passes_at is_plain ts s.at t (reset_form l ts (form_of (QubitReset l) is)) at)

  pub own_measured : (l : Letter) (reset : Bool) → s.operation ≡ measuring reset l → (t : Target) → slice_get s.targets.now s.at ≡ Some t → is_plain_or_inverted t ≡ true
  own_measured l reset is t at = passes_at is_plain_or_inverted ts s.at t (measured_form l reset ts (form_of (measuring reset l) is)) at

  -- ---- gates

  pub taken_single : (g : Gate) → s.operation ≡ Applies g → arity_of g ≡ 1 → (t : Target) → slice_get s.targets.now s.at ≡ Some t
      → IsTaken s c (record { step = One g (qubit_of t); at = s.at + 1; counts = c })
  taken_single g is arity t at =
      record {
        step = λ n k i b st.
            let o = own n i b s c k _ st is in
            let one : (arity_of g == 1) ≡ true = eq-eqb (arity_of g) 1 arity in
            let at_k : s.at ≡ k = omega (arith, o.place.0 ∙ ap (λ m. m * k) arity) in
            ap (λ steps. slice_get steps k) o.made
            ∙ ap (λ (single : Bool). slice_get (if single then map (λ target. listing.One g (qubit_of target)) ts else pairs_made n b.records g ts) k) one
            ∙ of_each (λ target. listing.One g (qubit_of target)) ts k t (subst (λ j. slice_get ts j ≡ Some t) at_k at);
        names = tt;
        letters = λ n k i b st. tt;
        place = λ k i steps is_at.
            let fit = fit_own i s _ steps is in
            let place = own_place i s _ s.at k steps is is_at in
            place_of_own i s _ (s.at + 1) (k + 1) steps is (omega (arith, next_of_gate g s.at k place.0, arity), omega (arith, f.there, fit.end));
        within = omega (arith, f.there);
        counts = counts_are (Applies g) c is (gates_count g s.flips c);
      }

  pub second_of_pair : (g : Gate) → s.operation ≡ Applies g → arity_of g ≡ 2 → s.at + 1 < length s.targets.now
  second_of_pair g is arity =
      let o = own 0 f.instruction f.before s c f.k _ f.stands is in
      let two : (arity_of g == 1) ≡ false = ne_eqb (arity_of g) 1 (λ e. absurd (omega (arith, e, arity))) in
      second_there g ts s.at f.k two o.count o.place.0 (omega (arith, f.there, o.end))

  pub near_pair : (g : Gate) → s.operation ≡ Applies g → reaches_far c.records s.targets.now ≡ false
  near_pair g is =
      let o = own 0 f.instruction f.before s c f.k _ f.stands is in
      let e : f.before.records ≡ c.records = omega (arith, o.records) in
      sym (ap (λ r. reaches_far r ts) e) ∙ o.near

  pub taken_pair : (g : Gate) → s.operation ≡ Applies g → arity_of g ≡ 2 → (first second : Target) → slice_get s.targets.now s.at ≡ Some first → slice_get s.targets.now (s.at + 1) ≡ Some second
      → (step : PairStep) → ((n : ℕ) → listed n (pair_in g step) ≡ pair_made n c.records g first second)
      → IsTaken s c (record { step = pair_in g step; at = s.at + 2; counts = c })
  taken_pair g is arity first second at next step made =
      let two : (arity_of g == 1) ≡ false = ne_eqb (arity_of g) 1 (λ e. absurd (omega (arith, e, arity))) in
      let fit = fit_own f.instruction s _ f.stands.steps is in
      let here = own_place f.instruction s _ s.at f.k f.stands.steps is f.stands.place in
      record {
        step = λ n k i b st.
            let o = own n i b s c k _ st is in
            let at_k : s.at ≡ 2 * k = o.place.0 ∙ ap (λ m. m * k) arity in
            let records : b.records ≡ c.records = omega (arith, o.records) in
            ap (λ steps. slice_get steps k) o.made
            ∙ ap (λ (single : Bool). slice_get (if single then map (λ target. listing.One g (qubit_of target)) ts else pairs_made n b.records g ts) k) two
            ∙ pair_at n b.records g ts k first second (subst (λ j. slice_get ts j ≡ Some first) at_k at) (subst (λ j. slice_get ts (j + 1) ≡ Some second) at_k next)
            ∙ ap (λ r. Some (pair_made n r g first second)) records
            ∙ ap (λ made. Some made) (sym (made n));
        names = names_pair step;
        letters = λ n k i b st. lends_pair step n k i b;
        place = λ k i steps is_at.
            let own_fit = fit_own i s _ steps is in
            let place = own_place i s _ s.at k steps is is_at in
            let within = gate_behind g ts s.at k own_fit.count place.0 (omega (arith, f.there, own_fit.end)) in
            place_of_own i s _ (s.at + 2) (k + 1) steps is (omega (arith, next_of_gate g s.at k place.0, arity), omega (arith, within, arity));
        within = omega (arith, gate_behind g ts s.at f.k fit.count here.0 (omega (arith, f.there, fit.end)), arity, fit.end);
        counts = counts_are (Applies g) c is (gates_count g s.flips c);
      }
    where
      names_pair : (step : PairStep) → NamesNext s c (pair_in g step)
      names_pair (pair.Qubits a b) = tt
      names_pair (pair.Fed letter q rec) = tt

      lends_pair : (step : PairStep) (n k : ℕ) (i : Instruction) (b : Before) → Lends n b i k (pair_in g step)
      lends_pair (pair.Qubits p q) n k i b = tt
      lends_pair (pair.Fed letter q rec) n k i b = tt

  -- ---- collapses

  flip_next : (flip : Option FaultName) → IfSome flip (IsNext s c) → IsNextFlip s c (Some c.records) flip
  flip_next None next = tt
  flip_next (Some name) next = next

  pub taken_measured : (l : Letter) (reset : Bool) → s.operation ≡ measuring reset l → (t : Target) → slice_get s.targets.now s.at ≡ Some t
      → (flip : Option FaultName) → option_map number_of flip ≡ (if s.flips then Some c.faults else None) → IfSome flip (IsNext s c)
      → IsTaken s c (record { step = Collapse l (qubit_of t) (Some c.records) reset (is_inverted t) flip; at = s.at + 1; counts = counts_behind ProductMeasurement s.flips c })
  taken_measured l false is t at flip number next =
      record {
        step = λ n k i b st.
            let o = own n i b s c k _ st is in
            ap (λ steps. slice_get steps k) o.made
            ∙ collapse_at b i.arguments (λ (target : Target). Word (lone_letter n (qubit_of target) l)) is_inverted ts k t c s.flips (subst (λ j. slice_get ts j ≡ Some t) o.place.0 at) o.flips o.records o.faults
            ∙ ap (λ fault. Some (listing.Collapse (measured n false l (qubit_of t)) (Some (record { number = c.records; inverted = is_inverted t; flip = fault })))) (sym number);
        names = flip_next flip next;
        letters = λ n k i b st. tt;
        place = λ k i steps is_at.
            let fit = fit_own i s _ steps is in
            let place = own_place i s _ s.at k steps is is_at in
            place_of_own i s _ (s.at + 1) (k + 1) steps is (omega (arith, place.0), omega (arith, place.0, f.there, fit.end));
        within = omega (arith, f.there);
        counts = counts_are (Measurement l) _ is refl;
      }
  taken_measured l true is t at flip number next =
      record {
        step = λ n k i b st.
            let o = own n i b s c k _ st is in
            ap (λ steps. slice_get steps k) o.made
            ∙ collapse_at b i.arguments (λ (target : Target). Reset l (qubit_of target)) is_inverted ts k t c s.flips (subst (λ j. slice_get ts j ≡ Some t) o.place.0 at) o.flips o.records o.faults
            ∙ ap (λ fault. Some (listing.Collapse (measured n true l (qubit_of t)) (Some (record { number = c.records; inverted = is_inverted t; flip = fault })))) (sym number);
        names = flip_next flip next;
        letters = λ n k i b st. tt;
        place = λ k i steps is_at.
            let fit = fit_own i s _ steps is in
            let place = own_place i s _ s.at k steps is is_at in
            place_of_own i s _ (s.at + 1) (k + 1) steps is (omega (arith, place.0), omega (arith, place.0, f.there, fit.end));
        within = omega (arith, f.there);
        counts = counts_are (MeasurementReset l) _ is refl;
      }

  pub taken_reset : (l : Letter) → s.operation ≡ QubitReset l → (t : Target) → slice_get s.targets.now s.at ≡ Some t
      → IsTaken s c (record { step = Collapse l (qubit_of t) None true false None; at = s.at + 1; counts = record c { collapses = c.collapses + 1 } })
  taken_reset l is t at =
      record {
        step = λ n k i b st.
            let o = own n i b s c k _ st is in
            ap (λ steps. slice_get steps k) o.made
            ∙ of_each (λ (target : Target). listing.Collapse (Reset l (qubit_of target)) None) ts k t (subst (λ j. slice_get ts j ≡ Some t) o.place.0 at);
        names = tt;
        letters = λ n k i b st. tt;
        place = λ k i steps is_at.
            let fit = fit_own i s _ steps is in
            let place = own_place i s _ s.at k steps is is_at in
            place_of_own i s _ (s.at + 1) (k + 1) steps is (omega (arith, place.0), omega (arith, place.0, f.there, fit.end));
        within = omega (arith, f.there);
        counts = counts_are (QubitReset l) _ is (resets_count l s.flips c);
      }

  pub products_at : s.operation ≡ ProductMeasurement → are_products s.targets.now ≡ true
  products_at is = products_of_form ts (fit_own f.instruction s _ f.stands.steps is).form

  inside_of : s.operation ≡ ProductMeasurement → (k : ℕ) (i : Instruction) (b : Before) → Stands i b s c k → k < length (products_of ts)
  inside_of is k i b st =
      let o = own 0 i b s c k _ st is in
      omega (arith, words_number ts, place_within ts k (omega (arith, o.place.0, f.there, o.end)))

  pub taken_product : s.operation ≡ ProductMeasurement → (at : ℕ) → at ≤ length s.targets.now → ((k : ℕ) → s.at ≡ words_length (take k (product_words s.targets.now)) → at ≡ words_length (take (k + 1) (product_words s.targets.now)))
      → (letters : Letters) → letters.letter ≡ None → letters.targets.now ≡ slice_range s.targets.now s.at at
      → (inverted : Bool) → inverted ≡ is_product_inverted (slice_range s.targets.now s.at at)
      → (flip : Option FaultName) → option_map number_of flip ≡ (if s.flips then Some c.faults else None) → IfSome flip (IsNext s c)
      → (count : ℕ) → at ≡ s.at + count
      → IsTaken s c (record { step = CollapseWord letters (Some c.records) inverted flip; at = s.at + count; counts = counts_behind ProductMeasurement s.flips c })
  taken_product is at within next letters own_letter targets inverted is_so flip number faults count counted =
      let named : letters_in letters ≡ letters_named None (slice_range ts s.at at) = ap₂ letters_named own_letter targets in
      subst (λ place. IsTaken s c (record { step = CollapseWord letters (Some c.records) inverted flip; at = place; counts = counts_behind ProductMeasurement s.flips c })) counted
      (record {
        step = λ n k i b st.
            let o = own n i b s c k _ st is in
            let inside = inside_of is k i b st in
            let word = slice_is ts k s.at at o.place.0 (next k o.place.0) in
            let product = get_or (products_of ts) k [] in
            ap (λ steps. slice_get steps k) o.made
            ∙ collapse_at b i.arguments (λ (p : List Target). Word (word_of_terms n (map term_of p))) is_product_inverted (products_of ts) k product c s.flips (slice_get-get_or (products_of ts) k [] inside) o.flips o.records o.faults
            ∙ ap₂ (λ (terms : List Term) (so : Bool). Some (listing.Collapse (Word (word_of_terms n terms)) (recorded_at c s.flips so))) (sym (named ∙ word.letters)) (sym (is_so ∙ word.inverted))
            ∙ ap (λ fault. Some (listing.Collapse (Word (word_of_terms n (letters_in letters))) (Some (record { number = c.records; inverted = inverted; flip = fault })))) (sym number);
        names = flip_next flip faults;
        letters = λ n k i b st.
            let o = own n i b s c k _ st is in
            let of = is_of i s _ st.steps is in
            let word = slice_is ts k s.at at o.place.0 (next k o.place.0) in
            record {
              operation = of.operation_is;
              small = subst (All HasSmallQubit) (sym targets) (small_part ts s.at at (small_of i _ ts of));
              there = subst (λ (targets : List Target). k < length (products_of targets)) (sym of.targets_are) (inside_of is k i b st);
              terms = named ∙ word.letters ∙ ap (λ (targets : List Target). map term_of (get_or (products_of targets) k [])) (sym of.targets_are);
            };
        place = λ k i steps is_at.
            let place = own_place i s _ s.at k steps is is_at in
            let fit = fit_own i s _ steps is in
            place_of_own i s _ at (k + 1) steps is (next k place.0, omega (arith, place_within ts k (omega (arith, place.0, f.there, fit.end))));
        within = omega (arith, within, (fit_own f.instruction s _ f.stands.steps is).end);
        counts = counts_are ProductMeasurement _ is refl;
      })

  -- ---- errors

  pub below_targets : (l : Letter) → s.operation ≡ PauliError l → s.at < length s.targets.now
  below_targets l is = omega (arith, f.there, (fit_own f.instruction s _ f.stands.steps is).end)

  pub taken_letter : (l : Letter) → s.operation ≡ PauliError l → (t : Target) → slice_get s.targets.now s.at ≡ Some t
      → (letters : Letters) → letters.letter ≡ Some l → letters.targets.now ≡ slice_range s.targets.now s.at (s.at + 1)
      → IsTaken s c (record { step = Fault (record { number = c.faults; chance = s.chance }) letters; at = s.at + 1; counts = record c { faults = c.faults + 1 } })
  taken_letter l is t at letters own_letter targets =
      let named : letters_in letters ≡ letters_named (Some l) (slice_range ts s.at (s.at + 1)) = ap₂ letters_named own_letter targets in
      record {
        step = λ n k i b st.
            let o = own n i b s c k _ st is in
            let number : b.faults + k ≡ c.faults = omega (arith, o.faults) in
            ap (λ steps. slice_get steps k) o.made
            ∙ numbered_at b.faults (λ m target. listing.Fault m) ts k t (subst (λ j. slice_get ts j ≡ Some t) o.place.0 at)
            ∙ ap (λ m. Some (listing.Fault m)) number;
        names = record { number = refl; chance = refl };
        letters = λ n k i b st.
            let o = own n i b s c k _ st is in
            let of = is_of i s _ st.steps is in
            record {
              small = subst (All HasSmallQubit) (sym targets) (small_part ts s.at (s.at + 1) (small_of i _ ts of));
              fault = subst (λ j. slice_get (new_faults n b i) j ≡ Some (fault_with i.arguments (listing.Applies (letters_in letters)))) o.place.0
                  (letter_fault_is n b i l ts s.at t of at ∙ ap (λ (terms : List Term). Some (fault_with i.arguments (listing.Applies terms))) (sym named));
            };
        place = λ k i steps is_at.
            let fit = fit_own i s _ steps is in
            let place = own_place i s _ s.at k steps is is_at in
            place_of_own i s _ (s.at + 1) (k + 1) steps is (omega (arith, place.0), omega (arith, place.0, f.there, fit.end));
        within = omega (arith, f.there);
        counts = counts_are (PauliError l) _ is (same_counts _ _ (omega arith) (omega arith) refl);
      }

  pub taken_product_error : s.operation ≡ CorrelatedError → (letters : Letters) → letters.letter ≡ None → letters.targets.now ≡ s.targets.now
      → IsTaken s c (record { step = Fault (record { number = c.faults; chance = s.chance }) letters; at = s.at + 1; counts = record c { faults = c.faults + 1 } })
  taken_product_error is letters own_letter targets =
      let named : letters_in letters ≡ letters_named None ts = ap₂ letters_named own_letter targets in
      record {
        step = λ n k i b st.
            let o = own n i b s c k _ st is in
            let first : k ≡ 0 = omega (arith, o.place.0, f.there, o.end) in
            let number : b.faults ≡ c.faults = omega (arith, o.faults, first) in
            ap₂ (λ steps j. slice_get steps j) o.made first
            ∙ ap (λ m. Some (listing.Fault m)) number;
        names = record { number = refl; chance = refl };
        letters = λ n k i b st.
            let o = own n i b s c k _ st is in
            let of = is_of i s _ st.steps is in
            let first : 0 ≡ k = omega (arith, o.place.0, f.there, o.end) in
            record {
              small = subst (All HasSmallQubit) (sym targets) (small_of i _ ts of);
              fault = subst (λ j. slice_get (new_faults n b i) j ≡ Some (fault_with i.arguments (listing.Applies (letters_in letters)))) first
                  (product_fault_is n b i ts of ∙ ap (λ (terms : List Term). Some (fault_with i.arguments (listing.Applies terms))) (sym named));
            };
        place = λ k i steps is_at.
            let fit = fit_own i s _ steps is in
            let place = own_place i s _ s.at k steps is is_at in
            place_of_own i s _ (s.at + 1) (k + 1) steps is (omega (arith, place.0), omega (arith, place.0, f.there, fit.end));
        within = omega (arith, f.there);
        counts = counts_are CorrelatedError _ is (same_counts _ _ (omega arith) (omega arith) refl);
      }
