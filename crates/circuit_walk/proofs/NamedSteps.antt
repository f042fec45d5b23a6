-- What a step names exists: a step that the program lists, of the instruction that a course is inside, that names the next fault
-- and lends the letters of its place.
use Rattle.std.proofs.Common.{◌≡◌, ◌<◌, ◌+◌, ◌*◌, ℕ, Bool, true, false, List, [], ◌∷◌, length, get_or, Option, None, Some, refl, sym, ap, ◌∙◌, subst, arith}
use Rattle.std.specs.Prelude.{slice_get}
use Rattle.std.specs.List.{list_any}
use Rattle.std.proofs.lemmas.Bool.{and_parts}
use Rattle.std.proofs.lemmas.Option.{get_or_from_slice_get, slice_get_within}
use Rattle.cursor.specs.Places.{before_of}
use Rattle.step_model.specs.Listing.{Listing, ListedFault, ListedStep, Effect, Applies, Measured, Recorded, Word, effect_at, fault_at, no_effect, word_of_terms}
use Rattle.step_model.specs.Listing as listing
use Rattle.step_model.specs.Chances.{chance_at}
use Rattle.step_model.specs.WellFormed.{EffectFits, IsWellFormed, ProductFits, TermsFit, measured_fits, record_fits, step_faults, step_fits, word_fits}
use Rattle.stim_parser.specs.declared.operation.Operation.TheVariants.{ProductMeasurement}
use Rattle.stim_parser.specs.declared.table.Keyword.TheVariants.{Does}
use Rattle.stim_parser.specs.Instructions.{target_form}
use Rattle.stim_parser.specs.Limits.{are_of_form, has_same_qubit, names_twice, products_of}
use Rattle.stim_parser.specs.Verdicts.{Instruction}
use Rattle.circuit_walk.specs.declared.course.Course.{Course}
use Rattle.circuit_walk.specs.declared.instruction_steps.InstructionSteps.{InstructionSteps}
use Rattle.circuit_walk.specs.declared.letters.Letters.{Letters}
use Rattle.circuit_walk.specs.declared.step.Counts.{Counts}
use Rattle.circuit_walk.specs.declared.step.FaultName.{FaultName}
use Rattle.circuit_walk.specs.declared.step.Step.{Step}
use Rattle.circuit_walk.specs.declared.step.Step.TheVariants.{One, Two, Collapse, CollapseWord, Fault, Feedback}
use Rattle.circuit_walk.specs.Before.{Before}
use Rattle.circuit_walk.specs.Letters.{letters_in}
use Rattle.circuit_walk.specs.Meaning.{new_faults, new_steps}
use Rattle.circuit_walk.specs.Named.{IsNamed, IsNamedFlip, IsRecord, IsStepOf}
use Rattle.circuit_walk.specs.Programs.{KeptProgram}
use Rattle.circuit_walk.specs.Steps.{listed, measured, recorded}
use Rattle.circuit_walk.specs.private.Courses.{IsCourse}
use Rattle.circuit_walk.specs.private.InstructionSteps.{AreCounts, has_argument}
use Rattle.circuit_walk.specs.Makes.{makes_faults, one_if}
use Rattle.circuit_walk.specs.private.Names.{IsNext, IsNextFlip, Lends, LendsFault, LendsProduct, NamesNext}
use Rattle.circuit_walk.specs.private.Walks.{is_step_maker, state_at, steps_of}
use Rattle.circuit_walk.proofs.CircuitInstructions.{FitsOn}
use Rattle.circuit_walk.proofs.CountLemmas.{MakesAs, each_at, each_new, new_faults-counted}
use Rattle.circuit_walk.proofs.FitParts.{feedback_below, flip_named, lone_named, measured_named, one_named, record_below, two_named}
use Rattle.circuit_walk.proofs.NamedFaults.{IsHere, here_of, text_made}
use Rattle.circuit_walk.proofs.NumberLemmas.{number_named}
use Rattle.circuit_walk.proofs.ProductsApart.{IsProduct, all_apart}
use Rattle.circuit_walk.proofs.StandLemmas.{products_of_form}
use Rattle.circuit_walk.proofs.TakeLemmas.{InsideOf, step_at}
use Rattle.circuit_walk.proofs.TargetQubits.{factors_fit}

-- ---- faults

-- what a step with this number names, where it is one that makes a fault
record HasFault (i : Instruction) (n : ℕ) (b : Before) (k : ℕ) : Type 0 where
  pub makes : makes_faults i.operation (has_argument i) ≡ true
  pub there : k < length (new_faults n b i)

has_fault : (n : ℕ) (b : Before) (i : Instruction) (k f : ℕ) (s : ListedStep) → slice_get (new_steps n b i) k ≡ Some s → step_faults s ≡ f ∷ [] → HasFault i n b k
has_fault n b i k f s made faults = by_choice (makes_faults i.operation (has_argument i)) refl
  where
    by_choice : (makes : Bool) → makes_faults i.operation (has_argument i) ≡ makes → HasFault i n b k
    by_choice true e =
        record {
          makes = e;
          there = omega (arith, new_faults-counted n b i, ap (λ m. length (new_steps n b i) * one_if m) e, slice_get_within (new_steps n b i) k s made);
        }
    by_choice false e =
        let none = each_at (MakesAs i.operation (has_argument i)) (new_steps n b i) k s (each_new n b i) made in
        absurd (omega (arith, none.faults_are, ap one_if e, ap (λ (fs : List ℕ). length fs) faults))

-- a step of a well-formed program fits it
fit_at : (program : Listing) → IsWellFormed program → (place : ℕ) (s : ListedStep) → slice_get program.steps place ≡ Some s → step_fits program s ≡ true
fit_at program fine place s got =
    let found = get_or_from_slice_get program.steps place s s got in
    ap (step_fits program) (sym found) ∙ fine.steps_fit place s (slice_get_within program.steps place s got)

-- a product of an instruction that measures some
one_product : (n : ℕ) (i : Instruction) → FitsOn n i → i.operation ≡ ProductMeasurement → (k : ℕ) → k < length (products_of i.targets) → IsProduct n (get_or (products_of i.targets) k [])
unfolding has_same_qubit
one_product n i fits is k lt =
    let ts = i.targets in
    let form = products_of_form ts (sym (ap (λ o. are_of_form (target_form (Does o)) ts) is) ∙ fits.fits.targets) in
    let different : list_any names_twice (products_of ts) ≡ false = sym (ap (λ o. has_same_qubit (target_form (Does o)) ts) is) ∙ fits.fits.different in
    all_apart n ts form different fits.fits.targets_written fits.within k [] lt

module _ (program : KeptProgram) (b : Before) (i : Instruction) (s : InstructionSteps) (c : Counts) (k : ℕ) where
  -- the number of the fault of the step
  next_number : AreCounts b i.operation s.flips k c → s.flips ≡ has_argument i → HasFault i program.listing.qubits b k → c.faults ≡ b.faults + k
  next_number counts flips has =
      omega (arith, counts.faults, ap (λ f. k * one_if (makes_faults i.operation f)) flips, ap (λ m. k * one_if m) has.makes)

  named : IsHere program b i s.chance → HasFault i program.listing.qubits b k → c.faults ≡ b.faults + k → (name : FaultName) → IsNext s c name → IsNamed program name
  named here has faults name next =
      let n = program.listing.qubits in
      let number : name.number ≡ b.faults + k = next.number ∙ faults in
      let made = text_made n b i k has.there in
      let fault : fault_at program.listing name.number ≡ get_or (new_faults n b i) k no_effect = ap (fault_at program.listing) number ∙ here.fault_is k has.there in
      let chance = number_named program.chances i s.chance here.fits_on.fits has.makes here.few here.marked in
      let same = next.chance in
      record {
        number = omega (arith, number, here.there k has.there);
        chance = omega (arith, same, chance.there);
        text = ap (λ (f : ListedFault). f.text) fault ∙ made.text ∙ sym (ap (λ m. (chance_at program.chances m).text) same ∙ chance.text);
        bound = ap (λ (f : ListedFault). f.bound) fault ∙ made.bound ∙ sym (ap (λ m. (chance_at program.chances m).bound) same ∙ chance.bound);
      }

  -- what becomes of an outcome
  collapse_named : IsHere program b i s.chance → AreCounts b i.operation s.flips k c → s.flips ≡ has_argument i → (place : ℕ) (what : Measured) (rec : Option ℕ) (inverted : Bool) (flip : Option FaultName) → slice_get (new_steps program.listing.qubits b i) k ≡ Some (listing.Collapse what (recorded rec inverted flip)) → slice_get program.listing.steps place ≡ Some (listing.Collapse what (recorded rec inverted flip)) → record_fits program.listing (recorded rec inverted flip) ≡ true → IsNextFlip s c rec flip → IsRecord program rec × IsNamedFlip program rec flip
  collapse_named here counts flips place what None inverted None made got fits next = (tt, tt)
  collapse_named here counts flips place what None inverted (Some name) made got fits next = absurd next
  collapse_named here counts flips place what (Some r) inverted None made got fits next =
      (record_below program.listing here.fine place what _ got, tt)
  collapse_named here counts flips place what (Some r) inverted (Some name) made got fits next =
      let has = has_fault program.listing.qubits b i k name.number _ made refl in (
        record_below program.listing here.fine place what _ got,
        record {
          named = named here has (next_number counts flips has) name next;
          flips = flip_named program.listing r name.number fits;
        },
      )

  product_named : IsHere program b i s.chance → (letters : Letters) → LendsProduct i k letters → word_fits program.listing.qubits (word_of_terms program.listing.qubits (letters_in letters)) ≡ true → ProductFits program.listing.qubits (letters_in letters)
  product_named here letters lends word =
      let n = program.listing.qubits in
      let product = one_product n i here.fits_on lends.operation k lends.there in
      record {
        terms_fit = subst (TermsFit n) (sym lends.terms) (factors_fit n _ product.factors product.within);
        word = word;
      }

  error_named : IsHere program b i s.chance → AreCounts b i.operation s.flips k c → s.flips ≡ has_argument i → (name : FaultName) (letters : Letters) → slice_get (new_steps program.listing.qubits b i) k ≡ Some (listing.Fault name.number) → IsNext s c name → LendsFault program.listing.qubits b i k letters → IsStepOf program (Fault name letters)
  error_named here counts flips name letters made next lends =
      let n = program.listing.qubits in
      let has = has_fault n b i k name.number _ made refl in
      let faults = next_number counts flips has in
      let is = named here has faults name next in
      let effect : effect_at program.listing name.number ≡ Applies (letters_in letters) =
      ap (effect_at program.listing) (next.number ∙ faults)
      ∙ ap (λ (f : ListedFault). f.effect) (here.fault_is k has.there ∙ get_or_from_slice_get (new_faults n b i) k _ no_effect lends.fault) in
      (is, effect, lends.small, subst (EffectFits n) effect (here.fine.faults_fit name.number no_effect is.number).effect)

  pub step_named : IsHere program b i s.chance → AreCounts b i.operation s.flips k c → s.flips ≡ has_argument i → (place : ℕ) (step : Step) → slice_get (new_steps program.listing.qubits b i) k ≡ Some (listed program.listing.qubits step) → slice_get program.listing.steps place ≡ Some (listed program.listing.qubits step) → NamesNext s c step → Lends program.listing.qubits b i k step → IsStepOf program step
  step_named here counts flips place (One gate q) made got names lends =
      one_named program.listing gate q (fit_at program.listing here.fine place _ got)
  step_named here counts flips place (Two gate p q) made got names lends =
      two_named program.listing gate p q (fit_at program.listing here.fine place _ got)
  step_named here counts flips place (Collapse letter q rec reset inverted flip) made got names lends =
      let n = program.listing.qubits in
      let fits = and_parts (measured_fits n (measured n reset letter q)) _ (fit_at program.listing here.fine place _ got) in
      let what = measured_named n reset letter q fits.0 in
      let outcome = collapse_named here counts flips place _ rec inverted flip made got fits.1 names in
      (what.0, what.1, outcome.0, outcome.1)
  step_named here counts flips place (CollapseWord letters rec inverted flip) made got names lends =
      let n = program.listing.qubits in
      let fits = and_parts (word_fits n (word_of_terms n (letters_in letters))) _ (fit_at program.listing here.fine place _ got) in
      let outcome = collapse_named here counts flips place _ rec inverted flip made got fits.1 names in
      (lends.small, product_named here letters lends fits.0, outcome.0, outcome.1)
  step_named here counts flips place (Fault name letters) made got names lends = error_named here counts flips name letters made names lends
  step_named here counts flips place (Feedback letter q r) made got names lends =
      let what = lone_named program.listing.qubits q letter (fit_at program.listing here.fine place _ got) in
      (what.0, what.1, feedback_below program.listing here.fine place _ r got)

-- ---- a course

-- so it is of the step that stands behind the place of a course
pub faced_named : {A : Type 0} (program : KeptProgram) (c : Course A) → IsCourse program c → (h : InsideOf program c) → (step : Step) → slice_get (new_steps program.listing.qubits (state_at program.listing.qubits c.text.items.now.items c.cursor) h.instruction) h.k ≡ Some (listed program.listing.qubits step) → NamesNext c.here c.counts step → Lends program.listing.qubits (state_at program.listing.qubits c.text.items.now.items c.cursor) h.instruction h.k step → IsStepOf program step
faced_named program c course h step made names lends =
    let n = program.listing.qubits in
    let items = c.text.items.now.items in
    step_named program (state_at n items c.cursor) h.instruction c.here c.counts h.k (here_of program c course h) h.stands.counts h.stands.steps.flips
    (length (steps_of n (before_of is_step_maker items c.cursor)) + h.k) step made (step_at program c course h h.k (listed n step) made) names lends
