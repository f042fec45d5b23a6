-- The faults of one instruction among those of its program: each has the text of the instruction's probability, and stands
-- behind the faults that came before.
use Rattle.std.proofs.Common.{◌≡◌, ◌≤◌, ◌<◌, ◌+◌, ◌^◌, ℕ, Bool, true, false, List, [], ◌∷◌, ◌++◌, length, length-append, get_or, refl, sym, ap, ap₂, ◌∙◌, subst, arith}
use Rattle.std.specs.Prelude.{All, if◌then◌else◌, unwrap_or}
use Rattle.std.specs.List.{filter}
use Rattle.std.proofs.lemmas.List.{get_or-append-add, get_or_append_left}
use Rattle.std.proofs.lemmas.List.Elements.{All-cons, All-map, All-nil}
use Rattle.cursor.specs.Places.{before_of}
use Rattle.cursor.proofs.ChosenLemmas.{chosen_filtered}
use Rattle.step_model.specs.Listing.{Applies, Effect, Flips, ListedFault, fault_at, no_effect}
use Rattle.step_model.specs.declared.chances.ChanceText.{ChanceText}
use Rattle.step_model.specs.Probabilities.{probability_bound}
use Rattle.step_model.specs.WellFormed.{IsWellFormed}
use Rattle.stim_lexer.specs.Flat.{tree_of}
use Rattle.stim_lexer.specs.Reached.{reached}
use Rattle.stim_parser.specs.declared.operation.Operation.{Operation}
use Rattle.stim_parser.specs.declared.operation.Operation.TheVariants.{PauliError, CorrelatedError}
use Rattle.stim_parser.specs.declared.target.Target.{Target}
use Rattle.stim_parser.specs.Probabilities.{Marks, chance_taken}
use Rattle.stim_parser.specs.Verdicts.{Instruction, circuit_table}
use Rattle.circuit_walk.specs.declared.course.Course.{Course}
use Rattle.circuit_walk.specs.Before.{Before}
use Rattle.circuit_walk.specs.FaultsMade.{fault_with, faults_made, flips_made}
use Rattle.circuit_walk.specs.Meaning.{after, at_start, made_of, new_faults, new_records}
use Rattle.circuit_walk.specs.Programs.{KeptProgram}
use Rattle.circuit_walk.specs.Targets.{term_at}
use Rattle.circuit_walk.specs.Totals.{first_argument, qubit_total}
use Rattle.circuit_walk.specs.private.Courses.{IsCourse}
use Rattle.circuit_walk.specs.private.Walks.{is_step_maker, state_after, state_at}
use Rattle.circuit_walk.proofs.CircuitInstructions.{EachFits, FitsOn, circuit_fits}
use Rattle.circuit_walk.proofs.CourseLemmas.{makers_of}
use Rattle.circuit_walk.proofs.MeaningLemmas.{made_of-append}
use Rattle.circuit_walk.proofs.NumberLemmas.{few_texts}
use Rattle.circuit_walk.proofs.StartLemmas.{all_faults, state_faults}
use Rattle.circuit_walk.proofs.TakeLemmas.{InsideOf}
use Rattle.circuit_walk.proofs.WellFormedPrograms.{well_formed}

-- ---- the text of each fault

-- a fault has the probability of these arguments
pub record HasText (arguments : List (List ℕ)) (f : ListedFault) : Type 0 where
  pub text : f.text ≡ first_argument arguments
  pub bound : f.bound ≡ unwrap_or (probability_bound (first_argument arguments)) 0

has_text : (arguments : List (List ℕ)) (effect : Effect) → HasText arguments (fault_with arguments effect)
has_text arguments effect = record { text = refl; bound = refl }

flips_texts : (arguments : List (List ℕ)) (records : List ℕ) → All (HasText arguments) (flips_made arguments records)
flips_texts [] records = All-nil (HasText [])
flips_texts (p ∷ arguments) records =
    All-map (HasText (p ∷ arguments)) (λ r. fault_with (p ∷ arguments) (Flips r)) records (λ k d lt. has_text (p ∷ arguments) (Flips _))

texts_made : (records : List ℕ) (o : Operation) (arguments : List (List ℕ)) (ts : List Target) → All (HasText arguments) (faults_made records o arguments ts)
texts_made records (PauliError l) arguments ts =
    All-map (HasText arguments) (λ target. fault_with arguments (Applies (term_at l target ∷ []))) ts (λ k d lt. has_text arguments (Applies _))
texts_made records CorrelatedError arguments ts =
    All-cons (HasText arguments) _ [] (has_text arguments (Applies _)) (All-nil (HasText arguments))
texts_made records o arguments ts = flips_texts arguments records

pub text_made : (n : ℕ) (b : Before) (i : Instruction) (k : ℕ) → k < length (new_faults n b i) → HasText i.arguments (get_or (new_faults n b i) k no_effect)
text_made n b i k lt = texts_made (new_records n b i) i.operation i.arguments i.targets k no_effect lt

-- ---- instructions fit

fits_chosen : (n : ℕ) (is : List Instruction) → EachFits n is → EachFits n (filter is_step_maker is)
fits_chosen n [] h = tt
fits_chosen n (i ∷ is) h = by_choice (is_step_maker i) (fits_chosen n is h.1)
  where
    by_choice : (chosen : Bool) → EachFits n (filter is_step_maker is) → EachFits n (if chosen then i ∷ filter is_step_maker is else filter is_step_maker is)
    by_choice true later = (h.0, later)
    by_choice false later = later

one_fits_on : (n : ℕ) (before : List Instruction) (i : Instruction) (rest : List Instruction) → EachFits n (before ++ i ∷ rest) → FitsOn n i
one_fits_on n [] i rest h = h.0
one_fits_on n (x ∷ before) i rest h = one_fits_on n before i rest h.1

-- ---- the faults of an instruction

-- those of a program behind the first instructions
faults_around : (n : ℕ) (before : List Instruction) (i : Instruction) (rest : List Instruction) → (more : List ListedFault) × (made_of n (new_faults n) at_start (before ++ i ∷ rest) ≡ made_of n (new_faults n) at_start before ++ (new_faults n (state_after n at_start before) i ++ more))
unfolding made_of
faults_around n before i rest =
    (made_of n (new_faults n) (after n (state_after n at_start before) i) rest, made_of-append n (new_faults n) at_start before (i ∷ rest))

-- what is known of the instruction that a course is inside: it fits, its faults are the program's, and its mark is the number
-- of its probability
pub record IsHere (program : KeptProgram) (b : Before) (i : Instruction) (mark : ℕ) : Type 0 where
  pub fits_on : FitsOn program.listing.qubits i
  pub there : (k : ℕ) → k < length (new_faults program.listing.qubits b i) → b.faults + k < length program.listing.faults
  pub fault_is : (k : ℕ) → k < length (new_faults program.listing.qubits b i) → fault_at program.listing (b.faults + k) ≡ get_or (new_faults program.listing.qubits b i) k no_effect
  pub marked : Marks program.chances (chance_taken circuit_table i.operation i.arguments) mark
  pub few : length program.chances ≤ 2 ^ 32
  pub fine : IsWellFormed program.listing

faults_in : (all before here more : List ListedFault) (f : ℕ) → all ≡ before ++ (here ++ more) → f ≡ length before → (k : ℕ) → k < length here → (f + k < length all) × (get_or all (f + k) no_effect ≡ get_or here k no_effect)
faults_in all before here more f e at k lt =
    let count : length all ≡ length before + (length here + length more) = ap (λ (xs : List ListedFault). length xs) e ∙ (length-append before (here ++ more) ∙ omega (arith, length-append here more)) in (
      omega (arith, count, at, lt),
      ap₂ (λ (xs : List ListedFault) (m : ℕ). get_or xs (m + k) no_effect) e at
          ∙ get_or-append-add before (here ++ more) k no_effect
          ∙ get_or_append_left here more no_effect k lt,
    )

pub here_of : {A : Type 0} (program : KeptProgram) (c : Course A) → IsCourse program c → (h : InsideOf program c) → IsHere program (state_at program.listing.qubits c.text.items.now.items c.cursor) h.instruction c.here.chance
here_of program c course h =
    let items = c.text.items.now.items in
    let n = program.listing.qubits in
    let tree = tree_of items in
    let held = course.held in
    let i = h.instruction in
    let before = before_of is_step_maker items c.cursor in
    let b = state_after n at_start before in
    let whole : before ++ i ∷ h.rest ≡ makers_of tree = ap (λ is. before ++ is) (sym h.left) ∙ course.stands.whole in
    let qubits : qubit_total tree ≡ n = sym (ap (λ l. l.qubits) held.listing) in
    let around = faults_around n before i h.rest in
    let all : program.listing.faults ≡ made_of n (new_faults n) at_start before ++ (new_faults n b i ++ around.0) =
    ap (λ l. l.faults) held.listing ∙ all_faults tree
    ∙ ap (λ m. made_of m (new_faults m) at_start (makers_of tree)) qubits
    ∙ ap (made_of n (new_faults n) at_start) (sym whole)
    ∙ around.1 in
    let at : b.faults ≡ length (made_of n (new_faults n) at_start before) = state_faults n at_start before ∙ omega arith in
    let faults = faults_in program.listing.faults (made_of n (new_faults n) at_start before) (new_faults n b i) around.0 b.faults all at in
    record {
      fits_on =
          one_fits_on n before i h.rest
          (subst (EachFits n) (sym (whole ∙ chosen_filtered is_step_maker tree))
          (fits_chosen n (reached tree) (subst (λ m. EachFits m (reached tree)) qubits (circuit_fits tree held.written.fits))));
      there = λ k lt. (faults k lt).0;
      fault_is = λ k lt. (faults k lt).1;
      marked = h.marked;
      few = subst (λ (texts : List ChanceText). length texts ≤ 2 ^ 32) (sym held.chances_are) (few_texts c.text.chances.now c.text.items.now held.written held.kept held.accepted);
      fine = subst IsWellFormed (sym held.listing) (well_formed tree held.written.fits held.accepted);
    }
