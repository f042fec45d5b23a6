-- A course before the first step, and behind the last.
use Rattle.std.proofs.Common.{◌≡◌, ◌+◌, ℕ, true, false, List, [], ◌∷◌, length, length-append, sym, ap, ◌∙◌, arith}
use Rattle.std.specs.Prelude.{take}
use Rattle.std.specs.List.{flat_map}
use Rattle.std.proofs.lemmas.List.{take_all}
use Rattle.std.proofs.lemmas.List.Concat.{flat_map-append}
use Rattle.std.proofs.lemmas.List.FromFn.{length-range_with_len}
use Rattle.cursor.specs.Places.{StandsIn, before_of}
use Rattle.cursor.proofs.ChosenLemmas.{chosen_filtered}
use Rattle.stim_lexer.specs.Reached.{reached}
use Rattle.stim_parser.specs.Trees.{Tree}
use Rattle.stim_parser.specs.Verdicts.{Instruction}
use Rattle.circuit_walk.specs.Before.{Before}
use Rattle.stim_lexer.specs.Flat.{tree_of}
use Rattle.step_model.specs.Listing.{step_records}
use Rattle.step_model.specs.WellFormed.{collapse_count, faults_named, records_made}
use Rattle.circuit_walk.specs.declared.course.Course.{Course}
use Rattle.circuit_walk.specs.Meaning.{after, at_start, listing_of, made_of, new_faults, new_steps}
use Rattle.circuit_walk.specs.Programs.{KeptProgram}
use Rattle.circuit_walk.specs.Totals.{qubit_total}
use Rattle.circuit_walk.specs.private.Courses.{IsCourse}
use Rattle.circuit_walk.specs.private.Held.{Holds}
use Rattle.circuit_walk.specs.private.Walks.{is_step_maker, state_after, steps_of}
use Rattle.circuit_walk.proofs.CourseLemmas.{all_steps, makers_of}
use Rattle.circuit_walk.proofs.MeaningLemmas.{alike, faults-leave_out, left_out}
use Rattle.circuit_walk.proofs.WellFormedPrograms.{well_formed}

pub starts : {A : Type 0} (program : KeptProgram) (c : Course A) → Holds program c.text → StandsIn is_step_maker c.text.items.now.items c.cursor → before_of is_step_maker c.text.items.now.items c.cursor ≡ [] → c.here.at ≡ 0 → c.here.end ≡ 0 → c.inside ≡ false → c.counts ≡ record { records = 0; collapses = 0; faults = 0 } → c.steps ≡ 0 → IsCourse program c
unfolding made_of
starts program c held stands before at end inside counts steps =
    let n = program.listing.qubits in
    record {
      held = held;
      stands = stands;
      inside = λ e. absurd (both (sym e ∙ inside));
      between = λ _. record {
        at = at;
        end = end;
        records = ap (λ d. d.records) counts ∙ ap (λ is. (state_after n at_start is).records) (sym before);
        faults = ap (λ d. d.faults) counts ∙ ap (λ is. (state_after n at_start is).faults) (sym before);
        place_is = steps ∙ ap (λ is. length (steps_of n is)) (sym before);
      };
      counted = record {
        records = ap (λ d. d.records) counts ∙ ap (λ p. length (records_made (take p program.listing.steps))) (sym steps);
        collapses = ap (λ d. d.collapses) counts ∙ ap (λ p. collapse_count (take p program.listing.steps)) (sym steps);
        faults = ap (λ d. d.faults) counts ∙ ap (λ p. length (faults_named (take p program.listing.steps))) (sym steps);
      };
    }
  where
    both : true ≡ false → ⊥
    both e = cc

-- ---- behind the last

-- what came before, in what is made
pub state_records : (n : ℕ) (b : Before) (is : List Instruction) → (state_after n b is).records ≡ b.records + length (flat_map step_records (made_of n (new_steps n) b is))
unfolding made_of
state_records n b [] = omega arith
state_records n b (i ∷ is) =
    omega (
      arith,
      state_records n (after n b i) is,
      ap length (flat_map-append step_records (new_steps n b i) (made_of n (new_steps n) (after n b i) is)),
      length-append (flat_map step_records (new_steps n b i)) (flat_map step_records (made_of n (new_steps n) (after n b i) is)),
    )

pub state_faults : (n : ℕ) (b : Before) (is : List Instruction) → (state_after n b is).faults ≡ b.faults + length (made_of n (new_faults n) b is)
unfolding made_of
state_faults n b [] = omega arith
state_faults n b (i ∷ is) =
    omega (arith, state_faults n (after n b i) is, length-append (new_faults n b i) (made_of n (new_faults n) (after n b i) is))

pub all_faults : (tree : Tree) → (listing_of tree).faults ≡ made_of (qubit_total tree) (new_faults (qubit_total tree)) at_start (makers_of tree)
all_faults tree =
    let n = qubit_total tree in
    left_out n (new_faults n) (faults-leave_out n) at_start at_start (reached tree) (alike at_start)
    ∙ ap (made_of n (new_faults n) at_start) (sym (chosen_filtered is_step_maker tree))

pub ends_course : {A : Type 0} (program : KeptProgram) (c : Course A) → Holds program c.text → StandsIn is_step_maker c.text.items.now.items c.cursor → before_of is_step_maker c.text.items.now.items c.cursor ≡ makers_of (tree_of c.text.items.now.items) → c.here.at ≡ 0 → c.here.end ≡ 0 → c.inside ≡ false → c.counts ≡ c.text.totals.counts → c.steps ≡ c.text.totals.steps → IsCourse program c
ends_course program c held stands before at end inside counts steps =
    let tree = tree_of c.text.items.now.items in
    let n = qubit_total tree in
    let fine = well_formed tree held.written.fits held.accepted in
    let totals = held.totals_are in
    let all : program.listing.steps ≡ steps_of n (makers_of tree) = ap (λ l. l.steps) held.listing ∙ all_steps tree in
    let qubits : program.listing.qubits ≡ n = ap (λ l. l.qubits) held.listing in
    let whole : c.steps ≡ length program.listing.steps = steps ∙ totals.steps ∙ ap (λ l. length l.steps) (sym held.listing) in
    let steps_are : take c.steps program.listing.steps ≡ (listing_of tree).steps = take_all c.steps program.listing.steps (omega (arith, whole)) ∙ ap (λ l. l.steps) held.listing in
    let records : c.counts.records ≡ (listing_of tree).records = ap (λ d. d.records) counts ∙ totals.records in
    let faults : c.counts.faults ≡ length (listing_of tree).faults = ap (λ d. d.faults) counts ∙ totals.faults in
    record {
      held = held;
      stands = stands;
      inside = λ e. absurd (both (sym e ∙ inside));
      between = λ _. record {
        at = at;
        end = end;
        records =
            omega (
              arith,
              records,
              ap (λ steps. length (flat_map step_records steps)) (all_steps tree),
              state_records n at_start (makers_of tree),
              ap (λ m. (state_after m at_start (makers_of tree)).records) qubits,
              ap (λ is. (state_after program.listing.qubits at_start is).records) before,
            );
        faults =
            omega (
              arith,
              faults,
              ap (λ fs. length fs) (all_faults tree),
              state_faults n at_start (makers_of tree),
              ap (λ m. (state_after m at_start (makers_of tree)).faults) qubits,
              ap (λ is. (state_after program.listing.qubits at_start is).faults) before,
            );
        place_is =
            omega
            (arith, whole, ap (λ steps. length steps) all, ap (λ m. length (steps_of m (makers_of tree))) qubits, ap (λ is. length (steps_of program.listing.qubits is)) before);
      };
      counted = record {
        records = omega (arith, records, ap (λ steps. length (records_made steps)) steps_are, ap length fine.records_in_order, length-range_with_len 0 (listing_of tree).records);
        collapses = omega (arith, ap (λ d. d.collapses) counts, totals.collapses, ap collapse_count steps_are, fine.collapses_counted);
        faults = omega (arith, faults, ap (λ steps. length (faults_named steps)) steps_are, ap length fine.faults_in_order, length-range_with_len 0 (length (listing_of tree).faults));
      };
    }
  where
    both : true ≡ false → ⊥
    both e = cc
