-- Collapses and the steps of a reference run: how they end, and what of them is kept.
use Rattle.std.proofs.Common.{◌≡◌, ℕ, zero, suc, ◌||◌, Bool, true, false, List, [], ◌∷◌, ◌++◌, length, drop, replicate, Option, Some, None, refl, sym, ap, ap₂, subst, ◌∙◌, append-nil, append_assoc}
use Rattle.std.specs.Prelude.{is_some, if◌then◌else◌}
use Rattle.std.specs.List.{list_all}
use Rattle.std.proofs.lemmas.Bool.{and_parts}
use Rattle.pauli_word.specs.declared.letter.Letter.{Letter}
use Rattle.pauli_word.specs.Parity.{exclusive_or}
use Rattle.pauli_word.specs.States.{State, outcome, collapsed, is_decided}
use Rattle.pauli_word.specs.Words.{signed, lone_letter}
use Rattle.step_model.specs.declared.step.Term.{Term}
use Rattle.step_model.specs.Frames.{zero_coins}
use Rattle.step_model.specs.Listing.{Listing, ListedStep, Collapse, measured_word, word_of_terms}
use Rattle.step_model.specs.Runs.{RunState, start, next, next_coin, after_collapse, corrected, correction, records_of, run_from}
use Rattle.step_model.specs.WellFormed.{IsWellFormed, step_fits}
use Rattle.step_model.proofs.StateIsGroup.{length-measured}
use Rattle.step_model.proofs.StepNumbers.{length-word_of_terms}
use Rattle.circuit_walk.specs.Steps.{measured}
use Rattle.forward_sim.specs.private.Kept.{StepKeeps}
use Rattle.forward_sim.specs.private.Machines.{Running, qubit_count, run_of, ended, ComesTo}
use Rattle.forward_sim.specs.References.{IsEntry, AreEntries}
use Rattle.forward_sim.specs.SameRuns.{HoldSame, IsSameRun}
use Rattle.forward_sim.specs.private.Along.{KeepsRest, MakesRest}
use Rattle.forward_sim.proofs.RunRecords.{all_fit, records_at_end, step_is_next}
use Rattle.forward_sim.proofs.SameStates.{same-corrected, same-next}

-- a collapse that has ended
ends : (old mid new : Running) (w : List Letter) (fix : Option (List Letter)) (recorded changes seen : Bool)
    → ComesTo old mid (after_collapse w None false false (run_of old))
    → seen ≡ outcome (run_of old).state w (next_coin old.coins)
    → ComesTo mid new (ended fix recorded seen changes (run_of mid))
    → ComesTo old new (after_collapse w fix recorded changes (run_of old))
ends old mid new w fix recorded changes seen first seen_is second =
    let s = (run_of old).state in
    let measured_state = collapsed w (next_coin old.coins) s in
    record {
      qubits = second.qubits ∙ first.qubits;
      room = second.room ∙ first.room;
      run = record {
        state = λ p size.
            second.run.state p (size ∙ sym first.qubits)
            ∙ same-corrected (qubit_count old) (run_of mid).state measured_state fix seen first.run.state p size
            ∙ ap (λ b. corrected fix b measured_state p) seen_is;
        coins = second.run.coins ∙ first.run.coins;
        records =
            second.run.records
            ∙ ap₂ (λ rs b. if recorded then rs ++ exclusive_or b changes ∷ [] else rs) first.run.records seen_is;
      };
    }

pub letter_ends : (old mid new : Running) (letter : Letter) (q : ℕ) (reset : Bool) (rec : Option ℕ) (changes seen : Bool)
    → ComesTo old mid (after_collapse (lone_letter (qubit_count old) q letter) None false false (run_of old))
    → seen ≡ outcome (run_of old).state (lone_letter (qubit_count old) q letter) (next_coin old.coins)
    → ComesTo mid new (ended (correction (qubit_count mid) (measured (qubit_count mid) reset letter q)) (is_some rec) seen changes (run_of mid))
    → ComesTo old new (after_collapse (lone_letter (qubit_count old) q letter) (correction (qubit_count old) (measured (qubit_count old) reset letter q)) (is_some rec) changes (run_of old))
letter_ends old mid new letter q reset rec changes seen first seen_is second =
    let n = qubit_count old in
    ends old mid new (lone_letter n q letter) (correction n (measured n reset letter q)) (is_some rec) changes seen first seen_is
    (subst (λ k. ComesTo mid new (ended (correction k (measured k reset letter q)) (is_some rec) seen changes (run_of mid))) first.qubits second)

-- runs that can't be told apart keep the same
pub same-entry : (n : ℕ) (s t : State) (w : List Letter) (entry : Option (List Term)) → HoldSame n s t → length w ≡ n → IsEntry n s w entry → IsEntry n t w entry
same-entry n s t w None same size is =
    let decided : is_decided s w ≡ is_decided t w = ap₂ (λ a b. a || b) (same (signed w false) size) (same (signed w true) size) in
    sym decided ∙ is
same-entry n s t w (Some terms) same size is =
    let decided : is_decided s w ≡ is_decided t w = ap₂ (λ a b. a || b) (same (signed w false) size) (same (signed w true) size) in
    let v = word_of_terms n terms in
    let sign = is.1.in_state.0 in (
      is.0,
      record {
        random = sym decided ∙ is.1.random;
        in_state = (sign, sym (same (signed v sign) (length-word_of_terms n terms)) ∙ is.1.in_state.1);
        anticommutes = is.1.anticommutes;
      },
    )

pub same-entries : (program : Listing) (steps : List ListedStep) (m k : RunState) (replaced : List (Option (List Term))) → list_all (step_fits program) steps ≡ true → IsSameRun program.qubits m k → AreEntries program steps m replaced → AreEntries program steps k replaced
same-entries program [] m k replaced fits same h = h
same-entries program (Collapse c r ∷ steps) m k [] fits same h = h
same-entries program (Collapse c r ∷ steps) m k (entry ∷ replaced) fits same h =
    let parts = and_parts (step_fits program (Collapse c r)) (list_all (step_fits program) steps) fits in (
      same-entry program.qubits m.state k.state (measured_word program.qubits c) entry same.state (length-measured program c r parts.0) h.0,
      same-entries program steps (next program [] (Collapse c r) m) (next program [] (Collapse c r) k) replaced parts.1 (same-next program [] (Collapse c r) m k parts.0 same) h.1,
    )
same-entries program (step ∷ steps) m k replaced fits same h =
    let parts = and_parts (step_fits program step) (list_all (step_fits program) steps) fits in
    same-entries program steps (next program [] step m) (next program [] step k) replaced parts.1 (same-next program [] step m k parts.0 same) h

-- coins that aren't there are coins that are 0
abbrev with_coins : List Bool → RunState → RunState
with_coins coins m = record m { coins = coins }

zero_records : (program : Listing) (steps : List ListedStep) (count : ℕ) (m : RunState) → (run_from program [] steps (with_coins [] m)).records ≡ (run_from program [] steps (with_coins (replicate count false) m)).records
zero_records program [] count m = refl
zero_records program (Collapse c r ∷ steps) zero m = refl
zero_records program (Collapse c r ∷ steps) (suc count) m = zero_records program steps count (next program [] (Collapse c r) (with_coins [] m))
zero_records program (step ∷ steps) count m = zero_records program steps count (next program [] step m)

zero_entries : (program : Listing) (steps : List ListedStep) (count : ℕ) (m : RunState) (replaced : List (Option (List Term))) → AreEntries program steps (with_coins [] m) replaced → AreEntries program steps (with_coins (replicate count false) m) replaced
zero_entries program [] count m replaced h = h
zero_entries program (Collapse c r ∷ steps) zero m replaced h = h
zero_entries program (Collapse c r ∷ steps) (suc count) m [] h = h
zero_entries program (Collapse c r ∷ steps) (suc count) m (entry ∷ replaced) h = (h.0, zero_entries program steps count (next program [] (Collapse c r) (with_coins [] m)) replaced h.1)
zero_entries program (step ∷ steps) count m replaced h = zero_entries program steps count (next program [] step m) replaced h

pub keeps_at_start : (program : Listing) (m : RunState) (kept : List (Option (List Term))) → IsWellFormed program → IsSameRun program.qubits m (start []) → kept ≡ [] → KeepsRest program 0 m kept
keeps_at_start program m kept well_formed same none rest h =
    subst (λ k. AreEntries program program.steps (start []) (k ++ rest)) (sym none)
    (same-entries program program.steps m (start []) rest (all_fit program well_formed) same h)

-- a step that keeps what it has to, before steps of which the rest is kept
record Behind (program : Listing) (step : ListedStep) (steps : List ListedStep) (m : RunState) (old new rest : List (Option (List Term))) : Type 0 where
  pub all : List (Option (List Term))
  pub kept : AreEntries program (step ∷ steps) m all
  pub joined : old ++ all ≡ new ++ rest

behind : (program : Listing) (step : ListedStep) (steps : List ListedStep) (m : RunState) (old new rest : List (Option (List Term))) → StepKeeps program.qubits m.state step old new → AreEntries program steps (next program [] step m) rest → Behind program step steps m old new rest
behind program (Collapse c r) steps m old new rest keeps h =
    record {
      all = keeps.0 ∷ rest;
      kept = (keeps.2, h);
      joined = sym (ap (λ o. o ++ rest) keeps.1 ∙ append_assoc old (keeps.0 ∷ []) rest);
    }
behind program step steps m old new rest keeps h = record { all = rest; kept = h; joined = ap (λ o. o ++ rest) (sym keeps) }

pub keeps_after_step : (program : Listing) (place further : ℕ) (step : ListedStep) (m after : RunState) (old new : List (Option (List Term))) → IsWellFormed program → drop place program.steps ≡ step ∷ drop further program.steps → MakesRest program [] [] place m → IsSameRun program.qubits after (next program [] step m) → StepKeeps program.qubits m.state step old new → KeepsRest program place m old → KeepsRest program further after new
keeps_after_step program place further step m after old new well_formed left makes same keeps so_far rest h =
    let steps = drop further program.steps in
    let fits = (step_is_next program [] [] place further step m well_formed left makes).rest_fit in
    let with = behind program step steps m old new rest keeps (same-entries program steps after (next program [] step m) rest fits same h) in
    subst (AreEntries program program.steps (start [])) with.joined
    (so_far with.all (subst (λ l. AreEntries program l m with.all) (sym left) with.kept))

-- behind the last step the records are the reference run's, and what is kept is its entries
pub reference_records : (program : Listing) (place : ℕ) (m : RunState) → drop place program.steps ≡ [] → MakesRest program [] [] place m → m.records ≡ records_of program [] (zero_coins program)
reference_records program place m none makes =
    records_at_end program [] [] place m none makes ∙ zero_records program program.steps program.collapses (start [])

pub entries_at_end : (program : Listing) (place : ℕ) (m : RunState) (kept : List (Option (List Term))) → drop place program.steps ≡ [] → KeepsRest program place m kept → AreEntries program program.steps (start (zero_coins program)) kept
entries_at_end program place m kept none keeps =
    let nothing : AreEntries program (drop place program.steps) m [] = subst (λ l. AreEntries program l m []) (sym none) refl in
    zero_entries program program.steps program.collapses (start []) kept
    (subst (AreEntries program program.steps (start [])) (append-nil kept) (keeps [] nothing))
