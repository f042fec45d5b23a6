-- What says which words the collapses replaced goes over the steps, whether these are kept or a run goes along.
use Rattle.std.proofs.Common.{◌≡◌, ℕ, zero, suc, ◌+◌, ◌<◌, Bool, true, false, List, [], ◌∷◌, length, get_or, drop, replicate, Option, None, refl, sym, ap, subst, ◌∙◌, arith, length-append}
use Rattle.std.specs.List.{list_all}
use Rattle.std.proofs.lemmas.Bool.{and_parts}
use Rattle.std.proofs.lemmas.List.{drop_more}
use Rattle.std.proofs.lemmas.List.FromFn.{length-range_with_len}
use Rattle.pauli_word.specs.States.{State, outcome, collapsed}
use Rattle.pauli_word.specs.Words.{Signed}
use Rattle.step_model.specs.declared.step.Term.{Term}
use Rattle.step_model.specs.Frames.{zero_coins}
use Rattle.step_model.specs.Listing.{Listing, ListedStep, Collapse, Measured, Recorded, measured_word, step_records}
use Rattle.step_model.specs.Runs.{RunState, start, next, next_coin, corrected, correction}
use Rattle.step_model.specs.WellFormed.{IsWellFormed, collapse_count, records_made, step_fits}
use Rattle.step_model.proofs.StateIsGroup.{length-measured}
use Rattle.forward_sim.specs.References.{Walking, Kept, Walked, walking_qubits, walking_run, entry_of, AreEntries, GoesAlong, GoneOver, IsEntry, IsStepEntry}
use Rattle.forward_sim.specs.SameRuns.{HoldSame, IsSameRun}
use Rattle.forward_sim.proofs.ReferenceSteps.{same-entry}
use Rattle.forward_sim.proofs.RunRecords.{all_fit, length-next}
use Rattle.forward_sim.proofs.SameStates.{same-next}

-- the list says something of each collapse
pub length-entries : (program : Listing) (steps : List ListedStep) (m : RunState) (replaced : List (Option (List Term))) → AreEntries program steps m replaced → length replaced ≡ collapse_count steps
length-entries program [] m replaced entries = ap length entries
length-entries program (Collapse c r ∷ steps) m [] entries = absurd entries
length-entries program (Collapse c r ∷ steps) m (entry ∷ replaced) entries =
    let rest = length-entries program steps _ replaced entries.1 in
    omega (arith, rest)
length-entries program (step ∷ steps) m replaced entries = let rest = length-entries program steps _ replaced entries in omega (arith, rest)

-- so it says something of the one that comes next
some-left : (program : Listing) (m : RunState) (c : Measured) (r : Option Recorded) (rest : List ListedStep) (left : List (Option (List Term))) → AreEntries program (Collapse c r ∷ rest) m left → 0 < length left
some-left program m c r rest [] entries = absurd entries
some-left program m c r rest (entry ∷ left) entries = omega arith

below-drop : {X : Type 0} (xs : List X) (k : ℕ) → 0 < length (drop k xs) → k < length xs
below-drop xs zero h = h
below-drop [] (suc k) h = absurd (omega (arith, h))
below-drop (x ∷ xs) (suc k) h = omega (arith, below-drop xs k h)

pub over_kept : (program : Listing) (step : ListedStep) (rest : List ListedStep) (m : RunState) (k : ℕ) (replaced : List (Option (List Term))) → AreEntries program (step ∷ rest) m (drop k replaced) → GoneOver program step rest m k (Kept replaced)
over_kept program (Collapse c r) rest m k replaced h =
    let below : k < length replaced = below-drop replaced k (some-left program m c r rest (drop k replaced) h) in
    let parts : IsEntry program.qubits m.state (measured_word program.qubits c) (get_or replaced k None) × AreEntries program rest (next program [] (Collapse c r) m) (drop (k + 1) replaced) =
    subst (AreEntries program (Collapse c r ∷ rest) m) (drop_more replaced k None below) h in
    record { said = λ e. below; entry = parts.0; stand = parts.1 }
over_kept program step rest m k replaced h = record { said = λ e. cc; entry = tt; stand = h }

zeros : (n i : ℕ) → get_or (replicate n false) i false ≡ false
zeros zero i = refl
zeros (suc n) zero = refl
zeros (suc n) (suc i) = zeros n i

-- a run that goes along is before the first step
pub along_at_start : (program : Listing) (old new : Walking) → IsWellFormed program
    → (walking_qubits old ≡ program.qubits) × (old.room ≡ program.records) × (old.coins ≡ [])
    → walking_qubits new ≡ walking_qubits old → new.room ≡ old.room → IsSameRun (walking_qubits old) (walking_run new) (start old.coins)
    → GoesAlong program program.steps (start (zero_coins program)) new
along_at_start program old new well_formed of_program qubits room same =
    let made : length (records_made program.steps) ≡ program.records =
    ap length well_formed.records_in_order ∙ length-range_with_len 0 program.records in
    record {
      qubits = qubits ∙ of_program.0;
      room = omega (arith, made, room, of_program.1);
      state = λ p size. same.state p (size ∙ sym of_program.0);
      records = same.records;
      coins = same.coins ∙ of_program.2;
      zeros = zeros program.collapses;
      fits = all_fit program well_formed;
    }

-- coins that aren't there are coins that are 0
abbrev without_coins : RunState → RunState
without_coins m = record m { coins = [] }

-- a step can't tell them apart
record IsAlike (m k : RunState) : Type 0 where
  pub state : (p : Signed) → m.state p ≡ k.state p
  pub records : m.records ≡ k.records
  pub coins : m.coins ≡ []

alike : (program : Listing) (step : ListedStep) (m : RunState) → next_coin m.coins ≡ false → IsAlike (next program [] step (without_coins m)) (next program [] step m)
alike program (Collapse c r) m coin =
    let w = measured_word program.qubits c in
    record {
      state = λ p. ap (λ b. corrected (correction program.qubits c) (outcome m.state w b) (collapsed w b m.state) p) (sym coin);
      records = ap (λ b. (next program [] (Collapse c r) (record m { coins = b ∷ [] })).records) (sym coin);
      coins = refl;
    }
alike program step m coin = record { state = λ p. refl; records = refl; coins = refl }

zeros-behind : (coins : List Bool) → ((i : ℕ) → get_or coins i false ≡ false) → (i : ℕ) → get_or (drop 1 coins) i false ≡ false
zeros-behind [] zeros i = refl
zeros-behind (x ∷ coins) zeros i = zeros (suc i)

-- coins that are 0 stay so
pub zeros_after : (program : Listing) (step : ListedStep) (m : RunState) → ((i : ℕ) → get_or m.coins i false ≡ false) → (i : ℕ) → get_or (next program [] step m).coins i false ≡ false
zeros_after program (Collapse c r) m zeros = zeros-behind m.coins zeros
zeros_after program step m zeros = zeros

same_step_entry : (program : Listing) (s t : State) (step : ListedStep) (entry : Option (List Term)) → step_fits program step ≡ true → HoldSame program.qubits s t → IsStepEntry program.qubits s step entry → IsStepEntry program.qubits t step entry
same_step_entry program s t (Collapse c r) entry fits same is =
    same-entry program.qubits s t (measured_word program.qubits c) entry same (length-measured program c r fits) is
same_step_entry program s t step entry fits same is = tt

-- it has gone over a step
pub over_walked : (program : Listing) (step : ListedStep) (rest : List ListedStep) (m : RunState) (k : ℕ) (old new : Walking)
    → walking_qubits new ≡ walking_qubits old → new.room ≡ old.room
    → IsSameRun (walking_qubits old) (walking_run new) (next program [] step (walking_run old))
    → IsStepEntry program.qubits (walking_run old).state step (entry_of new.terms)
    → GoesAlong program (step ∷ rest) m old → GoneOver program step rest m k (Walked new)
over_walked program step rest m k old new qubits room same entry along =
    let fits = and_parts (step_fits program step) (list_all (step_fits program) rest) along.fits in
    let before : IsSameRun program.qubits (walking_run old) (without_coins m) =
    record { state = along.state; coins = along.coins; records = along.records } in
    let after = same-next program [] step (walking_run old) (without_coins m) fits.0 before in
    let apart = alike program step m (along.zeros 0) in
    record {
      said = λ e. tt;
      entry = same_step_entry program (walking_run old).state m.state step (entry_of new.terms) fits.0 along.state entry;
      stand = record {
        qubits = qubits ∙ along.qubits;
        room = omega (arith, along.room, room, length-next program [] step m, length-append (step_records step) (records_made rest));
        state = λ p size. same.state p (size ∙ sym along.qubits) ∙ after.state p size ∙ apart.state p;
        records = same.records ∙ after.records ∙ apart.records;
        coins = same.coins ∙ after.coins ∙ apart.coins;
        zeros = zeros_after program step m along.zeros;
        fits = fits.1;
      };
    }
