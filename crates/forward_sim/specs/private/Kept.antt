-- How the words that a reference run's collapses replaced are found in the rows of a tableau, and kept while there is
-- room for them all.
-- (The replaced row of a random measurement: Aaronson and Gottesman, Phys. Rev. A 70, 052328, section III.)
use Rattle.std.specs.Prelude.{◌≡◌, ◌<◌, ◌+◌, ℕ, Bool, true, if◌then◌else◌, List, [], ◌∷◌, ◌++◌, Option, None, Some, length, take, drop, slice_index_or}
use Rattle.pauli_word.specs.declared.letter.Letter.{Letter}
use Rattle.pauli_word.specs.declared.letter.Letter.TheVariants.{X, Z}
use Rattle.pauli_word.specs.Letters.{letters_clash}
use Rattle.pauli_word.specs.States.{State}
use Rattle.step_model.specs.declared.step.Term.{Term}
use Rattle.step_model.specs.Listing.{ListedStep, One, Two, Collapse, Fault, Feedback, measured_word}
use Rattle.tableau.specs.Rows.{Rows, stabilizer_at}
use Rattle.step_model.specs.Runs.{RunState}
use Rattle.forward_sim.specs.References.{Walking, entry_of, terms_with, walking_qubits, walking_run, IsEntry}
use Rattle.forward_sim.specs.SameRuns.{IsSameRun}

-- the qubits at which a word, the first of whose letters is at qubit q, clashes with the letter a
abbrev pub clashing : Letter → ℕ → List Letter → List ℕ
clashing a q [] = []
clashing a q (letter ∷ w) = if letters_clash letter a then q ∷ clashing a (q + 1) w else clashing a (q + 1) w

-- the letters at qubits of a word: X and Z clash with one another, and Y with both
abbrev pub terms_of_word : List Letter → List Term
terms_of_word w = terms_with (clashing Z 0 w) (clashing X 0 w)

-- those for which a list of numbers stands: how many qubits have X, these qubits, and then those with Z
abbrev pub terms_listed : List ℕ → List Term
terms_listed [] = []
terms_listed (count ∷ qubits) = terms_with (take count qubits) (drop count qubits)

-- a word that was read, and for how many qubits there is room
pub record WordRead : Type 0 where
  pub room : ℕ
  pub terms : List Term

-- what is kept of a collapse, by the row whose stabilizer it may replace, if any
abbrev pub entry_for : Rows → Option ℕ → Option (List Term)
entry_for rows None = None
entry_for rows (Some row) = entry_of (terms_of_word (stabilizer_at rows row).letters)

-- what is kept of a collapse of w in the state s is appended to what was kept before
abbrev pub Keeps : ℕ → State → List Letter → List (Option (List Term)) → List (Option (List Term)) → Type 0
Keeps n s w old new = (entry : Option (List Term)) × (new ≡ old ++ entry ∷ []) × IsEntry n s w entry

-- so it is where a step from the state s is a collapse; of other steps nothing is kept
abbrev pub StepKeeps : ℕ → State → ListedStep → List (Option (List Term)) → List (Option (List Term)) → Type 0
StepKeeps n s (One gate q) old new = new ≡ old
StepKeeps n s (Two gate a b) old new = new ≡ old
StepKeeps n s (Collapse c r) old new = Keeps n s (measured_word n c) old new
StepKeeps n s (Fault f) old new = new ≡ old
StepKeeps n s (Feedback w r) old new = new ≡ old

-- what is kept of a collapse, by the number of its word's list among these
abbrev pub entry_with : List (List ℕ) → ℕ → Option (List Term)
entry_with lists number = entry_of (terms_listed (slice_index_or lists number []))

-- lists have kept their numbers, where others may have come behind them
abbrev pub HasAll : List (List ℕ) → List (List ℕ) → Type 0
HasAll old new =
    (number : ℕ) → number < length old → (number < length new) × (slice_index_or new number [] ≡ slice_index_or old number [])

-- for each collapse so far what is kept of it, where there was room for all
pub record KeptSoFar : Type 0 where
  pub whole : Bool
  pub replaced : List (Option (List Term))

-- what is kept of a step is kept, unless there is no room for all
abbrev pub StepIsKept : ℕ → State → ListedStep → KeptSoFar → KeptSoFar → Type 0
StepIsKept n s step old new = new.whole ≡ true → (old.whole ≡ true) × StepKeeps n s step old.replaced new.replaced

-- the run that goes along has come from `old` to one that is the same as m
pub record WalksTo (old new : Walking) (m : RunState) : Type 0 where
  pub qubits : walking_qubits new ≡ walking_qubits old
  pub room : new.room ≡ old.room
  pub run : IsSameRun (walking_qubits old) (walking_run new) m
