-- A reference run of a program: no fault happens and all coins are 0, so each random outcome is 0. Besides its records it
-- says of each collapse (the projective measurement inside a measurement or a reset) whether its outcome was random, and
-- if so the letters of a word that was in the state, up to its sign, and anticommutes with the word measured. A frame that
-- is multiplied by that word is still a frame of the same two runs, and its flip at the collapse changes: so batches of
-- runs are sampled by frames, beside one run. The words are kept in a list, or found anew by a run that goes along.
-- (Gidney, Quantum 5, 497 (2021): reference samples and frames.)
use Rattle.std.specs.Prelude.{⊤, ◌≡◌, ◌<◌, ◌≤◌, ◌+◌, ℕ, Bool, true, false, if◌then◌else◌, List, [], ◌∷◌, ◌++◌, Option, None, Some, length, map, drop, slice_index_or}
use Rattle.std.specs.List.{list_all}
use Rattle.pauli_word.specs.declared.letter.Letter.{Letter}
use Rattle.pauli_word.specs.declared.letter.Letter.TheVariants.{X, Z}
use Rattle.pauli_word.specs.States.{State, is_decided}
use Rattle.pauli_word.specs.Words.{Signed, signed, anticommute}
use Rattle.step_model.specs.declared.step.Term.{Term}
use Rattle.step_model.specs.Frames.{zero_coins}
use Rattle.step_model.specs.Listing.{Listing, ListedStep, One, Two, Collapse, Fault, Feedback, is_collapse, measured_word, word_of_terms}
use Rattle.step_model.specs.Runs.{RunState, start, next, records_of}
use Rattle.step_model.specs.WellFormed.{TermsFit, records_made, step_fits}
use Rattle.tableau.specs.Rows.{Rows, row_count, state_of}
use Rattle.forward_sim.specs.declared.replaced_word.ReplacedWord.{ReplacedWord}
use Rattle.forward_sim.specs.declared.span.Span.{Span}

-- a run that goes along, between two steps: the rows of its tableau, the coins of the collapses to come, the records so
-- far, for how many there is memory, and the letters at qubits of the word that the last collapse replaced, none of them
-- where its outcome wasn't random
pub record Walking : Type 0 where
  pub rows : Rows
  pub coins : List Bool
  pub records : List Bool
  pub room : ℕ
  pub terms : List Term

-- how many qubits it has
abbrev pub walking_qubits : Walking → ℕ
walking_qubits walk = row_count walk.rows

-- its run
abbrev pub walking_run : Walking → RunState
walking_run walk = record { state = state_of walk.rows; coins = walk.coins; records = walk.records }

-- what says which words the collapses replaced: for each collapse the letters at qubits, none where the outcome wasn't
-- random; or a run that goes along
pub data Words : Type 0 where
  Kept : List (Option (List Term)) → Words
  Walked : Walking → Words

-- the records, and what says which words were replaced
pub record ReferenceRun : Type 0 where
  pub records : List Bool
  pub words : Words

-- a collapse of w is random in the state s, and the word v, which is in s with one of the signs, anticommutes with w
pub record IsReplacing (s : State) (w v : List Letter) : Type 0 where
  pub random : is_decided s w ≡ false
  pub in_state : (negative : Bool) × (s (signed v negative) ≡ true)
  pub anticommutes : anticommute w v ≡ true

-- what is kept of a collapse of w in the state s of n qubits
abbrev pub IsEntry : ℕ → State → List Letter → Option (List Term) → Type 0
IsEntry n s w None = is_decided s w ≡ true
IsEntry n s w (Some terms) = TermsFit n terms × IsReplacing s w (word_of_terms n terms)

-- what is kept of the collapses of these steps, in a run without faults that takes them from m on
abbrev pub AreEntries : Listing → List ListedStep → RunState → List (Option (List Term)) → Type 0
AreEntries program [] m replaced = replaced ≡ []
AreEntries program (Collapse c r ∷ steps) m [] = ⊥
AreEntries program (Collapse c r ∷ steps) m (entry ∷ replaced) =
    IsEntry program.qubits m.state (measured_word program.qubits c) entry
    × AreEntries program steps (next program [] (Collapse c r) m) replaced
AreEntries program (One gate q ∷ steps) m replaced = AreEntries program steps (next program [] (One gate q) m) replaced
AreEntries program (Two gate a b ∷ steps) m replaced = AreEntries program steps (next program [] (Two gate a b) m) replaced
AreEntries program (Fault f ∷ steps) m replaced = AreEntries program steps (next program [] (Fault f) m) replaced
AreEntries program (Feedback w r ∷ steps) m replaced = AreEntries program steps (next program [] (Feedback w r) m) replaced

-- the letter a at each of these qubits
abbrev pub terms_at : Letter → List ℕ → List Term
terms_at a qubits = map (λ q. record { qubit = q; letter = a }) qubits

-- X at some qubits, and Z at some
abbrev pub terms_with : List ℕ → List ℕ → List Term
terms_with xs zs = terms_at X xs ++ terms_at Z zs

-- the letters at qubits of a word that is handed out
abbrev pub terms_in : ReplacedWord → List Term
terms_in word = terms_with word.xs.now word.zs.now

-- what a list of letters stands for: an empty one for an outcome that wasn't random
abbrev pub entry_of : List Term → Option (List Term)
entry_of [] = None
entry_of (term ∷ terms) = Some (term ∷ terms)

-- what is said of the collapse with this number, the last that was gone over
abbrev pub said_of : ℕ → Words → Option (List Term)
said_of k (Kept replaced) = slice_index_or replaced k None
said_of k (Walked walk) = entry_of walk.terms

-- something is said of it
abbrev pub IsSaid : ℕ → Words → Type 0
IsSaid k (Kept replaced) = k < length replaced
IsSaid k (Walked walk) = ⊤

-- the run that goes along is the run m, with memory for the records of these steps
pub record GoesAlong (program : Listing) (steps : List ListedStep) (m : RunState) (walk : Walking) : Type 0 where
  pub qubits : walking_qubits walk ≡ program.qubits
  pub room : length m.records + length (records_made steps) ≤ walk.room
  pub state : (p : Signed) → length p.letters ≡ program.qubits → state_of walk.rows p ≡ m.state p
  pub records : walk.records ≡ m.records
  pub coins : walk.coins ≡ []
  pub zeros : (i : ℕ) → slice_index_or m.coins i false ≡ false
  pub fits : list_all (step_fits program) steps ≡ true

-- the words stand before these steps, behind k collapses, where a run without faults comes to them as m
abbrev pub StandBefore : Listing → List ListedStep → RunState → ℕ → Words → Type 0
StandBefore program steps m k (Kept replaced) = AreEntries program steps m (drop k replaced)
StandBefore program steps m k (Walked walk) = GoesAlong program steps m walk

-- a step is the next, in some such run
abbrev pub IsNext : Listing → ListedStep → Words → Type 0
IsNext program step words =
    (rest : List ListedStep) × (m : RunState) × (k : ℕ) × StandBefore program (step ∷ rest) m k words

-- what is said of a step from the state s of n qubits, where it is a collapse
abbrev pub IsStepEntry : ℕ → State → ListedStep → Option (List Term) → Type 0
IsStepEntry n s (One gate q) entry = ⊤
IsStepEntry n s (Two gate a b) entry = ⊤
IsStepEntry n s (Collapse c r) entry = IsEntry n s (measured_word n c) entry
IsStepEntry n s (Fault f) entry = ⊤
IsStepEntry n s (Feedback w r) entry = ⊤

-- how many collapses are behind a step with k before it
abbrev pub collapses_after : ℕ → ListedStep → ℕ
collapses_after k step = if is_collapse step then k + 1 else k

-- the words have gone over a step that the run m, behind k collapses, came to
pub record GoneOver (program : Listing) (step : ListedStep) (rest : List ListedStep) (m : RunState) (k : ℕ) (words : Words) : Type 0 where
  pub said : is_collapse step ≡ true → IsSaid k words
  pub entry : IsStepEntry program.qubits m.state step (said_of k words)
  pub stand : StandBefore program rest (next program [] step m) (collapses_after k step) words

-- the words are those of a program, wherever they stand
abbrev pub AreWordsOf : Listing → Words → Type 0
AreWordsOf program (Kept replaced) = AreEntries program program.steps (start (zero_coins program)) replaced
AreWordsOf program (Walked walk) =
    (walking_qubits walk ≡ program.qubits) × (walk.room ≡ program.records) × (walk.coins ≡ [])

-- it is said of the collapses of a span that they aren't random. A run that goes along says so of none
abbrev pub AreDecided : Span → Words → Type 0
AreDecided span (Kept replaced) = (k : ℕ) → span.start ≤ k → k < span.end → slice_index_or replaced k None ≡ None
AreDecided span (Walked walk) = span.end ≤ span.start

-- a program's reference run
pub record IsReferenceOf (program : Listing) (reference : ReferenceRun) : Type 0 where
  pub records : reference.records ≡ records_of program [] (zero_coins program)
  pub words : AreWordsOf program reference.words
