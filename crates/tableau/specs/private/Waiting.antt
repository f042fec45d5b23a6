-- Turns that wait. Each is made by a random measurement of a letter at a qubit, of the rows as they are once the turns before it
-- are made. So whether it changes a row follows from the row, as it is then, and that letter.
use Rattle.std.specs.Prelude.{◌≡◌, ◌<◌, ◌≤◌, ◌++◌, ℕ, All, Bool, List, [], ◌∷◌, length, take, Option, None, Some, eqb, if◌then◌else◌}
use Rattle.pauli_word.specs.declared.letter.Letter.{Letter}
use Rattle.pauli_word.specs.declared.letter.Letter.TheVariants.{I}
use Rattle.pauli_word.specs.States.{collapsed, outcome}
use Rattle.pauli_word.specs.Words.{Signed}
use Rattle.tableau.specs.private.CliffordMaps.{turned}
use Rattle.tableau.specs.private.Decoding.{decoded_pairs, rows_seen}
use Rattle.tableau.specs.private.Encoding.{Pair, pair_at, HasLength}
use Rattle.tableau.specs.private.EncodingSteps.{mapped, TurnsAt}
use Rattle.tableau.specs.Rows.{Rows, row_count, state_of, HasState, IsCollapsed}
use Rattle.tableau.specs.declared.waiting_turns.Origin.{Origin}

-- a word, and what the turn by it was made of
abbrev pub Turn : Type 0
Turn = Signed × Origin

-- the letter that was measured at a qubit
abbrev pub measured_letter : Origin → ℕ → Letter
measured_letter o q = if eqb q o.qubit then o.letter else I

-- a word turned by one turn after another
abbrev pub all_turned : List Turn → Signed → Signed
all_turned [] v = v
all_turned (t ∷ turns) v = all_turned turns (turned t.0 v)

-- what a turn of the pair of qubit q asks
pub record CanTurnBy (q : ℕ) (t : Turn) (r : Pair) : Type 0 where
  pub inside : t.1.pivot < length t.0.letters
  pub size : HasLength (length t.0.letters) r
  pub clashes : TurnsAt (measured_letter t.1 q) t.1.pivot t.0 r

-- and what turns one after another ask
abbrev pub CanTurn : ℕ → List Turn → Pair → Type 0
CanTurn q [] r = Unit {0}
CanTurn q (t ∷ turns) r = CanTurnBy q t r × CanTurn q turns (turned t.0 r.0, turned t.0 r.1)

-- words of X and words of Z as pairs
abbrev pub pairs_of : List Signed → List Signed → List Pair
pairs_of (x ∷ xs) (z ∷ zs) = (x, z) ∷ pairs_of xs zs
pairs_of xs zs = []

-- the rows kept, from those seen: a map is its inverse's inverse
abbrev pub kept : Rows → List Pair
kept rows = decoded_pairs (row_count rows) (pairs_of rows.destabilizers rows.stabilizers)

-- rows seen, once turns are made
abbrev pub turned_by : List Turn → Rows → Rows
turned_by [] rows = rows
turned_by (t ∷ turns) rows = rows_seen (mapped (all_turned (t ∷ turns)) (kept rows))

-- the turn of words of n letters
abbrev pub IsSized : ℕ → Turn → Type 0
IsSized n t = length t.0.letters ≡ n

-- turns that can be made of the rows
pub record AreTurns (turns : List Turn) (rows : Rows) : Type 0 where
  pub sized : All (IsSized (row_count rows)) turns
  pub ready : (q : ℕ) → q < row_count rows → CanTurn q turns (pair_at (row_count rows) (kept rows) q)
  pub len : row_count (turned_by turns rows) ≡ row_count rows

-- turns, of which the last was perhaps made by a measurement of w that saw this outcome
pub record Measures (before after : List Turn) (rows : Rows) (w : List Letter) (coin seen : Bool) : Type 0 where
  pub turns : AreTurns after rows
  pub outcome_is : seen ≡ outcome (state_of (turned_by before rows)) w coin
  pub state_is : HasState (turned_by after rows) (collapsed w coin (state_of (turned_by before rows)))

-- the outcome, and the turns that wait then, where a measurement made a turn if its outcome wasn't decided
abbrev pub outcome_by : Option Bool → Bool → Bool
outcome_by None coin = coin
outcome_by (Some seen) coin = seen

abbrev pub turns_by : Option Bool → List Turn → Turn → List Turn
turns_by None turns t = turns ++ t ∷ []
turns_by (Some seen) turns t = turns

-- the rows seen where the first turns of a list wait
abbrev pub awaited : Rows → List Turn → ℕ → Rows
awaited rows turns waiting = turned_by (take waiting turns) rows

pub record Waits (rows : Rows) (turns : List Turn) (waiting : ℕ) : Type 0 where
  pub room : waiting ≤ length turns
  pub sized : All (IsSized (row_count rows)) turns
  pub ready : AreTurns (take waiting turns) rows

-- no turn waits, and a measurement of w sees this outcome by any coin and leaves the rows
pub record SeesAtOnce (rows : Rows) (waiting : ℕ) (w : List Letter) (seen : Bool) : Type 0 where
  pub none : waiting ≡ 0
  pub stays : (coin : Bool) → IsCollapsed rows rows w coin seen None
