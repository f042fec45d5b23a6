-- The error lines of a turn of a REPEAT block, and those of the turns before it, which repeat them: the same lines, with
-- detectors that are some earlier. (Gidney, Quantum 5, 497 (2021): the errors of a block's turns are found once. How lines are
-- kept is this project's own.)
use Rattle.std.specs.Prelude.{◌≡◌, ℕ, zero, suc, ◌*◌, ◌<◌, List, [], ◌∷◌, ◌++◌, All, length, reverse}
use Rattle.std.specs.List.{flat_map}
use Rattle.error_models.specs.ModelText.{line_text}
use Rattle.circuit_walk.specs.Programs.{KeptProgram}
use Rattle.step_model.specs.Chances.{chance_at}
use Rattle.step_model.specs.ErrorModels.{ErrorLine}
use Rattle.step_model.specs.Targets.{targets_of}
use Rattle.backward.specs.private.MovedTargets.{IsClear, moved_list}
use Rattle.backward.specs.declared.moved.Shift.{Shift}
use Rattle.backward.specs.private.Stretches.{Gives, line_for}

-- lines of a program's faults, in the order in which they were given
pub record KeptLines : Type 0 where
  pub program : KeptProgram
  pub lines : List ErrorLine

-- those of faults with the probabilities of these numbers, which flip these targets, one each
abbrev pub kept_lines : KeptProgram → List ℕ → List (List ℕ) → List ErrorLine
kept_lines program (chance ∷ chances) (targets ∷ lists) = record { text = (chance_at program.chances chance).text; targets = targets } ∷ kept_lines program chances lists
kept_lines program chances lists = []

-- there are such probabilities and targets
pub record AreKeptLines (program : KeptProgram) (chances : List ℕ) (lists : List (List ℕ)) : Type 0 where
  pub counted : length chances ≡ length lists
  pub there : All (λ chance. chance < length program.chances) chances
  pub named : All (All (λ t. t < length (targets_of program.listing))) lists

-- error lines with their targets below one moved to be `by` earlier; one that is left without targets goes away
abbrev pub moved_error_lines : ℕ → ℕ → List ErrorLine → List ErrorLine
moved_error_lines staying by [] = []
moved_error_lines staying by (line ∷ lines) = line_for line.text (moved_list staying by line.targets) ++ moved_error_lines staying by lines

-- lines have none of the first detectors that stay
abbrev pub AreClear : Shift → List ErrorLine → Type 0
AreClear shift lines = All (λ line. IsClear shift line.targets) lines

-- the lines of some turns, the earliest first, from those of the turn behind them
abbrev pub turn_lines : ℕ → ℕ → ℕ → List ErrorLine → List ErrorLine
turn_lines staying by zero lines = []
turn_lines staying by (suc turns) lines = moved_error_lines staying (suc turns * by) lines ++ turn_lines staying by turns lines

-- the lines of the turns before one, from that which is `last` turns earlier to that behind which `first` are left, were given
-- from the last to the first, as those of the turn itself were
pub record GivesTurns (before after : List ErrorLine → Type 0) (staying by first last : ℕ) (lines : List ErrorLine) : Type 0 where
  pub more : List ErrorLine
  pub gives : Gives before after more
  pub turns : reverse more ++ turn_lines staying by first (reverse lines) ≡ turn_lines staying by last (reverse lines)

-- the text of the lines of some turns before those that are kept
abbrev pub turns_text : KeptLines → ℕ → ℕ → ℕ → List ℕ
turns_text kept staying by turns = flat_map (line_text (length kept.program.listing.detectors)) (turn_lines staying by turns (reverse kept.lines))
