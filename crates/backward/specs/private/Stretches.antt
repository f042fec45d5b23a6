-- The error lines of a stretch of a program's steps: those of its faults, the first fault's first. The lines of all
-- steps are the model's. (Stim's detector error model format: a line an error.)
use Rattle.std.specs.Prelude.{ℕ, ◌-◌, ◌++◌, List, [], ◌∷◌, filter, length, drop, Option, None, Some}
use Rattle.std.specs.List.{range_with_len, flat_map}
use Rattle.step_model.specs.ErrorModels.{ErrorLine}
use Rattle.step_model.specs.Hits.{hits_at}
use Rattle.step_model.specs.Listing.{Listing, ListedStep, fault_at}
use Rattle.step_model.specs.Targets.{targets_of}
use Rattle.step_model.specs.WellFormed.{step_faults}
use Rattle.circuit_walk.specs.Programs.{KeptProgram}
use Rattle.step_model.specs.Chances.{chance_at}
use Rattle.circuit_walk.specs.declared.step.FaultName.{FaultName}
use Rattle.error_models.specs.ModelText.{line_text}
use Rattle.record_targets.specs.ListingSets.{sensitivity_before}

-- the error line of a fault that flips these targets; none where there are none
abbrev pub line_for : List ℕ → List ℕ → List ErrorLine
line_for text [] = []
line_for text (t ∷ ts) = record { text = text; targets = t ∷ ts } ∷ []

-- that of the fault that flips a record, where there is one, for these targets
abbrev pub flip_line : KeptProgram → Option FaultName → List ℕ → List ErrorLine
flip_line program None targets = []
flip_line program (Some name) targets = line_for (chance_at program.chances name.chance).text targets

-- the targets that a fault at a step flips, and its line; the steps are those after it
abbrev pub hit_at : Listing → ListedStep → List ListedStep → ℕ → List ℕ
hit_at program step steps f =
    filter (λ d. hits_at program f step (sensitivity_before program steps d)) (range_with_len 0 (length (targets_of program)))

abbrev pub line_at : Listing → ListedStep → List ListedStep → ℕ → List ErrorLine
line_at program step steps f = line_for (fault_at program f).text (hit_at program step steps f)

-- the line of the first of these steps, where it has a fault that flips something
abbrev pub first_lines : Listing → List ListedStep → List ErrorLine
first_lines program [] = []
first_lines program (step ∷ steps) = flat_map (line_at program step steps) (step_faults step)

-- that of the step right after a place
abbrev pub lines_at : Listing → ℕ → List ErrorLine
lines_at program place = first_lines program (drop place program.steps)

-- those of the steps between two places
abbrev pub lines_between : Listing → ℕ → ℕ → List ErrorLine
lines_between program from to = flat_map (lines_at program) (range_with_len from (to - from))

-- their text
abbrev pub text_between : Listing → ℕ → ℕ → List ℕ
text_between program from to = flat_map (line_text (length program.detectors)) (lines_between program from to)

-- what held some lines holds more behind them
abbrev pub Gives : (List ErrorLine → Type 0) → (List ErrorLine → Type 0) → List ErrorLine → Type 0
Gives before after more = (lines : List ErrorLine) → before lines → after (lines ++ more)
