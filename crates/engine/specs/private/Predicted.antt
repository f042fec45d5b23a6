-- A prediction whose list of error lines is read before their count is known. (This project's own.)
use Rattle.std.specs.Prelude.{ℕ, Bool, List, [], Option, None, Some, Result, Ok, Err}
use Rattle.step_model.specs.declared.fault.Fault.{Fault}
use Rattle.step_model.specs.declared.fault.Cause.TheVariants.{FaultNumber}
use Rattle.step_model.specs.Faults.{without_line}
use Rattle.forward_sim.specs.Listed.{IsListOf, IsNoList}
use Rattle.frames.specs.Lines.{line_of}
use Rattle.engine.specs.Output.{Output, done}

-- what a text lists: these numbers, or it is no list
abbrev pub IsReadAs : List ℕ → Option (List ℕ) → Type 0
IsReadAs text None = IsNoList text
IsReadAs text (Some numbers) = IsListOf text numbers

-- the numbers for which the model's text is kept
abbrev pub numbers_in : Option (List ℕ) → List ℕ
numbers_in None = []
numbers_in (Some numbers) = numbers

-- what is written for a symptom, or why there is none
abbrev pub symptom_output : Option (List Bool) → Result Output Fault
symptom_output None = Err (without_line FaultNumber)
symptom_output (Some symptom) = Ok (done (line_of symptom))
