-- What is written for an order and a text, and with which status, as a function of the two. A refused order writes one
-- line that says why. A run writes the line of its records and the line of its detections: for each target whether it
-- differs from that of the run without faults whose coins are all 0. Of drawn shots each writes one of these two lines.
-- An analysis writes the program's error model; or, where a target is random, three lines: the lowest random target,
-- and two coin lists that give it different parities in runs without faults. (A coin is the outcome of a collapse, the
-- projective measurement inside a measurement or a reset, where that outcome is random.) For these and for the list of
-- a program's faults the text is that of a circuit. A prediction takes the text of an error model, and writes the
-- symptom of the error lines that are named: the line of the targets that an odd number of them flip. (Stim's result
-- format 01 and detector error model format; the lines of a random target and the list of faults are this project's
-- own.)
use Rattle.std.specs.Prelude.{ℕ, nat_lt, Bool, if◌then◌else◌, List, [], ◌∷◌, ◌++◌, length, codes, decimal, Option, None, Some, ok_or, Result, Ok, Err}
use Rattle.std.specs.Option.{option_copied}
use Rattle.rand_pcg.specs.Lcg.{Lcg}
use Rattle.step_model.specs.declared.fault.Fault.{Fault}
use Rattle.step_model.specs.declared.fault.Cause.TheVariants.{CoinCount, FaultNumber, Shots}
use Rattle.step_model.specs.declared.step.Place.{Place}
use Rattle.step_model.specs.Faults.{cause_number, without_line, ◌>>=◌}
use Rattle.step_model.specs.ErrorModels.{ErrorModel}
use Rattle.step_model.specs.Frames.{zero_coins, pair_coins}
use Rattle.step_model.specs.HitModels.{model_of}
use Rattle.step_model.specs.Listing.{Listing}
use Rattle.step_model.specs.Runs.{records_of}
use Rattle.step_model.specs.Targets.{difference}
use Rattle.error_models.specs.ModelText.{model_text, target_text}
use Rattle.dem_text.specs.Models.{model_in}
use Rattle.dem_text.specs.Sums.{symptom_of}
use Rattle.fault_list.specs.FaultLines.{list_text}
use Rattle.frames.specs.Lines.{line_of}
use Rattle.frames.specs.Sampled.{detection_line, record_line, shots_text}
use Rattle.unroll.specs.Programs.{program_in}
use Rattle.forward_sim.specs.Lists.{coins_of, numbers_of}
use Rattle.engine.specs.Findings.{lowest_placed}
use Rattle.step_model.specs.declared.order.Order.{Order}
use Rattle.step_model.specs.declared.order.Order.TheVariants.{Run, Analyze, Faults, Predict, Sample, Detect}
use Rattle.engine.specs.declared.order.Status.{Status}
use Rattle.engine.specs.declared.order.Status.TheVariants.{Done, Refused, Random}

-- what is written, and with which status
pub record Output : Type 0 where
  pub bytes : List ℕ
  pub status : Status

-- an order that was served as asked
abbrev pub done : List ℕ → Output
done bytes = record { bytes = bytes; status = Done }

-- the line that says why an order is refused
abbrev pub refusal_line : Fault → List ℕ
refusal_line fault =
    codes "refused " ++ decimal (cause_number fault.cause) ++ codes " line " ++ decimal fault.line ++ 10 ∷ []

-- what is written where an order is refused
abbrev pub refusal : Fault → Output
refusal fault = record { bytes = refusal_line fault; status = Refused }

-- the coins of a run: those that a text gives, or all 0 where there is no text
abbrev pub run_coins : Listing → Option (List ℕ) → Option (List Bool)
run_coins program None = Some (zero_coins program)
run_coins program (Some text) = coins_of program.collapses text

-- the two lines of a run
abbrev pub run_lines : Listing → List Bool → List Bool → List ℕ
run_lines program faults coins =
    let records = records_of program faults coins in
    let reference = records_of program [] (zero_coins program) in
    line_of records ++ line_of (difference program records reference)

-- what a run of a program writes, or why it is refused: by its coins first, then by its faults
abbrev pub program_output : Option (List ℕ) → List ℕ → Listing → Result Output Fault
program_output coin_text fault_text program = do
  coins ← ok_or (run_coins program coin_text) (without_line CoinCount)
  faults ← ok_or (numbers_of (length program.faults) fault_text) (without_line FaultNumber)
  Ok (done (run_lines program faults coins))

-- the same for the program for which a text stands; where it stands for none, the text's refusal
abbrev pub run_output : Option (List ℕ) → List ℕ → List ℕ → Result Output Fault
run_output coin_text fault_text text = program_in text >>= program_output coin_text fault_text

-- the three lines of a random target with its place
abbrev pub random_lines : Listing → ℕ → Place → List ℕ
random_lines program d place =
    codes "random" ++ target_text (length program.detectors) d ++ 10 ∷ line_of (zero_coins program) ++ line_of (pair_coins program place)

-- what is found of a program: its error model, or a random target
abbrev pub finding : Listing → Option (ℕ × Place) → Output
finding program None = done (model_text (model_of program))
finding program (Some (d, place)) = record { bytes = random_lines program d place; status = Random }

-- what is found of a program, by its lowest target that has a place
abbrev pub found_in : Listing → Output
found_in program = finding program (lowest_placed program)

-- what an analysis writes, or why it is refused
abbrev pub analysis_output : List ℕ → Result Output Fault
analysis_output text = do
  program ← program_in text
  Ok (found_in program)

-- what a list of faults writes, or why it is refused
abbrev pub faults_output : List ℕ → Result Output Fault
faults_output text = do
  program ← program_in text
  Ok (done (list_text program))

-- what a prediction writes for a model and a list of numbers of its error lines, or why it is refused
abbrev pub model_prediction : List ℕ → ErrorModel → Result Output Fault
model_prediction line_text model = do
  named ← ok_or (numbers_of (length model.lines) line_text) (without_line FaultNumber)
  Ok (done (line_of (symptom_of model named)))

-- the same for the model that a text writes; where it writes none, the text's refusal
abbrev pub prediction_output : List ℕ → List ℕ → Result Output Fault
prediction_output line_text text = model_in text >>= model_prediction line_text

-- how many shots may be asked for
abbrev pub most_shots : ℕ
most_shots = 1_000_000

-- what shots of a program write, a line of this kind each; or the refusal of too many shots
abbrev pub program_shots : (Listing → Lcg → List ℕ) → ℕ → ℕ → Listing → Result Output Fault
program_shots line shots seed program =
    if nat_lt most_shots shots then Err (without_line Shots) else Ok (done (shots_text line shots seed program))

-- the same for the program for which a text stands
abbrev pub shots_output : (Listing → Lcg → List ℕ) → ℕ → ℕ → List ℕ → Result Output Fault
shots_output line shots seed text = program_in text >>= program_shots line shots seed

-- what an order writes for a text, or why it is refused
abbrev pub order_output : Order → List ℕ → Result Output Fault
order_output (Run coins faults) text = run_output (option_copied coins) faults.now text
order_output Analyze text = analysis_output text
order_output Faults text = faults_output text
order_output (Predict lines) text = prediction_output lines.now text
order_output (Sample shots seed) text = shots_output record_line shots seed text
order_output (Detect shots seed) text = shots_output detection_line shots seed text

-- where an order is refused, only the line that says why is written
abbrev pub refused_or : Result Output Fault → Output
refused_or (Ok output) = output
refused_or (Err fault) = refusal fault

-- what is written for an order and a text, and with which status
abbrev pub output_of : Order → List ℕ → Output
output_of order text = refused_or (order_output order text)
