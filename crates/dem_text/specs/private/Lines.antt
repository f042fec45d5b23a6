-- What one line of an error model's text says. (Stim's detector error model format, github.com/quantumlib/Stim,
-- doc/file_format_dem_detector_error_model.md.)
use Rattle.std.specs.Prelude.{◌≡◌, ℕ, false, true, List, [], ◌∷◌, ◌++◌, Option, Some, MatchOption, codes, length, unwrap_or}
use Rattle.std.specs.List.{list_all}
use Rattle.stim_lexer.specs.declared.said.Said.{Said}
use Rattle.stim_lexer.specs.Said.{reading_in}
use Rattle.stim_parser.specs.declared.forms.ArgumentForm.TheVariants.{OneProbability}
use Rattle.stim_parser.specs.Probabilities.{AreProbabilities}
use Rattle.dem_text.specs.private.ErrorTexts.{is_quiet}
use Rattle.stim_lexer.specs.Cut.{Cut, cut_of, has_bad_byte}
use Rattle.stim_lexer.specs.FirstLines.{IsFirstLine}
use Rattle.stim_lexer.specs.Lines.{says_nothing}
use Rattle.stim_lexer.specs.Texts.{Reading, Accepts, line_reading}
use Rattle.stim_parser.specs.Arguments.{arguments_in}
use Rattle.dem_text.specs.declared.brief.Extent.{Extent}
use Rattle.dem_text.specs.declared.operation.Operation.{Operation}
use Rattle.dem_text.specs.declared.operation.Operation.TheVariants.{PauliError}
use Rattle.dem_text.specs.declared.target.Target.{Target}
use Rattle.dem_text.specs.Targets.{targets_in}
use Rattle.dem_text.specs.Texts.{models}
use Rattle.dem_text.specs.Verdicts.{Instruction}
use Rattle.dem_text.specs.private.Tables.{IsKnown}

-- the line of this number says this, wherever so many blocks are open
abbrev pub IsReading : ℕ → ℕ → List ℕ → Reading Instruction → Type 0
IsReading depth number line reading = (opened : List ℕ) → length opened ≡ depth → reading ≡ line_reading models opened number line

-- the targets of a text, where each can be read
abbrev pub read_targets : List ℕ → List Target
read_targets text = unwrap_or (targets_in text) []

-- the instruction that a cut line of this number says, by its operation
abbrev pub instruction_cut : ℕ → Operation → Cut → Instruction
instruction_cut number operation cut =
    record {
      line = number;
      operation = operation;
      arguments = arguments_in cut.arguments;
      targets = read_targets cut.targets;
    }

-- a line says something, and no byte of it is refused
pub record Speaks (line : List ℕ) : Type 0 where
  pub speaks : says_nothing line ≡ false
  pub good : has_bad_byte line ≡ false

-- a line is taken as an error line, whose targets have this extent
pub record IsErrorLine (line : List ℕ) (extent : Extent) : Type 0 where
  pub speaks : Speaks line
  pub known : (number : ℕ) → IsKnown (instruction_cut number PauliError (cut_of line)) extent []
  pub listed : (targets : List Target) × (targets_in (cut_of line).targets ≡ Some targets)
  pub taken : (number : ℕ) (opened : List ℕ) → line_reading models opened number line ≡ Accepts (instruction_cut number PauliError (cut_of line))

-- the first line of a text is one, and after it this follows
pub record BeginsWithError (text : List ℕ) (extent : Extent) (after : List ℕ) : Type 0 where
  pub line : List ℕ
  pub first : IsFirstLine text line after
  pub error : IsErrorLine line extent

-- a text begins as an error line with these arguments, which are accepted, and behind its parentheses this follows
pub record BeginsWithHead (text arguments rest : List ℕ) : Type 0 where
  pub text_is : text ≡ codes "error(" ++ (arguments ++ 41 ∷ rest)
  pub quiet : list_all is_quiet arguments ≡ true
  pub right : AreProbabilities OneProbability (arguments_in arguments)

-- the first line of a text, of this number and where so many blocks are open, says nothing, or it says this, with these targets
pub record SaysFirst (depth number : ℕ) (text : List ℕ) (targets : List Target) (found : Option (Said Operation)) (after : List ℕ) : Type 0 where
  pub line : List ℕ
  pub first : IsFirstLine text line after
  pub says : MatchOption found (says_nothing line ≡ true) (λ said. (says_nothing line ≡ false) × IsReading depth number line (reading_in number said targets))

-- the instruction of a line of this number, of which this was read
abbrev pub instruction_read : ℕ → Operation → List ℕ → List Target → Instruction
instruction_read number operation arguments targets =
    record { line = number; operation = operation; arguments = arguments_in arguments; targets = targets }
