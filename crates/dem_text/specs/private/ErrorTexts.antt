-- The targets of an error line as nearly all are written: before each a single space, and each `D` or `L` and a few
-- digits. They are read straight from the bytes; the general reader, which reads all others, reads the same of these.
-- (Stim's detector error model format, github.com/quantumlib/Stim, doc/file_format_dem_detector_error_model.md, "Target
-- Types".)
use Rattle.std.specs.Prelude.{◌≡◌, ◌⊎◌, ℕ, ◌==◌, ◌||◌, Bool, true, false, List, [], ◌∷◌, ◌++◌, Some}
use Rattle.std.specs.Char.{is_ascii_digit}
use Rattle.std.specs.Int.{is_in_range}
use Rattle.std.specs.List.{list_all}
use Rattle.step_model.specs.Probabilities.{digits_value}
use Rattle.stim_lexer.specs.Bytes.{is_empty}
use Rattle.stim_parser.specs.Pieces.{ends_here}
use Rattle.dem_text.specs.declared.brief.Extent.{Extent}
use Rattle.dem_text.specs.declared.target.Target.{Target}
use Rattle.dem_text.specs.Limits.{has_target_beyond, is_effect}
use Rattle.dem_text.specs.Meanings.{detectors_to, observables_to}
use Rattle.stim_lexer.specs.Reached.{greatest_by}
use Rattle.dem_text.specs.Targets.{target_of, targets_in}

-- the space and the bytes from `+` to `z`
abbrev pub is_quiet : ℕ → Bool
is_quiet b = b == 32 || is_in_range 43 122 b

-- the bytes from `+` to `z`: none of them ends a word of targets, ends arguments or begins a comment
abbrev pub is_word_byte : ℕ → Bool
is_word_byte b = is_in_range 43 122 b

-- a text begins with the digits of a number
pub record IsNumberFront (text : List ℕ) (number : ℕ) (rest : List ℕ) : Type 0 where
  pub digits : List ℕ
  pub text_is : text ≡ digits ++ rest
  pub digits_are : list_all is_ascii_digit digits ≡ true
  pub number_is : number ≡ digits_value digits

-- a text begins with a space and the word of a target that an error may have
pub record IsTargetFront (text : List ℕ) (target : Target) (rest : List ℕ) : Type 0 where
  pub word : List ℕ
  pub text_is : text ≡ 32 ∷ (word ++ rest)
  pub some : is_empty word ≡ false
  pub bytes : list_all is_word_byte word ≡ true
  pub target_is : target_of word ≡ Some target
  pub effect : is_effect target ≡ true

-- targets that an error may have, none beyond its limit
pub record AreListed (text : List ℕ) (targets : List Target) : Type 0 where
  pub apart : ends_here text ≡ true
  pub quiet : list_all is_quiet text ≡ true
  pub read : targets_in text ≡ Some targets
  pub effects : list_all is_effect targets ≡ true
  pub within : has_target_beyond targets ≡ false

-- a line ends where a text begins
abbrev pub ends_line : List ℕ → Bool
ends_line [] = true
ends_line (b ∷ text) = b == 10

-- what follows the line that ends where a text begins
abbrev pub IsBehindEnd : List ℕ → List ℕ → Type 0
IsBehindEnd text after = ((text ≡ []) × (after ≡ [])) ⊎ (text ≡ 10 ∷ after)

-- a text begins with such targets, and after them its line ends: this follows the line
pub record BeginsWithTargets (text : List ℕ) (targets : List Target) (after : List ℕ) : Type 0 where
  pub front : List ℕ
  pub listed : AreListed front targets
  pub parts : ((text ≡ front) × (after ≡ [])) ⊎ (text ≡ front ++ 10 ∷ after)

-- the extent of targets
pub record IsExtent (targets : List Target) (extent : Extent) : Type 0 where
  pub detectors : extent.detectors ≡ greatest_by detectors_to targets
  pub observables : extent.observables ≡ greatest_by observables_to targets

-- a text begins with such targets, and this is their extent
pub record BeginsWithExtent (text : List ℕ) (extent : Extent) (after : List ℕ) : Type 0 where
  pub targets : List Target
  pub begins : BeginsWithTargets text targets after
  pub extent_is : IsExtent targets extent

-- nothing, or a text that begins with a space
abbrev pub IsApart : List ℕ → Type 0
IsApart text = (text ≡ []) ⊎ ((later : List ℕ) × (text ≡ 32 ∷ later))
