-- The flips of a frame over a step and over those behind it.
use Rattle.std.proofs.Common.{◌≡◌, ℕ, ◌<◌, Bool, true, false, List, [], ◌∷◌, ◌++◌, length, set, Option, None, Some, refl, sym, ap, ◌∙◌, append_assoc}
use Rattle.std.specs.Prelude.{if◌then◌else◌}
use Rattle.std.specs.Option.{option_to_list}
use Rattle.pauli_word.specs.declared.letter.Letter.{Letter}
use Rattle.pauli_word.specs.declared.letter.Letter.TheVariants.{I}
use Rattle.pauli_word.specs.Letters.{letters_clash}
use Rattle.pauli_word.specs.Words.{anticommute, letter_at, lone_letter}
use Rattle.circuit_walk.specs.declared.step.FaultName.{FaultName}
use Rattle.circuit_walk.specs.Steps.{measured, recorded}
use Rattle.step_model.specs.Frames.{Frame, carried, flips_from, record_flip}
use Rattle.step_model.specs.Listing.{ListedStep, Collapse, Word, measured_word, is_collapse}
use Rattle.step_model.specs.Sensitivities.{collapse_word}
use Rattle.frames.specs.private.Flips.{flip_of, recorded_flips}
use Rattle.run_laws.proofs.ShiftWords.{anticommute-lone}

listed-flip : (b flip : Bool) → (if b then flip ∷ [] else []) ≡ option_to_list (if b then Some flip else None)
listed-flip true flip = refl
listed-flip false flip = refl

pub flips_from-step : (n : ℕ) (v : Frame) (s : ListedStep) (steps : List ListedStep) → flips_from n v (s ∷ steps) ≡ option_to_list (flip_of n v s) ++ flips_from n (carried n s v) steps
flips_from-step n v s steps =
    ap (λ flips. flips ++ flips_from n (carried n s v) steps) (listed-flip (is_collapse s) (anticommute v.word (collapse_word n s)))

-- a frame as its word and the records that it flips
abbrev pub frame : List Letter → List Bool → Frame
frame word records = record { word = word; records = records }

-- what a collapse of a letter at a qubit measures is that letter, whether it resets or not
pub measured_word-measured : (n : ℕ) (reset : Bool) (letter : Letter) (q : ℕ) → measured_word n (measured n reset letter q) ≡ lone_letter n q letter
measured_word-measured n true letter q = refl
measured_word-measured n false letter q = refl

record_flip-recorded : (rec : Option ℕ) (inverted : Bool) (flip : Option FaultName) (w v : List Letter) → record_flip (recorded rec inverted flip) w v ≡ recorded_flips rec (anticommute v w)
record_flip-recorded None inverted flip w v = refl
record_flip-recorded (Some r) inverted flip w v = refl

-- a frame behind a collapse of a word that resets no qubit
pub carried-word : (n : ℕ) (v : Frame) (w : List Letter) (rec : Option ℕ) (inverted : Bool) (flip : Option FaultName)
    → carried n (Collapse (Word w) (recorded rec inverted flip)) v ≡ frame v.word (v.records ++ recorded_flips rec (anticommute v.word w))
carried-word n v w rec inverted flip = ap (λ more. frame v.word (v.records ++ more)) (record_flip-recorded rec inverted flip w v.word)

-- a frame at a collapse of a letter at a qubit: it meets the letter there alone
module _ (n : ℕ) (v : Frame) (letter : Letter) (q : ℕ) (rec : Option ℕ) (inverted : Bool) (flip : Option FaultName) (size : length v.word ≡ n) (inside : q < n) where
  meets : (reset : Bool) → anticommute v.word (measured_word n (measured n reset letter q)) ≡ letters_clash (letter_at v.word q) letter
  meets reset = ap (anticommute v.word) (measured_word-measured n reset letter q) ∙ anticommute-lone v.word n q letter size inside

  pub flip_of-letter : (reset : Bool) → flip_of n v (Collapse (measured n reset letter q) (recorded rec inverted flip)) ≡ Some (letters_clash (letter_at v.word q) letter)
  flip_of-letter reset = ap Some (meets reset)

  records_after : (reset : Bool) → record_flip (recorded rec inverted flip) (measured_word n (measured n reset letter q)) v.word ≡ recorded_flips rec (letters_clash (letter_at v.word q) letter)
  records_after reset =
      record_flip-recorded rec inverted flip (measured_word n (measured n reset letter q)) v.word ∙ ap (recorded_flips rec) (meets reset)

  pub carried-letter : (reset : Bool) → carried n (Collapse (measured n reset letter q) (recorded rec inverted flip)) v ≡ frame (if reset then set v.word q I else v.word) (v.records ++ recorded_flips rec (letters_clash (letter_at v.word q) letter))
  carried-letter true = ap (λ more. frame (set v.word q I) (v.records ++ more)) (records_after true)
  carried-letter false = ap (λ more. frame v.word (v.records ++ more)) (records_after false)

-- the flips before a step, of the step, and behind it
pub flips-on : (n : ℕ) (v : Frame) (s : ListedStep) (steps left : List ListedStep) (flips all : List Bool) → left ≡ s ∷ steps → flips ++ flips_from n v left ≡ all
    → (flips ++ option_to_list (flip_of n v s)) ++ flips_from n (carried n s v) steps ≡ all
flips-on n v s steps left flips all is before =
    append_assoc flips (option_to_list (flip_of n v s)) (flips_from n (carried n s v) steps)
    ∙ (ap (λ more. flips ++ more) (sym (flips_from-step n v s steps) ∙ ap (flips_from n v) (sym is)) ∙ before)
