-- A text that comes by pieces: its front is read, and what isn't read yet is held.
use Rattle.std.specs.Prelude.{◌≡◌, ◌⊎◌, ◌≤◌, ℕ, ◌+◌, Bool, Option, None, Some, List, [], ◌∷◌, ◌++◌, drop, take, length}
use Rattle.step_model.specs.declared.fault.Fault.{Fault}
use Rattle.step_model.specs.Ends.{HandsOut}
use Rattle.stim_lexer.specs.Lines.{lines_of}
use Rattle.step_model.specs.WellFormed.{most_detectors, most_observables}
use Rattle.dem_text.specs.declared.front.End.{End}
use Rattle.dem_text.specs.declared.front.End.TheVariants as «end»
use Rattle.dem_text.specs.declared.front.Front.{Front}
use Rattle.dem_text.specs.declared.prediction.Gathering.{Gathering}
use Rattle.dem_text.specs.Judged.{IsRefusedBy}
use Rattle.dem_text.specs.Trees.{Tree}
use Rattle.dem_text.specs.private.Making.{HasRead}

-- a source handed out so many bytes, which a text has at its end
pub record ReadsOnto (old new : Option (List ℕ)) (text text' : List ℕ) (n : ℕ) : Type 0 where
  pub piece : List ℕ
  pub long : length piece ≡ n
  pub handed_out : HandsOut old new piece
  pub text_is : text' ≡ text ++ piece

-- the front of a text of so many bytes is empty, or ends with a line feed
abbrev pub IsWholeFront : ℕ → List ℕ → Type 0
IsWholeFront end text = (end ≡ 0) ⊎ ((front : List ℕ) × (take end text ≡ front ++ 10 ∷ []))

-- how many bits there are: of as many detectors and observables as there may be
abbrev pub most_places : ℕ
most_places = most_detectors + most_observables

-- the bits of so many detectors and observables
abbrev pub bits_in : List Bool → ℕ → ℕ → List Bool
bits_in bits detectors observables = take detectors bits ++ take observables (drop most_detectors bits)

-- these bytes were handed out: whatever follows them, they are some lines that were read, and then this text
pub record AreHanded {A : Type 0} (named handed text : List ℕ) (front : Front A) : Type 0 where
  pub lines : List (List ℕ)
  pub tree : Tree
  pub lines_are : (more : List ℕ) → lines_of (handed ++ more) ≡ lines ++ lines_of (text ++ more)
  pub read : HasRead named most_places lines tree front

-- or a line of them is refused
abbrev pub IsStanding : {A : Type 0} → List ℕ → List ℕ → List ℕ → Front A → Option Fault → Type 0
IsStanding named handed text front None = AreHanded named handed text front
IsStanding named handed text front (Some fault) = (more : List ℕ) → IsRefusedBy (handed ++ more) fault

pub record IsGathered {A : Type 0} (named : List ℕ) (old new : Option (List ℕ)) (gathering : Gathering A) : Type 0 where
  pub handed : List ℕ
  pub handed_out : HandsOut old new handed
  pub stands : IsStanding named handed gathering.text.items gathering.front gathering.refused
  pub long : gathering.front.read + length gathering.text.items ≤ length handed

-- some bytes were handed out that make it what it is
abbrev pub IsKnown : {A : Type 0} → List ℕ → Gathering A → Type 0
IsKnown named gathering =
    (handed : List ℕ) × IsStanding named handed gathering.text.items gathering.front gathering.refused

-- the refusal of a line that ended a reading
abbrev pub refusal_of : End → Option Fault
refusal_of («end».Refused fault) = Some fault
refusal_of ended = None
