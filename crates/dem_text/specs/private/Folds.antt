-- A model as a fold over its instructions: by how much detectors are shifted, the counts so far, the first line with a number
-- that is beyond its limit once shifted, and the bits of the error lines that are named. Behind such a line nothing counts any
-- more. (Stim's detector error model format, github.com/quantumlib/Stim, doc/file_format_dem_detector_error_model.md.)
use Rattle.std.specs.Prelude.{◌≡◌, ⊤, ℕ, ◌+◌, ◌-◌, ◌^◌, ◌≤◌, ◌==◌, ◌&&◌, max, Bool, false, if◌then◌else◌, List, [], ◌∷◌, drop, is_none, is_some, map, replicate, None, Some}
use Rattle.stim_lexer.specs.Reached.{greatest_by}
use Rattle.dem_text.specs.declared.standing.LineCounts.{LineCounts}
use Rattle.dem_text.specs.declared.standing.Standing.{Standing}
use Rattle.dem_text.specs.declared.fold.Fold.{Fold}
use Rattle.dem_text.specs.Meanings.{detectors_to, is_error, observables_to}
use Rattle.dem_text.specs.Models.{is_beyond}
use Rattle.dem_text.specs.NamedLines.{is_among}
use Rattle.dem_text.specs.Shifts.{Placed, Shift, no_shift, placed_at, shift_after, shifted_target}
use Rattle.dem_text.specs.Verdicts.{Instruction}
use Rattle.dem_text.specs.private.Lines.{read_targets}
use Rattle.dem_text.specs.private.Numbered.{numbers_of}
use Rattle.dem_text.specs.private.Offsets.{HasRoom}
use Rattle.dem_text.specs.private.Tables.{most_detectors}
use Rattle.dem_text.specs.private.Turned.{turned}

-- ---- one line

-- counts with those of a line
abbrev pub counts_past : Placed → LineCounts → LineCounts
counts_past p c =
    record {
      detectors = max c.detectors (greatest_by detectors_to p.targets);
      observables = max c.observables (greatest_by observables_to p.targets);
      errors = if is_error p.operation then c.errors + 1 else c.errors;
    }

-- a line as it is reached, from which this shift goes on
abbrev pub past : Placed → Shift → Standing → Standing
past p shift s =
    if is_beyond p then record s { beyond = Some p.line }
    else (record { shift = shift; counts = counts_past p s.counts; passed = s.passed + 1; beyond = None })

abbrev pub stand_after : Instruction → Standing → Standing
stand_after i s = if is_some s.beyond then s else past (placed_at s.shift i) (shift_after i s.shift) s

-- ---- the bits of the lines that are named

pub record Folded : Type 0 where
  pub standing : Standing
  pub bits : List Bool

-- whether a line is an error line that is named, before which this stood
abbrev pub is_asked : List ℕ → Standing → Instruction → Bool
is_asked named s i = is_none (stand_after i s).beyond && (is_error i.operation && is_among named s.counts.errors)

-- the places of a line's targets among the bits: observables stand behind as many detectors as there may be
abbrev pub places_of : Shift → Instruction → List ℕ
places_of shift i = numbers_of most_detectors (map (shifted_target shift.detectors) i.targets)

abbrev pub fold_after : List ℕ → Folded → Instruction → Folded
fold_after named f i =
    record {
      standing = stand_after i f.standing;
      bits = if is_asked named f.standing i then turned f.bits (places_of (stand_after i f.standing).shift i) else f.bits;
    }

abbrev pub fold_over : List ℕ → Folded → List Instruction → Folded
fold_over named f [] = f
fold_over named f (i ∷ is) = fold_over named (fold_after named f i) is

-- ---- what the code keeps of it

-- whether this number is the next of those that are to come
abbrev pub is_next : ℕ → List ℕ → Bool
is_next n [] = false
is_next n (next ∷ later) = next == n

-- those that are to come after the line of this number
abbrev pub later_after : ℕ → List ℕ → List ℕ
later_after n later = if is_next n later then drop 1 later else later

-- numbers ascend, and none is below this
abbrev pub AscendFrom : ℕ → List ℕ → Type 0
AscendFrom low [] = ⊤
AscendFrom low (n ∷ numbers) = (low ≤ n) × AscendFrom (n + 1) numbers

-- those of some numbers that are still to come from a number on
pub record IsLater (named : List ℕ) (read : ℕ) (later : List ℕ) : Type 0 where
  pub same : (n : ℕ) → read ≤ n → is_among named n ≡ is_among later n
  pub ascend : AscendFrom read later

-- there is room for the shifts of as many lines as 64 bits can count
pub record IsSound (s : Standing) : Type 0 where
  pub room : HasRoom s.shift (2 ^ 64 - s.passed)
  pub errors : s.counts.errors ≤ s.passed

-- what is kept of a fold, in which these numbers are named
pub record Follows {A : Type 0} (named : List ℕ) (f : Folded) (fold : Fold A) : Type 0 where
  pub standing_is : fold.standing ≡ f.standing
  pub bits_are : fold.bits ≡ f.bits
  pub later_is : f.standing.beyond ≡ None → IsLater named f.standing.counts.errors fold.later.now

-- before the first line, with so many bits
abbrev pub fold_start : ℕ → Folded
fold_start places =
    record {
      standing = record { shift = no_shift; counts = record { detectors = 0; observables = 0; errors = 0 }; passed = 0; beyond = None };
      bits = replicate places false;
    }

-- the bits of the targets of a text were turned, and nothing else changed
pub record HasTurned {A : Type 0} (text : List ℕ) (old new : Fold A) : Type 0 where
  pub bits : new.bits ≡ turned old.bits (numbers_of most_detectors (map (shifted_target old.standing.shift.detectors) (read_targets text)))
  pub standing : new.standing ≡ old.standing
  pub later : new.later.now ≡ old.later.now
