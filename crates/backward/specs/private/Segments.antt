-- Parts of a way back over a stretch of steps, each of which ends with turns that repeat, or with the way. (This project's own.)
use Rattle.std.specs.Prelude.{⊤, ◌≡◌, ◌<◌, ◌≤◌, ℕ, List, [], ◌∷◌, Option, None, Some}
use Rattle.circuit_walk.specs.Programs.{KeptProgram}
use Rattle.backward.specs.declared.points.Segment.{Segment}
use Rattle.backward.specs.declared.turns.KeptTurns.{KeptTurns}
use Rattle.backward.specs.declared.whole.Whole.{Whole}
use Rattle.backward.specs.private.Passes.{records_before}
use Rattle.backward.specs.private.Points.{ArePoints}
use Rattle.backward.specs.private.Stretches.{text_between}
use Rattle.backward.specs.private.Turns.{AreTurnsOf}

-- the place before which the turns are, where there are any
abbrev pub turns_end : {A : Type 0} → ℕ → Option (KeptTurns A) → ℕ
turns_end start None = start
turns_end start (Some kept) = kept.end

-- they begin at a place
abbrev pub AreTurnsAt : {A : Type 0} → KeptProgram → ℕ → Option (KeptTurns A) → Type 0
AreTurnsAt program start None = ⊤
AreTurnsAt program start (Some kept) = AreTurnsOf program kept × (kept.start ≡ start)

-- such a part, back from a place and not further than to another
pub record IsSegment {A : Type 0} (program : KeptProgram) (from cut : ℕ) (segment : Segment A) : Type 0 where
  pub points : ArePoints program (turns_end segment.start segment.turns) cut segment.points.items
  pub turns : AreTurnsAt program segment.start segment.turns
  pub above : from ≤ segment.start
  pub below : segment.start ≤ cut
  pub back : from < cut → segment.start < cut
  pub whole : segment.turns ≡ None → segment.start ≡ from

-- such parts of a way back to the start, one behind the other, from a place back to another
abbrev pub AreSegments : {A : Type 0} → KeptProgram → ℕ → ℕ → List (Segment A) → Type 0
AreSegments program from cut [] = cut ≡ from
AreSegments program from cut (segment ∷ segments) = IsSegment program 0 cut segment × AreSegments program from segment.start segments

-- the text of the end of all steps, turns before that, and parts before them; `known` records are enough for these
pub record AreWhole {A : Type 0} (program : KeptProgram) (to known : ℕ) (whole : Whole A) : Type 0 where
  pub segments : AreSegments program 0 whole.cut whole.segments.items
  pub turns : AreTurnsAt program whole.cut whole.turns
  pub below : turns_end whole.cut whole.turns ≤ to
  pub text : whole.end ≡ text_between program.listing (turns_end whole.cut whole.turns) to
  pub enough : records_before program.listing whole.cut ≤ known
