-- The line of a drawn shot, by what is shown of it.
-- (This project's own.)
use Rattle.std.specs.Prelude.{List, ℕ}
use Rattle.rand_pcg.specs.Lcg.{Lcg}
use Rattle.step_model.specs.Listing.{Listing}
use Rattle.frames.specs.declared.side_runs.Shown.{Shown}
use Rattle.frames.specs.declared.side_runs.Shown.TheVariants.{Records, Detections}
use Rattle.frames.specs.Sampled.{detection_line, record_line}

abbrev pub shown_line : Shown → Listing → Lcg → List ℕ
shown_line Records = record_line
shown_line Detections = detection_line
