use Rattle.std.proofs.Common.{◌≡◌, ◌-◌, ◌≤◌}
use Rattle.step_model.specs.Pushed.{Pushes}
use Rattle.frames.specs.Sampled.{lines_from, shot_generator}
use Rattle.frames.specs.Shown.{shown_line}
use Rattle.frames.specs.private.ShownRuns.{FitTogether}
use Rattle.frames.proofs.batches.push_shots.Given as goal

-- the lines of the shots so far were pushed, and the generator stands at the next one
abbrev pub invariant-loop-left : goal.invariant-loop-left
invariant-loop-left g l =
    let program = l.fn.runs.program in
    record {
      within : l.left ≤ l.shots;
      same : l.runs.program ≡ program;
      shown : l.runs.shown ≡ l.fn.runs.shown;
      fit : FitTogether l.drawn l.runs l.room;
      lines : Pushes g.W.Sink.taken g.W.Sink.failures l.fn.sink l.sink l.fn.out l.out (lines_from (shown_line l.fn.runs.shown) program (l.shots - l.left) l.fn.rng);
      taken : l.rng ≡ shot_generator program l.fn.rng (l.shots - l.left);
    }

abbrev pub decreases-loop-left : goal.decreases-loop-left
decreases-loop-left g l = l.left
