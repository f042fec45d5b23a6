-- The runs are the program's, so the lines that go out are its.
use Rattle.std.proofs.Common.{ap₂, ◌∙◌}
use Rattle.frames.specs.Sampled.{shots_text}
use Rattle.frames.specs.Shown.{shown_line}
use Rattle.frames.proofs.Beginnings.{no_memory, written_by}
use Rattle.frames.proofs.shots.write_drawn.Goals as goal

pub returns-in_err-words : goal.returns-in_err-words
returns-in_err-words g c =
    no_memory g.W.Sink.taken g.W.Sink.failures (shots_text (shown_line c.args.shown) c.args.shots c.args.seed c.args.program.now.listing) c.args.sink.now
    c.from_residual.result c.from_residual.ensures.1

pub returns-in_err-room : goal.returns-in_err-room
returns-in_err-room g c =
    no_memory g.W.Sink.taken g.W.Sink.failures (shots_text (shown_line c.args.shown) c.args.shots c.args.seed c.args.program.now.listing) c.args.sink.now
    c.from_residual-in_err-room.result c.from_residual-in_err-room.ensures.1

pub returns : goal.returns
returns g c =
    written_by g.W.Sink.taken g.W.Sink.failures (shots_text (shown_line c.args.shown) c.args.shots c.args.seed c.args.program.now.listing) c.args.sink.now
    c.write_batches.new.sink c.write_batches.result _
    (ap₂ (λ shown program. shots_text (shown_line shown) c.args.shots c.args.seed program) (c.new-runs.ensures.shown ∙ c.requires.kind) c.new-runs.ensures.program)
    c.write_batches.ensures.all c.write_batches.ensures.fault c.write_batches.ensures.beginning c.write_batches.ensures.count
