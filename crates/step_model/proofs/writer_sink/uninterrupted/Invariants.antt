use Rattle.std.specs.Io.KnownBytes.{Keeps}
use Rattle.step_model.proofs.writer_sink.uninterrupted.Given as goal

-- the calls so far were interrupted: the writer has taken nothing
abbrev pub invariant-loop : goal.invariant-loop
invariant-loop g l = Keeps (g.W.Write.contents l.fn.writer) (g.W.Write.contents l.writer)
