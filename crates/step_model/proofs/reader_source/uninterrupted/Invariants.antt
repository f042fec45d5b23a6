use Rattle.std.specs.Io.KnownBytes.{Keeps}
use Rattle.step_model.proofs.reader_source.uninterrupted.Given as goal

-- the calls so far were interrupted: the reader has lost no byte
abbrev pub invariant-loop : goal.invariant-loop
invariant-loop g l = Keeps (g.R.Read.remaining l.fn.reader) (g.R.Read.remaining l.reader)
