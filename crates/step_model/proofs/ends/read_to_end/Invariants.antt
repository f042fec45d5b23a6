use Rattle.std.proofs.Common.{◌≡◌}
use Rattle.step_model.specs.Ends.{HandsOut}
use Rattle.step_model.specs.Endless.{HandsOutMany}
use Rattle.step_model.proofs.ends.read_to_end.Given as goal

-- the bytes so far are those handed out so far, each call handed out one at least, and none failed
abbrev pub invariant-loop : goal.invariant-loop
invariant-loop g l = record {
  so_far : HandsOut (g.S.Source.left l.fn.source) (g.S.Source.left l.source) l.bytes.items;
  calls : HandsOutMany l.counter (g.S.Source.left l.fn.source) (g.S.Source.left l.source);
  same_count : g.S.Source.failures l.source ≡ g.S.Source.failures l.fn.source;
}
