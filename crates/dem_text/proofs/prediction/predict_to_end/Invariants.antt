use Rattle.std.proofs.Common.{◌≡◌, ◌<◌, ◌^◌}
use Rattle.step_model.specs.Endless.{HandsOutMany}
use Rattle.dem_text.specs.private.Gathering.{IsGathered}
use Rattle.dem_text.specs.private.Making.{IsReady}
use Rattle.dem_text.proofs.prediction.predict_to_end.Given as goal

abbrev pub invariant-loop : goal.invariant-loop
invariant-loop g l = record {
  gathered : IsGathered l.fn.numbers (g.S.Source.left l.fn.source) (g.S.Source.left l.source) l.gathering;
  calls : HandsOutMany l.counter (g.S.Source.left l.fn.source) (g.S.Source.left l.source);
  same_count : g.S.Source.failures l.source ≡ g.S.Source.failures l.fn.source;
  ready : IsReady l.gathering.front;
  few : l.gathering.front.read < 2 ^ 62;
}
