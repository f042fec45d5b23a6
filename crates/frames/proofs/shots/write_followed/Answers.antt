use Rattle.std.proofs.Common.{length, ap, sym, subst, ◌∙◌}
use Rattle.std.proofs.lemmas.List.{length-replicate}
use Rattle.frames.specs.Sampled.{shots_text}
use Rattle.frames.specs.Shown.{shown_line}
use Rattle.frames.specs.private.ShownRuns.{DontShow}
use Rattle.frames.proofs.Beginnings.{no_memory_there}
use Rattle.frames.proofs.shots.write_followed.Goals as goal

pub coins_that_dont_count-passed-requires : goal.coins_that_dont_count-passed-requires
coins_that_dont_count-passed-requires g c = c.requires.follows

pub write_drawn-requires-clause-follows : goal.write_drawn-requires-clause-follows
write_drawn-requires-clause-follows g c = c.requires.follows

pub write_drawn-requires-clause-kind : goal.write_drawn-requires-clause-kind
write_drawn-requires-clause-kind g c = c.requires.kind

pub write_drawn-requires-clause-bounds : goal.write_drawn-requires-clause-bounds
write_drawn-requires-clause-bounds g c = c.in_ok-drawn.ensures.bounds

pub write_drawn-requires-clause-coins : goal.write_drawn-requires-clause-coins
write_drawn-requires-clause-coins g c = ap length c.in_ok-drawn.ensures.coins ∙ length-replicate c.args.program.now.listing.collapses 0

pub write_drawn-requires-clause-passed : goal.write_drawn-requires-clause-passed
write_drawn-requires-clause-passed g c =
    subst (DontShow c.args.shown c.args.program.now.listing) (sym c.in_ok-drawn.ensures.passed)
    (subst (λ kind. DontShow kind c.args.program.now.listing c.coins_that_dont_count-passed.result) c.requires.kind c.coins_that_dont_count-passed.ensures.coins)

pub returns-in_err-drawn : goal.returns-in_err-drawn
returns-in_err-drawn g c =
    no_memory_there g.W.Sink.taken g.W.Sink.failures (shots_text (shown_line c.args.shown) c.args.shots c.args.seed c.args.program.now.listing) c.args.sink.now
    c.from_residual.result _ c.in_err-drawn.ensures.err c.from_residual.ensures.1

pub returns : goal.returns
returns g c = c.write_drawn.ensures
