-- The last run is one longer, or it is kept and another begins.
use Rattle.std.proofs.Common.{◌++◌, ◌∷◌, [], ap, ◌∙◌}
use Rattle.forward_sim.specs.private.BoundRuns.{bounds_in}
use Rattle.forward_sim.proofs.RunLemmas.{run_more, count_one}
use Rattle.forward_sim.proofs.runs.count_fault.Goals as goal

pub returns-then-last-lt-LONGEST : goal.returns-then-last-lt-LONGEST
returns-then-last-lt-LONGEST g c = count_one (bounds_in c.args.runs.now.items) c.args.last.now c.args.bound c.if-bound-last.true

pub returns : goal.returns
returns g c =
    ap (λ bs. bs ++ c.args.bound ∷ [])
    (ap bounds_in c.in_ok-push.ensures.items ∙ run_more c.args.runs.now.items c.args.last.now)
