-- The collapse ends as it has to.
use Rattle.forward_sim.proofs.ReferenceSteps.{letter_ends}
use Rattle.forward_sim.proofs.steps.collapse.Goals as goal

pub returns : goal.returns
returns g c =
    letter_ends c.args.machine.now c.measure_letter-seen.new.machine c.end_collapse.new.machine c.args.letter c.args.qubit c.args.reset c.args.rec c.args.changes c.measure_letter-seen.result
    c.measure_letter-seen.ensures.run c.measure_letter-seen.ensures.outcome c.end_collapse.ensures
