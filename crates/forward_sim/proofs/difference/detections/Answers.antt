-- Behind all declarations the answers are the difference of the two runs.
use Rattle.forward_sim.proofs.AnswerLemmas.{all_answered}
use Rattle.forward_sim.proofs.difference.detections.Goals as goal

pub returns-clause-ok : goal.returns-clause-ok
returns-clause-ok g c =
    let taken = c.take_declarations.ensures in
    all_answered c.args.program.now.listing c.args.records.now c.args.reference.now taken.0 c.take_declarations.new.taker.answers.items taken.1 taken.2.answered
