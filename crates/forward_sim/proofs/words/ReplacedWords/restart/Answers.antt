-- A run that goes along starts anew.
use Rattle.forward_sim.proofs.WordsSaid.{along_at_start}
use Rattle.forward_sim.proofs.words.ReplacedWords.restart.Goals as goal

pub returns-in-Walked-clause-stand : goal.returns-in-Walked-clause-stand
returns-in-Walked-clause-stand g c =
    along_at_start c.args.program.now.listing c.in-Walked.walk c.restart.new.self c.well_formed-2.ensures
    (rw c.in-Walked.is at c.requires) c.restart.ensures.qubits c.restart.ensures.room c.restart.ensures.run
