use Rattle.std.proofs.Common.{subst}
use Rattle.forward_sim.specs.References.{AreDecided}
use Rattle.frames.specs.Batches.{Followed}
use Rattle.frames.proofs.DecidedCoins.{decided_dont_count}
use Rattle.frames.proofs.batch.Batch.coins_that_dont_count.Goals as goal

pub returns-clause-coins : goal.returns-clause-coins
returns-clause-coins g c =
    let span = c.longest_decided.result in
    decided_dont_count c.args.program.now.listing c.args.self.now.reference.words span c.well_formed-2.ensures c.requires.reference.words
    (subst (λ (b : Followed). AreDecided span b.reference.words) c.self.view_is c.longest_decided.ensures.decided)
