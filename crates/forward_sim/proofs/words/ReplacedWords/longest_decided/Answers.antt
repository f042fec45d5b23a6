use Rattle.std.proofs.Common.{arith, subst}
use Rattle.step_model.specs.Frames.{zero_coins}
use Rattle.step_model.specs.Runs.{start}
use Rattle.forward_sim.specs.References.{AreWordsOf, Kept}
use Rattle.forward_sim.specs.private.Said.{words_of}
use Rattle.forward_sim.proofs.WordsSaid.{length-entries}
use Rattle.forward_sim.proofs.words.ReplacedWords.longest_decided.Goals as goal

pub returns-in-Kept-clause-within : goal.returns-in-Kept-clause-within
returns-in-Kept-clause-within g c =
    let program = c.args.program.now.listing in
    let kept : AreWordsOf program (Kept c.in-Kept.kept.replaced) = subst (λ words. AreWordsOf program (words_of words)) c.in-Kept.is c.requires in
    let count = length-entries program program.steps (start (zero_coins program)) c.in-Kept.kept.replaced kept in
    omega (arith, count, c.longest_decided.ensures.within, c.well_formed-2.ensures.collapses_counted)
