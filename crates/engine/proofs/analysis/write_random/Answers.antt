use Rattle.std.proofs.Common.{sym, subst, ◌∙◌}
use Rattle.engine.specs.private.Answered.{Answers}
use Rattle.engine.specs.Headline.{IsRandomIn}
use Rattle.engine.proofs.FindingLemmas.{target_goes_out, random_in, told_random}
use Rattle.engine.proofs.analysis.write_random.Goals as goal

pub returns-clause-answered : goal.returns-clause-answered
returns-clause-answered g c =
    subst (λ output. Answers g.W.Sink.taken g.W.Sink.failures c.args.sink.now c.write_answer.new.sink output c.write_answer.result)
    (target_goes_out c.args.program.now.listing c.args.which c.args.place c.as_slice.result.now c.requires (c.as_slice.ensures.value ∙ c.in_ok-lines.ensures.ok))
    c.write_answer.ensures

pub returns-clause-random : goal.returns-clause-random
returns-clause-random g c =
    told_random c.args.program.now.listing c.write_answer.ensures
    (subst (IsRandomIn c.args.program.now.listing) (sym (c.as_slice.ensures.value ∙ c.in_ok-lines.ensures.ok)) (random_in c.args.program.now.listing c.args.which c.args.place c.well_formed-2.ensures c.requires))
