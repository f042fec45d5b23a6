use Rattle.std.proofs.Common.{inl, inr, refl, ap, sym, subst}
use Rattle.std.specs.Prelude.{IfNone}
use Rattle.std.proofs.lemmas.Result.{err_from_is_err_and}
use Rattle.error_models.specs.ModelText.{model_text}
use Rattle.step_model.specs.HitModels.{model_of}
use Rattle.step_model.specs.Ends.{Takes, TakesSome}
use Rattle.step_model.proofs.EndsLemmas.{TakesSome-none}
use Rattle.backward.specs.Places.{NoneIsRandom}
use Rattle.engine.specs.Output.{Output, found_in}
use Rattle.engine.proofs.FindingLemmas.{found_none, exact_in}
use Rattle.engine.proofs.analysis.write_finding.Goals as goal

pub returns-in-None-clause-answered : goal.returns-in-None-clause-answered
returns-in-None-clause-answered g c =
    let program = c.args.program.now.listing in
    let taken = g.W.Sink.taken in
    let none = subst (λ o. IfNone o (NoneIsRandom program)) c.in-None.is c.in_ok-write_analysis.ensures.none in
    let written = subst (λ o. IfNone o (Takes (taken c.args.sink.now) (taken c.write_analysis.new.sink) (model_text (model_of program)))) c.in-None.is c.in_ok-write_analysis.ensures.written in
    rw (found_none program none)
    (record { written = written; status = refl; fault = tt; writes = c.in_ok-write_analysis.ensures.writes; beginning = tt })

pub returns-in-None-clause-exact : goal.returns-in-None-clause-exact
returns-in-None-clause-exact g c =
    let program = c.args.program.now.listing in
    let old = g.W.Sink.taken c.args.sink.now in
    let new = g.W.Sink.taken c.write_analysis.new.sink in
    let none = subst (λ o. IfNone o (NoneIsRandom program)) c.in-None.is c.in_ok-write_analysis.ensures.none in
    let written = subst (λ o. IfNone o (Takes old new (model_text (model_of program)))) c.in-None.is c.in_ok-write_analysis.ensures.written in
    λ done. (model_text (model_of program), written, exact_in program c.well_formed-2.ensures none)

pub returns-in_err-write_analysis-clause-answered : goal.returns-in_err-write_analysis-clause-answered
returns-in_err-write_analysis-clause-answered g c =
    let program = c.args.program.now.listing in
    let old = g.W.Sink.taken c.args.sink.now in
    let new = g.W.Sink.taken c.write_analysis.new.sink in
    let failed = err_from_is_err_and c.from_residual-in_err-write_analysis.result c.from_residual-in_err-write_analysis.ensures.1 in
    rw (failed.1, failed.2)
    (record {
      written = tt;
      status = tt;
      fault = c.in_err-write_analysis.ensures.fault;
      writes = c.in_err-write_analysis.ensures.writes;
      beginning =
          elim c.in_err-write_analysis.ensures.beginning as (λ _. TakesSome old new (found_in program).bytes) [
            | inl same ↦ TakesSome-none old new (found_in program).bytes (ap g.W.Sink.taken same)
            | inr some ↦ subst (λ (output : Output). TakesSome old new output.bytes) (sym (found_none program some.0)) some.1
          ];
    })
