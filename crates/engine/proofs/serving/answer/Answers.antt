-- Each order is answered by its own call, which says what the order promises.
use Rattle.std.proofs.Common.{sym, subst}
use Rattle.std.proofs.lemmas.Result.{IfOk-weaker}
use Rattle.step_model.specs.declared.order.Order.{Order}
use Rattle.engine.specs.Output.{output_of}
use Rattle.engine.specs.private.Answered.{Answers}
use Rattle.engine.proofs.ServingLemmas.{only_answered}
use Rattle.engine.proofs.serving.answer.Goals as goal

pub returns-in-Analyze : goal.returns-in-Analyze
returns-in-Analyze g c =
    record {
      answered =
          subst (λ (order : Order). Answers g.W.Sink.taken g.W.Sink.failures c.args.sink.now c.answer_analysis.new.sink (output_of order c.args.text.now) c.answer_analysis.result)
          (sym c.in-Analyze.is) c.answer_analysis.ensures.answered;
      exact = IfOk-weaker c.answer_analysis.result _ _ (λ status promised asked. promised) c.answer_analysis.ensures.exact;
      random = IfOk-weaker c.answer_analysis.result _ _ (λ status promised asked. promised) c.answer_analysis.ensures.random;
    }

pub returns-in-Run : goal.returns-in-Run
returns-in-Run g c = only_answered _ c.in-Run.is (λ same. cc) c.answer_run.ensures

pub returns-in-Faults : goal.returns-in-Faults
returns-in-Faults g c = only_answered _ c.in-Faults.is (λ same. cc) c.answer_faults.ensures

pub returns-in-Sample : goal.returns-in-Sample
returns-in-Sample g c = only_answered _ c.in-Sample.is (λ same. cc) c.answer_shots.ensures

pub returns-in-Detect : goal.returns-in-Detect
returns-in-Detect g c = only_answered _ c.in-Detect.is (λ same. cc) c.answer_shots-in-Detect.ensures
