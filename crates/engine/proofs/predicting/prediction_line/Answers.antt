use Rattle.std.proofs.Common.{not, Ok, inr, sym, ap, ◌∙◌}
use Rattle.frames.specs.Lines.{line_of}
use Rattle.engine.specs.Output.{done}
use Rattle.engine.proofs.PredictedLemmas.{no_line, no_list, predicted, refused}
use Rattle.engine.proofs.predicting.prediction_line.Goals as goal

pub returns-in-Refused-clause-err : goal.returns-in-Refused-clause-err
returns-in-Refused-clause-err g c lines text read has = inr (refused lines text _ (rw c.in-Refused.is at has))

pub returns-in-NoSuchLine-clause-err : goal.returns-in-NoSuchLine-clause-err
returns-in-NoSuchLine-clause-err g c lines text read has = inr (no_line lines text c.args.listed read (rw c.in-NoSuchLine.is at has))

pub returns-then-is_none-clause-err : goal.returns-then-is_none-clause-err
returns-then-is_none-clause-err g c lines text read has =
    inr (no_list lines text c.args.listed _ read (c.is_none.ensures ∙ ap not c.if-is_none.true) (rw c.in-Symptom.is at has))

pub returns-in_ok-symptom_line-in-Symptom-clause-ok : goal.returns-in_ok-symptom_line-in-Symptom-clause-ok
returns-in_ok-symptom_line-in-Symptom-clause-ok g c lines text read has =
    predicted lines text c.args.listed _ read (c.is_none.ensures ∙ ap not c.if-is_none.false) (rw c.in-Symptom.is at has)
    ∙ ap (λ bytes. Ok (done bytes)) (ap line_of (sym c.as_slice.ensures.value) ∙ sym c.in_ok-symptom_line-in-Symptom.ensures)
