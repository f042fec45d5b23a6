use Rattle.std.proofs.Common.{List, ℕ, inl, sym, subst}
use Rattle.std.specs.List.Sorted.{IsStrictlyIncreasing}
use Rattle.dem_text.specs.Predictions.{IsPrediction}
use Rattle.engine.proofs.predicting.serve_listed.Goals as goal

pub predict-requires : goal.predict-requires
predict-requires g c = subst IsStrictlyIncreasing (sym c.numbers_in.ensures) c.requires

pub returns : goal.returns
returns g c lines read =
    let predicted = c.in_ok-found.ensures.found in
    inl (record {
      text = predicted.text;
      handed_out = predicted.handed_out;
      end = c.in_ok-found.ensures.end;
      count = c.in_ok-found.ensures.count;
      answered = c.write_prediction.ensures lines predicted.text read (subst (λ (ns : List ℕ). IsPrediction ns predicted.text c.in_ok-found.found) c.numbers_in.ensures predicted.is);
    })
