use Rattle.std.proofs.Common.{◌≡◌, ◌-◌, ◌∷◌, ◌++◌, drop, ap, ◌∙◌, arith}
use Rattle.std.specs.Prelude.{decimal}
use Rattle.error_models.proofs.detector_end.DetectorEnd.new.Goals as goal

pub invariant_of-result : goal.invariant_of-result
invariant_of-result c =
    let start = c.number_before-start.result in
    let place : 16 - (16 - start) ≡ start = omega (arith, c.number_before-start.ensures.within, c.text_before-at.ensures.start) in
    record {
      written =
          record {
            within = omega arith;
            text =
                ap (λ n. drop n c.number_before-start.new.buffer) place
                ∙ c.number_before-start.ensures.written
                ∙ ap (λ l. 32 ∷ 68 ∷ (decimal c.args.detector ++ l)) c.text_before-at.ensures.written;
          };
    }
