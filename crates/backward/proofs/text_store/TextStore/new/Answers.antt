use Rattle.std.proofs.Common.{ap, length, subst, ◌∙◌}
use Rattle.backward.specs.private.Numbered.{AreNumbers}
use Rattle.backward.proofs.text_store.TextStore.new.Goals as goal

pub invariant_of-result : goal.invariant_of-result
invariant_of-result g c =
    record {
      fits =
          record {
            counted = c.in_ok-numbers.ensures.counted ∙ ap length c.chances.ensures;
            numbered = subst (λ chances. AreNumbers chances c.kept_numbers.new.text.texts c.in_ok-numbers.numbers.items) c.chances.ensures c.in_ok-numbers.ensures.numbers;
            detectors = c.kept_numbers.ensures.detectors ∙ (ap (λ held. held.detectors) c.in_ok-text.ensures ∙ c.detector_count.ensures);
            targets = c.kept_numbers.ensures.targets ∙ (ap (λ held. held.targets) c.in_ok-text.ensures ∙ c.target_count.ensures.count);
          };
    }
