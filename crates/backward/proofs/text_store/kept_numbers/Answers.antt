use Rattle.std.proofs.Common.{◌∷◌, [], length, ap, subst, sym, ◌∙◌, arith, length-append}
use Rattle.step_model.specs.Chances.{Chance}
use Rattle.step_model.proofs.ChanceLaws.{chance_at-get_or}
use Rattle.backward.specs.private.Numbered.{AreNumbers}
use Rattle.backward.proofs.NumberedLemmas.{numbers_kept, numbers_more}
use Rattle.backward.proofs.text_store.kept_numbers.Goals as goal

pub loop-chance-preserved : goal.loop-chance-preserved
loop-chance-preserved g c =
    let chances = c.args.chances.now in
    let was = c.loop-chance.numbers.items in
    let texts = c.keep_text.new.self.texts in
    let i = c.loop-chance.chance-index in
    let held = c.loop-chance.invariant in
    let kept = numbers_kept chances c.loop-chance.text.texts texts was c.keep_text.ensures.kept held.numbered in
    let more = numbers_more chances texts was c.in_ok-number.number i kept held.counted c.in_ok-number.ensures.within (c.in_ok-number.ensures.named ∙ sym (ap (λ (p : Chance). p.text) (chance_at-get_or chances i _ (omega arith)))) in
    record {
      counted = omega (arith, ap length c.in_ok-push.ensures.items, length-append was (c.in_ok-number.number ∷ []), held.counted);
      numbered = subst (AreNumbers chances texts) (sym c.in_ok-push.ensures.items) more;
      detectors = c.keep_text.ensures.detectors ∙ held.detectors;
      targets = c.keep_text.ensures.targets ∙ held.targets;
      text = c.keep_text.ensures.text ∙ held.text;
    }
