use Rattle.std.proofs.Common.{◌≡◌, ◌+◌, ◌-◌, ◌<◌, length, ap, refl, sym, subst, ◌∙◌, arith}
use Rattle.error_models.specs.ModelText.{target_text}
use Rattle.error_models.specs.private.TargetNames.{AreNames}
use Rattle.error_models.proofs.ErrorLineLemmas.{length-one_more}
use Rattle.error_models.proofs.NameLemmas.{name_read, texts_pushed}
use Rattle.error_models.proofs.names.Names.new.Goals as goal
use Rattle.error_models.proofs.names.Names.new.Goals.{then-target-eq0, else-target-eq0}

pub next-name-requires-clause-before : goal.next-name-requires-clause-before
next-name-requires-clause-before g c =
    let names = c.loop-target.names.items in
    let within : c.loop-target.target - 1 < length names = omega (arith, c.loop-target.invariant.counted, c.if-target-eq0.false) in
    name_read names names c.index.result.now c.index.result.now (c.loop-target.target - 1) c.index.ensures refl within ∙ c.loop-target.invariant.named (c.loop-target.target - 1) within

pub loop-target-preserved : goal.loop-target-preserved
loop-target-preserved g c =
    let text = target_text c.args.detectors in
    let names = c.loop-target.names.items in
    let pushed = c.push_reserved.ensures.items in
    let counted = c.loop-target.invariant.counted in
    let name = c.if-target-eq0.name in
    let is : name ≡ text c.loop-target.target = elim c.if-target-eq0.branch as (λ _. name ≡ text c.loop-target.target) [
      | then-target-eq0 w ↦ w.name-is ∙ w.new-name.ensures
      | else-target-eq0 w ↦ w.name-is ∙ w.next-name.ensures
    ] in
    record {
      named = subst (AreNames c.args.detectors) (sym pushed) (texts_pushed text names name c.loop-target.invariant.named (is ∙ ap text (sym counted)));
      counted = ap length pushed ∙ (length-one_more names name ∙ ap (λ n. n + 1) counted);
      room = c.push_reserved.ensures.capacity ∙ c.loop-target.invariant.room;
    }
