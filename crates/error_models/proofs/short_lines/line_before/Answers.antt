use Rattle.std.proofs.Common.{◌++◌, drop, ap, ◌∙◌}
use Rattle.std.specs.Prelude.{codes}
use Rattle.error_models.specs.ModelText.{targets_text}
use Rattle.error_models.proofs.ShortLineLemmas.{line_parts}
use Rattle.error_models.proofs.short_lines.line_before.Goals as goal

pub returns-clause-written : goal.returns-clause-written
returns-clause-written c =
    let head = codes "error(" ++ c.args.text.now ++ codes ")" in
    let targets = targets_text c.args.detectors c.args.targets.now in
    c.head_before.ensures.written
    ∙ (ap (λ l. head ++ l) (c.targets_before-at.ensures.written
    ∙ ap (λ l. targets ++ l) c.text_before-at.ensures.written)
    ∙ line_parts head targets (drop c.args.end c.args.buffer.now))
