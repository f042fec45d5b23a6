use Rattle.std.proofs.Common.{◌++◌, drop, ap, sym, ◌∙◌, append_assoc}
use Rattle.std.specs.Prelude.{codes, decimal}
use Rattle.error_models.specs.ModelText.{coordinates_text, detector_text}
use Rattle.error_models.specs.private.DetectorEnds.{end_text}
use Rattle.error_models.proofs.ShortLineLemmas.{detector_parts}
use Rattle.error_models.proofs.detector_lines.DetectorLines.put.Goals as goal

pub returns-clause-text : goal.returns-clause-text
returns-clause-text c =
    let coordinates = coordinates_text c.args.coordinates.now in
    let end = end_text c.args.detector in
    let rest = drop c.self.inside.start c.self.inside.buffer in
    c.text_before-self-inside.ensures.written
    ∙ ap (λ l. codes "detector" ++ l) (c.coordinates_before-at.ensures.written
    ∙ ap (λ l. coordinates ++ l) c.before-at.ensures.written
    ∙ sym (append_assoc coordinates end rest)
    ∙ ap (λ l. l ++ rest) (detector_parts coordinates (decimal c.args.detector)))
    ∙ ap (λ b. detector_text c.args.detector c.args.coordinates.now ++ b.text) c.self.view_is
