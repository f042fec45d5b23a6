use Rattle.std.proofs.Common.{◌++◌, ◌∷◌, ap, ◌∙◌, arith}
use Rattle.std.specs.Prelude.{codes}
use Rattle.std.specs.Fmt.{decimal}
use Rattle.std.proofs.lemmas.List.{drop_all}
use Rattle.error_models.specs.ModelText.{coordinates_text}
use Rattle.error_models.proofs.ShortLineLemmas.{detector_parts}
use Rattle.error_models.proofs.short_detectors.detector_before.Goals as goal

pub returns-clause-written : goal.returns-clause-written
returns-clause-written c =
    let coordinates = coordinates_text c.args.coordinates.now in
    let number = decimal c.args.detector in
    c.text_before.ensures.written
    ∙ ap (λ l. codes "detector" ++ l) (c.coordinates_before-at.ensures.written
    ∙ (ap (λ l. coordinates ++ l) (c.number_before-at.ensures.written
    ∙ ap (λ l. 32 ∷ 68 ∷ (number ++ l)) (c.text_before-at.ensures.written
    ∙ ap (λ l. 10 ∷ l) (drop_all 256 c.args.buffer.now (omega (arith, c.requires.room)))))
    ∙ detector_parts coordinates number))
