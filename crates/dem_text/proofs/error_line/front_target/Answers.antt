use Rattle.std.proofs.Common.{◌∙◌, ◌∷◌, ap, refl, arith}
use Rattle.dem_text.proofs.CountedLemmas.{detector_read, observable_read, separator-front, target-front}
use Rattle.dem_text.proofs.error_line.front_target.Goals as goal

pub returns-in-Some-clause-front : goal.returns-in-Some-clause-front
returns-in-Some-clause-front c =
    target-front _ _ _ 68 c.in_ok-number.number _ (c.in_ok-inside.ensures.text ∙ ap (λ inside. 32 ∷ inside) c.in-Some.ensures.text)
    c.in_ok-number.ensures.front (omega (arith, c.in_ok-number.ensures.few)) c.in_ok-number.ensures.less refl refl (λ digits. detector_read digits c.in_ok-number.number)

pub returns-in-Some-behind_byte-clause-front : goal.returns-in-Some-behind_byte-clause-front
returns-in-Some-behind_byte-clause-front c =
    target-front _ _ _ 76 c.in_ok-number-2.number _ (c.in_ok-inside.ensures.text ∙ ap (λ inside. 32 ∷ inside) c.in-Some-behind_byte.ensures.text)
    c.in_ok-number-2.ensures.front (omega (arith, c.in_ok-number-2.ensures.few)) c.in_ok-number-2.ensures.less refl refl (λ digits. observable_read digits c.in_ok-number-2.number)

pub returns-clause-front : goal.returns-clause-front
returns-clause-front c = separator-front _ _ _ c.in_ok-inside.ensures.text c.in_ok-rest.ensures.text
