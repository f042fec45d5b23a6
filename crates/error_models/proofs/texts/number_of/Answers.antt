use Rattle.std.proofs.Common.{◌≡◌, ◌++◌, ◌∷◌, [], length, ap, ◌∙◌, arith}
use Rattle.error_models.specs.ErrorLines.{text_at}
use Rattle.error_models.proofs.ErrorLineLemmas.{keeps_pushed, last_text}
use Rattle.error_models.proofs.texts.number_of.Goals as goal

pub returns-clause-kept : goal.returns-clause-kept
returns-clause-kept g c =
    let new = c.args.text.now in
    let pushed = c.in_ok-push.ensures.items ∙ ap (λ t. c.args.texts.now.items ++ t ∷ []) c.new.ensures in
    keeps_pushed c.args.texts.now.items c.push.new.self.items new pushed

pub returns-clause-named : goal.returns-clause-named
returns-clause-named g c =
    let new = c.args.text.now in
    let pushed = c.in_ok-push.ensures.items ∙ ap (λ t. c.args.texts.now.items ++ t ∷ []) c.new.ensures in
    let texts = c.args.texts.now.items in
    let count : c.len-count.result ≡ length texts = omega (arith, c.len-count.ensures, c.args.texts.now.ok.0) in
    ap (λ all. text_at all c.len-count.result) pushed ∙ (ap (text_at (texts ++ new ∷ [])) count ∙ last_text texts new)
