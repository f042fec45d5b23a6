use Rattle.std.proofs.Common.{◌≡◌, ◌++◌, ◌∷◌, List, [], length, ap, ◌∙◌, arith}
use Rattle.step_model.specs.declared.chances.ChanceText.{ChanceText}
use Rattle.step_model.specs.Chances.{chance_at}
use Rattle.step_model.proofs.ChanceLaws.{keeps_pushed, last_chance}
use Rattle.step_model.proofs.chances.number_of.Goals as goal

pub returns-clause-kept : goal.returns-clause-kept
returns-clause-kept g c = keeps_pushed c.args.texts.now.items c.push.new.self.items _ c.in_ok-push.ensures.items

pub returns-clause-named : goal.returns-clause-named
returns-clause-named g c =
    let parts = c.args.texts.now.items in
    let part : ChanceText = record { text = c.args.text; bound = c.args.bound } in
    let count : c.len-count.result ≡ length parts = omega (arith, c.len-count.ensures, c.args.texts.now.ok.0) in
    ap (λ (all : List ChanceText). chance_at all c.len-count.result) c.in_ok-push.ensures.items
    ∙ (ap (chance_at (parts ++ part ∷ [])) count ∙ last_chance parts part)
