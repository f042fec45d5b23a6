use Rattle.std.proofs.Common.{◌≡◌, ◌+◌, ◌-◌, take, drop, ap, sym, ◌∙◌, arith}
use Rattle.std.specs.List.{list_any}
use Rattle.stim_lexer.specs.private.Special.{is_rare}
use Rattle.stim_lexer.proofs.PlainLemmas.{plain_longer}
use Rattle.stim_lexer.proofs.scan.plain_front.Goals as goal

pub loop-front-preserved : goal.loop-front-preserved
loop-front-preserved c =
    let front = c.loop-front.front in
    let long : (front + 64) - front ≡ 64 = omega arith in
    plain_longer front 64 c.args.text.now c.loop-front.invariant c.if-front-text.true
    (ap (λ k. list_any is_rare (take k (drop front c.args.text.now))) (sym long) ∙ (sym c.any_rare.ensures ∙ c.if-not-any_rare.true))
