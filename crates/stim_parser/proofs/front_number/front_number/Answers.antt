use Rattle.std.proofs.Common.{ap, sym, ◌∙◌}
use Rattle.stim_parser.specs.Pieces.{ends_here}
use Rattle.stim_parser.proofs.FrontNumberLemmas.{front-near, front-piece, rest-all}
use Rattle.stim_parser.proofs.front_number.front_number.Goals as goal

pub returns-clause-number : goal.returns-clause-number
returns-clause-number c =
    let front = c.short_front-value in
    rw (rest-all c.args.text.now front.result.1)
    (front-piece c.args.text.now front.result.1 front.result.0 c.if-len-eq0.false front.ensures.within front.ensures.short front.ensures.value front.ensures.digits
    (ap ends_here (sym (rest-all c.args.text.now front.result.1)) ∙ (sym c.ends_here.ensures ∙ c.if-not-ends_here.false)))

pub returns-clause-near : goal.returns-clause-near
returns-clause-near c =
    let front = c.short_front-value in front-near c.args.text.now front.result.1 front.result.0 front.ensures.short front.ensures.value front.ensures.digits
