use Rattle.std.proofs.Common.{◌+◌, ◌∙◌, false, replicate, sym, ap, ap₂, arith}
use Rattle.dem_text.specs.private.Turned.{turned_by}
use Rattle.dem_text.proofs.SumLemmas.{past_either, symptom-turned, turned_by-done}
use Rattle.dem_text.proofs.flips.symptom.Goals as goal

pub loop-line-init : goal.loop-line-init
loop-line-init g c =
    let model = c.args.model.now in
    ap (λ bits. turned_by bits c.args.named.now model.lines)
    (c.in_ok-bits.ensures ∙ ap₂ (λ d o. replicate (d + o) false) c.detector_count.ensures.count c.observable_count.ensures)
    ∙ symptom-turned model c.args.named.now

pub returns-clause-ok : goal.returns-clause-ok
returns-clause-ok g c =
    sym (turned_by-done c.loop-line.bits.items c.args.named.now c.args.model.now.lines c.loop-line.line
    (past_either _ _ c.loop-line.line (omega (arith, c.min-line-end.ensures, c.line_count.ensures, c.loop-line-test.false))))
    ∙ c.loop-line.invariant
