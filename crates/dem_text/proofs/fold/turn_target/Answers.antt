use Rattle.std.proofs.Common.{ap, sym, ◌∙◌, arith}
use Rattle.dem_text.specs.Meanings.{numbered}
use Rattle.dem_text.specs.Shifts.{shifted_target}
use Rattle.dem_text.specs.private.Tables.{most_detectors}
use Rattle.dem_text.specs.private.Turned.{turned}
use Rattle.dem_text.proofs.SumLemmas.{turned_at-past}
use Rattle.dem_text.proofs.fold.turn_target.Goals as goal

pub returns-else-shift-len : goal.returns-else-shift-len
returns-else-shift-len g c =
    turned_at-past c.args.bits.now _ (omega (arith, c.if-shift-len.false, c.len.ensures))
    ∙ sym (ap (λ target. turned c.args.bits.now (numbered most_detectors (shifted_target c.args.shift target))) c.in-Detector.is)
