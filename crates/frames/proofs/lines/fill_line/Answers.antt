-- Word by word.
use Rattle.std.proofs.Common.{◌≡◌, length, length-set, refl, ap, ◌∙◌, arith}
use Rattle.frames.specs.Lines.{digit_of}
use Rattle.frames.proofs.LineLemmas.{digits_more, line_ended}
use Rattle.frames.proofs.lines.fill_line.Goals as goal

pub loop-index-init : goal.loop-index-init
loop-index-init c = record { room = c.requires.room; digits = refl }

pub loop-index-preserved : goal.loop-index-preserved
loop-index-preserved c =
    record {
      room = length-set _ _ _ ∙ c.loop-index.invariant.room;
      digits = digits_more c.args.shot c.args.octets.now c.loop-index.line c.loop-index.index c.digit.result c.loop-index-test.true
          (omega (arith, c.loop-index.invariant.room, c.loop-index-test.true)) (c.digit.ensures ∙ ap digit_of c.is_set.ensures) c.loop-index.invariant.digits;
    }

pub returns : goal.returns
returns c =
    let all : c.loop-index.index ≡ length c.args.octets.now = omega arith in
    line_ended c.args.shot c.args.octets.now c.loop-index.line c.loop-index.index all c.loop-index.invariant.room c.loop-index.invariant.digits
