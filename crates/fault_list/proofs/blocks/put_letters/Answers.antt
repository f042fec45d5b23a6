-- Each letter is put behind those before it.
use Rattle.std.proofs.Common.{◌<◌, ◌+◌, ◌++◌, length, ap, ◌∙◌, arith}
use Rattle.fault_list.proofs.BlockLemmas.{letter_of, factor_text_of, starred_before}
use Rattle.fault_list.proofs.blocks.put_letters.Goals as goal

pub loop-at-preserved : goal.loop-at-preserved
loop-at-preserved c =
    let letters = c.args.letters.now in
    let from = c.args.from in
    let at = c.loop-at.at in
    let below : at < length letters = c.loop-at-test.true in
    record {
      within = omega (arith, c.loop-at.invariant.within, c.put_letter-end.ensures.within);
      written =
          c.put_letter-end.ensures.written
          ∙ (ap (λ l. l ++ factor_text_of (from + at) (letter_of letters at)) c.loop-at.invariant.written
          ∙ starred_before from at letters below);
    }
