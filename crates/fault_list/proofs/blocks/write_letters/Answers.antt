-- Each block goes out after those before it.
use Rattle.std.proofs.Common.{◌≡◌, ◌+◌, ◌-◌, ◌++◌, take, drop, ap, ◌∙◌, arith}
use Rattle.std.specs.Prelude.{◌&&◌}
use Rattle.step_model.proofs.Pushing.{Pushes-trans}
use Rattle.fault_list.specs.private.FactorTexts.{is_none, joined_on, letter_factors}
use Rattle.fault_list.proofs.BlockLemmas.{letter_factors-take}
use Rattle.fault_list.proofs.FactorTextLemmas.{joined_on-append, none-append}
use Rattle.fault_list.proofs.blocks.write_letters.Goals as goal

pub loop-done-preserved : goal.loop-done-preserved
loop-done-preserved g c =
    let letters = c.args.letters.now in
    let from = c.args.from in
    let first = c.args.first in
    let done = c.loop-done.done in
    let some = c.min.result in
    let fs = letter_factors from (take done letters) in
    let gs = letter_factors (from + done) (take some (drop done letters)) in
    let count : done + some - done ≡ some = omega arith in
    let more = letter_factors-take from letters done some c.loop-done.invariant.within in
    let block = ap (λ n. letter_factors (from + done) (take n (drop done letters))) count in
    let none = ap (λ b. b && is_none gs) c.loop-done.invariant.none ∙ none-append first fs gs in
    let text =
    ap (λ hs. joined_on first fs ++ joined_on c.loop-done.none hs) block
    ∙ (ap (λ b. joined_on first fs ++ joined_on b gs) c.loop-done.invariant.none
    ∙ (joined_on-append first fs gs ∙ ap (joined_on first) more)) in
    record {
      within = omega (arith, c.min.ensures, c.loop-done.invariant.within);
      none =
          c.write_block-none.ensures.first
          ∙ (ap (λ hs. c.loop-done.none && is_none hs) block ∙ (none ∙ ap (λ hs. first && is_none hs) more));
      pushed = rw text at (Pushes-trans c.loop-done.invariant.pushed c.write_block-none.ensures.pushed);
    }
