-- What is put into the buffer goes out, without its first star where nothing stands before it.
use Rattle.std.proofs.Common.{◌≡◌, ◌<◌, ◌-◌, [], length, take, drop, sym, ap, ◌∙◌, arith, rules, length-take-le}
use Rattle.step_model.proofs.Pushing.{Pushes-nil}
use Rattle.fault_list.specs.private.FactorTexts.{joined_on, letter_factors, starred}
use Rattle.fault_list.proofs.BlockLemmas.{after_star}
use Rattle.fault_list.proofs.FactorTextLemmas.{nothing_joined, some_where_text}
use Rattle.fault_list.proofs.blocks.write_block.Goals as goal
use Rattle.fault_list.proofs.blocks.write_block.Goals.{then-first, else-first}

pub returns-then-end-eq0-clause-pushed : goal.returns-then-end-eq0-clause-pushed
returns-then-end-eq0-clause-pushed g c =
    let fs = letter_factors c.args.from c.args.letters.now in
    let buffer = c.put_letters-end.new.buffer in
    let nothing : starred fs ≡ [] = sym c.put_letters-end.ensures.written ∙ ap (λ n. take n buffer) c.if-end-eq0.true in
    rw (← nothing_joined c.args.first fs nothing) Pushes-nil

pub returns-clause-first : goal.returns-clause-first
returns-clause-first g c =
    let fs = letter_factors c.args.from c.args.letters.now in
    let buffer = c.put_letters-end.new.buffer in
    let end = c.put_letters-end.result in
    let some : 0 < length (starred fs) = omega (arith, ap length c.put_letters-end.ensures.written, length-take-le end buffer (search rules), c.if-end-eq0.false) in
    some_where_text c.args.first fs some

pub returns-clause-pushed : goal.returns-clause-pushed
returns-clause-pushed g c =
    let fs = letter_factors c.args.from c.args.letters.now in
    let buffer = c.put_letters-end.new.buffer in
    let end = c.put_letters-end.result in
    let all : end - 0 ≡ end = omega arith in
    let text : take (end - c.if-first.start) (drop c.if-first.start buffer) ≡ joined_on c.args.first fs = elim c.if-first.branch [
      | then-first w ↦
          ap (λ k. take (end - k) (drop k buffer)) w.start-is
          ∙ (after_star buffer end fs (omega (arith, c.if-end-eq0.false)) c.put_letters-end.ensures.written
          ∙ ap (λ b. joined_on b fs) (sym w.if-first.true))
      | else-first w ↦
          ap (λ k. take (end - k) (drop k buffer)) w.start-is
          ∙ (ap (λ n. take n buffer) all
          ∙ (c.put_letters-end.ensures.written
          ∙ ap (λ b. joined_on b fs) (sym w.if-first.false)))
    ] in
    rw text at c.push.ensures
