use Rattle.std.proofs.Common.{ap, ◌∷◌, ◌∙◌, arith}
use Rattle.error_models.proofs.ShortLineLemmas.{digits_of_a_target, two_before}
use Rattle.error_models.proofs.short_lines.number_before.Goals as goal

pub write_digits-start-requires : goal.write_digits-start-requires
write_digits-start-requires c =
    let short = digits_of_a_target c.args.number (omega (arith, c.ranges.number.fits)) in
    (omega (arith, short, c.requires.room), c.requires.within)

pub overflow_sub-buffer : goal.overflow_sub-buffer
overflow_sub-buffer c =
    let short = digits_of_a_target c.args.number (omega (arith, c.ranges.number.fits)) in
    omega (arith, short, c.requires.room, c.write_digits-start.ensures.start)

pub overflow_sub-buffer-2 : goal.overflow_sub-buffer-2
overflow_sub-buffer-2 c =
    let short = digits_of_a_target c.args.number (omega (arith, c.ranges.number.fits)) in
    omega (arith, short, c.requires.room, c.write_digits-start.ensures.start)

pub overflow_sub-result : goal.overflow_sub-result
overflow_sub-result c =
    let short = digits_of_a_target c.args.number (omega (arith, c.ranges.number.fits)) in
    omega (arith, short, c.requires.room, c.write_digits-start.ensures.start)

pub returns-clause-least : goal.returns-clause-least
returns-clause-least c =
    let short = digits_of_a_target c.args.number (omega (arith, c.ranges.number.fits)) in
    omega (arith, short, c.requires.room, c.write_digits-start.ensures.start)

pub returns-clause-written : goal.returns-clause-written
returns-clause-written c =
    let short = digits_of_a_target c.args.number (omega (arith, c.ranges.number.fits)) in
    let start = c.write_digits-start.result in
    two_before c.write_digits-start.new.buf start c.args.letter 32
    (omega (arith, short, c.requires.room, c.write_digits-start.ensures.start))
    (omega (arith, c.requires.within, c.write_digits-start.ensures.start, c.write_digits-start.auto.buf))
    ∙ ap (λ l. 32 ∷ c.args.letter ∷ l) c.write_digits-start.ensures.written
