use Rattle.std.proofs.Common.{◌≡◌, ◌<◌, ◌+◌, ◌-◌, ◌++◌, ◌∷◌, length, drop, ap, ◌∙◌, arith, rules, to_z-of_z}
use Rattle.std.specs.Fmt.{decimal, signed_decimal}
use Rattle.std.proofs.lemmas.Fmt.{length-decimal-le}
use Rattle.std.proofs.lemmas.List.{drop-set}
use Rattle.itoa.proofs.Decimal.{minus_first}
use Rattle.error_models.proofs.short_detectors.whole_before.Goals as goal

pub write_digits-start-requires : goal.write_digits-start-requires
write_digits-start-requires c = (omega (arith, length-decimal-le 19 c.unsigned_abs.result (omega arith) (omega arith) (omega arith)), search rules)

pub overflow_sub-buffer : goal.overflow_sub-buffer
overflow_sub-buffer c = omega (arith, length-decimal-le 19 c.unsigned_abs.result (omega arith) (omega arith) (omega arith))

pub overflow_sub-result : goal.overflow_sub-result
overflow_sub-result c = omega (arith, length-decimal-le 19 c.unsigned_abs.result (omega arith) (omega arith) (omega arith))

pub returns-then-number-ge0-clause-least : goal.returns-then-number-ge0-clause-least
returns-then-number-ge0-clause-least c =
    let long = length-decimal-le 19 c.unsigned_abs.result (omega arith) (omega arith) (omega arith) in
    omega (arith, long, c.write_digits-start.ensures.start)

pub returns-clause-least : goal.returns-clause-least
returns-clause-least c =
    let long = length-decimal-le 19 c.unsigned_abs.result (omega arith) (omega arith) (omega arith) in
    omega (arith, long, c.write_digits-start.ensures.start)

pub returns-clause-written : goal.returns-clause-written
returns-clause-written c =
    let w = c.write_digits-start in
    let long = length-decimal-le 19 c.unsigned_abs.result (omega arith) (omega arith) (omega arith) in
    let e : w.result - 1 + 1 ≡ w.result = omega (arith, long, w.ensures.start, c.requires.room) in
    let within : w.result - 1 < length w.new.buf = omega (arith, long, w.ensures.start, c.requires.within, c.requires.room, w.auto.buf) in
    let back = to_z-of_z c.ranges.number in
    let minus : 45 ∷ decimal c.unsigned_abs.result ≡ signed_decimal c.args.number =
    ap (λ n. 45 ∷ decimal n) c.unsigned_abs.ensures.value ∙ (rw back (minus_first c.args.number (rw back at c.if-number-ge0.false))) in
    drop-set w.new.buf (w.result - 1) 45 within
    ∙ (ap (λ n. 45 ∷ drop n w.new.buf) e
    ∙ (ap (λ l. 45 ∷ l) w.ensures.written
    ∙ ap (λ l. l ++ drop c.args.end c.args.buffer.now) minus))
