use Rattle.std.proofs.Common.{◌≡◌, ◌*◌, ◌^◌, ◌∙◌, arith}
use Rattle.std.proofs.lemmas.Grind.{pow_more}
use Rattle.stim_parser.proofs.DigitLemmas.{power_at_most}
use Rattle.stim_parser.proofs.significant.next_digit.Goals as goal
use Rattle.stim_parser.proofs.significant.next_digit.Goals.{then-read-lt18, else-read-lt18}

pub returns-then-digit-eq48-clause-within : goal.returns-then-digit-eq48-clause-within
returns-then-digit-eq48-clause-within c = record {
  zeros = omega (arith, c.requires.within.zeros);
  number = λ le. rw (pow_more 10 c.args.read.length, pow_more 10 c.args.read.zeros) (omega (arith, c.requires.within.number (omega arith)));
}

pub overflow_mul-number : goal.overflow_mul-number
overflow_mul-number c =
    let scale : c.pow.result ≡ 10 ^ c.args.read.zeros * 10 = c.pow.ensures ∙ pow_more 10 c.args.read.zeros in
    rw scale
    (omega (arith, c.requires.within.number (omega arith), power_at_most c.args.read.length 17 (omega arith)))

pub overflow_add-number : goal.overflow_add-number
overflow_add-number c =
    let scale : c.pow.result ≡ 10 ^ c.args.read.zeros * 10 = c.pow.ensures ∙ pow_more 10 c.args.read.zeros in
    rw scale
    (omega (arith, c.saturating_sub.ensures, c.requires.digit, c.requires.within.number (omega arith), power_at_most c.args.read.length 17 (omega arith)))

pub returns-clause-within : goal.returns-clause-within
returns-clause-within c = record {
  zeros = omega arith;
  number = λ le. elim c.if-read-lt18.branch [
    | then-read-lt18 w ↦
        let scale : w.pow.result ≡ 10 ^ c.args.read.zeros * 10 = w.pow.ensures ∙ pow_more 10 c.args.read.zeros in
        rw (w.number-is, scale, pow_more 10 c.args.read.length)
        (omega (arith, w.saturating_sub.ensures, c.requires.digit, c.requires.within.number (omega arith)))
    | else-read-lt18 w ↦ absurd (omega arith)
  ];
}
