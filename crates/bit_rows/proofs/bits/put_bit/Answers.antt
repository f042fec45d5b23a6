use Rattle.std.proofs.Common.{◌%◌, ◌/◌, ◌<◌, get_or, arith, sym, ap, ◌∙◌, cond, eqb}
use Rattle.bit_rows.specs.private.Words.{bit_of}
use Rattle.bit_rows.proofs.BitLaws.{bit_of_put, bit_of_take}
use Rattle.bit_rows.proofs.Places.{bit_in-set}
use Rattle.bit_rows.proofs.bits.put_bit.Goals as goal
use Rattle.bit_rows.proofs.bits.put_bit.Goals.{then-bit, else-bit}

pub returns : goal.returns
returns c =
    let within : c.args.place % 64 < 64 = omega arith in
    elim c.if-bit.branch [
      | then-bit w ↦
          bit_in-set c.args.words.now c.args.place c.if-bit.words c.args.bit c.requires
          (λ j h. ap (λ v. bit_of v j) w.words-is ∙ bit_of_put (get_or c.args.words.now (c.args.place / 64) 0) (c.args.place % 64) j within ∙ ap (λ b. cond (eqb j (c.args.place % 64)) b (bit_of (get_or c.args.words.now (c.args.place / 64) 0) j)) (sym w.if-bit.true))
      | else-bit w ↦
          bit_in-set c.args.words.now c.args.place c.if-bit.words c.args.bit c.requires
          (λ j h. ap (λ v. bit_of v j) w.words-is ∙ bit_of_take (get_or c.args.words.now (c.args.place / 64) 0) (c.args.place % 64) j within h ∙ ap (λ b. cond (eqb j (c.args.place % 64)) b (bit_of (get_or c.args.words.now (c.args.place / 64) 0) j)) (sym w.if-bit.false))
    ]
