use Rattle.std.proofs.Common.{◌%◌, ◌/◌, ◌<◌, arith, ◌∙◌, not, get_or}
use Rattle.bit_rows.specs.private.Words.{bit_in}
use Rattle.bit_rows.proofs.BitLaws.{bit_of_flip}
use Rattle.bit_rows.proofs.Places.{bit_in-set, turned}
use Rattle.bit_rows.proofs.bits.flip_bit.Goals as goal

pub returns : goal.returns
returns c =
    let within : c.args.place % 64 < 64 = omega arith in
    bit_in-set c.args.words.now c.args.place _ (not (bit_in c.args.words.now c.args.place)) c.requires
    (λ j h. bit_of_flip (get_or c.args.words.now (c.args.place / 64) 0) (c.args.place % 64) j within ∙ turned c.args.words.now c.args.place j)
