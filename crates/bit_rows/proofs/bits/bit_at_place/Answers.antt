use Rattle.std.proofs.Common.{◌∙◌, sym}
use Rattle.bit_rows.proofs.BitLaws.{bit_of_shift}
use Rattle.bit_rows.proofs.Places.{bit_in_is}
use Rattle.bit_rows.proofs.bits.bit_at_place.Goals as goal

pub returns : goal.returns
returns c = bit_of_shift _ _ ∙ sym (bit_in_is c.args.words.now c.args.place)
