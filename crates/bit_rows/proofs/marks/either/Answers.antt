use Rattle.std.proofs.Common.{sym, ◌∙◌}
use Rattle.std.proofs.lemmas.Bool.{or_parts}
use Rattle.bit_rows.specs.private.Words.{bit_of}
use Rattle.bit_rows.proofs.BitLaws.{bit_of-or}
use Rattle.bit_rows.proofs.marks.either.Goals as goal

pub returns : goal.returns
returns c = λ b e. or_parts (bit_of c.args.first b) (bit_of c.args.second b) (sym (bit_of-or c.args.first c.args.second b) ∙ e)
