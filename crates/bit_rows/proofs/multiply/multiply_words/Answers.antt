use Rattle.std.proofs.Common.{length}
use Rattle.bit_rows.proofs.Marked.{blanks_none}
use Rattle.bit_rows.proofs.multiply.multiply_words.Goals as goal

pub returns-then-xb-lt4-clause-blank : goal.returns-then-xb-lt4-clause-blank
returns-then-xb-lt4-clause-blank c = blanks_none c.multiply_few.new.xa c.multiply_few.new.za (length c.args.xa.now)
