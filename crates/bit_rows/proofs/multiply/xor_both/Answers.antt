use Rattle.std.proofs.Common.{refl}
use Rattle.bit_rows.proofs.Blanks.{no_letters_left}
use Rattle.bit_rows.proofs.Blocks.{XorsWithin-block}
use Rattle.bit_rows.proofs.multiply.xor_both.Goals as goal

pub returns-clause-x : goal.returns-clause-x
returns-clause-x c = XorsWithin-block c.args.xa.now c.args.xb.now c.args.at 4 c.requires.xa c.requires.xb

pub returns-clause-z : goal.returns-clause-z
returns-clause-z c = XorsWithin-block c.args.za.now c.args.zb.now c.args.at 4 c.requires.za c.requires.zb

pub returns-clause-blank : goal.returns-clause-blank
returns-clause-blank c = λ none. no_letters_left _ (λ a b. refl) c.args.xa.now c.args.za.now c.args.xb.now c.args.zb.now c.args.at c.requires.xa c.requires.za c.requires.xb c.requires.zb none
