use Rattle.std.proofs.Common.{ap, ◌∙◌}
use Rattle.error_models.specs.HeldText.{texts_of}
use Rattle.error_models.proofs.HeldTextLemmas.{counted_more, no_block, one_full_more}
use Rattle.error_models.proofs.text_blocks.keep_full.Goals as goal

pub returns-then-len-eq0-clause-texts : goal.returns-then-len-eq0-clause-texts
returns-then-len-eq0-clause-texts g c = no_block c.args.full.now.items c.args.block.text c.len-len.result c.len-len.ensures c.if-len-eq0.true

pub returns-clause-counted : goal.returns-clause-counted
returns-clause-counted g c =
    c.saturating_add.ensures
    ∙ counted_more c.args.full.now.items c.push_reserved.new.self.items c.args.block c.args.full_len.now c.len-len.result _ c.requires.counted c.len-len.ensures c.push_reserved.ensures.items

pub returns-clause-texts : goal.returns-clause-texts
returns-clause-texts g c = ap texts_of c.push_reserved.ensures.items ∙ one_full_more c.args.full.now.items c.args.block
