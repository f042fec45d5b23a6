use Rattle.std.proofs.Common.{◌∙◌}
use Rattle.dem_text.specs.Instructions.{keyword_named}
use Rattle.stim_parser.proofs.NameLemmas.{named_in_rows-named_in}
use Rattle.dem_text.proofs.operation.keyword_named.Goals as goal

-- the static table is the one of the definition
pub returns : goal.returns
unfolding keyword_named
returns c = c.look_up.ensures ∙ named_in_rows-named_in _ c.args.name.now
