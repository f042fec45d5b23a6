use Rattle.std.proofs.Common.{◌∙◌}
use Rattle.stim_parser.proofs.NameLemmas.{is_among_rows-any}
use Rattle.stim_parser.proofs.names.is_left_out.Goals as goal

-- the static table is the one of the definition
pub returns : goal.returns
returns c = c.is_among.ensures ∙ is_among_rows-any _ c.args.name.now
