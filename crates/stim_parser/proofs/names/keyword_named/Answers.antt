use Rattle.std.proofs.Common.{◌∙◌, ap, sym}
use Rattle.std.specs.Prelude.{option_map}
use Rattle.std.specs.Option.{option_or}
use Rattle.stim_parser.specs.declared.operation.Operation.TheVariants.{Applies}
use Rattle.stim_parser.specs.declared.table.Keyword.TheVariants.{Does}
use Rattle.stim_parser.specs.Instructions.{keyword_named, other_named}
use Rattle.stim_parser.proofs.NameLemmas.{named_in_rows-named_in}
use Rattle.stim_parser.proofs.names.keyword_named.Goals as goal

pub returns-in-Some : goal.returns-in-Some
unfolding keyword_named
returns-in-Some c =
    ap (λ found. option_or (option_map (λ g. Does (Applies g)) found) (other_named c.args.name.now)) (sym c.in-Some.is ∙ c.named.ensures)

-- the static table is the one of the definition
pub returns-in-None : goal.returns-in-None
unfolding keyword_named
returns-in-None c =
    c.look_up.ensures
    ∙ (named_in_rows-named_in _ c.args.name.now
    ∙ ap (λ found. option_or (option_map (λ g. Does (Applies g)) found) (other_named c.args.name.now)) (sym c.in-None.is ∙ c.named.ensures))
