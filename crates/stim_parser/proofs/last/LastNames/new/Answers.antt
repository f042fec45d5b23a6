use Rattle.std.proofs.Common.{◌≡◌, refl}
use Rattle.std.proofs.lemmas.List.Elements.{All-replicate}
use Rattle.stim_parser.specs.declared.last.Named.{Named}
use Rattle.stim_parser.specs.Instructions.{keyword_named}
use Rattle.stim_parser.proofs.last.LastNames.new.Goals as goal

pub invariant_of-result : goal.invariant_of-result
invariant_of-result c = (refl, All-replicate (λ (named : Named). named.keyword ≡ keyword_named named.name.now) 32 _ c.keyword_named.ensures)
