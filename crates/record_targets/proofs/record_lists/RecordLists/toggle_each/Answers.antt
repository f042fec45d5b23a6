use Rattle.std.proofs.Common.{List, subst}
use Rattle.std.specs.Prelude.{Bool}
use Rattle.record_targets.specs.private.RecordSets.{AreAsLong}
use Rattle.record_targets.proofs.record_lists.RecordLists.toggle_each.Goals as goal

pub returns-clause-as_long : goal.returns-clause-as_long
returns-clause-as_long g c = subst (λ (sets : List (List Bool)). AreAsLong sets c.put.new.self) c.shorten.ensures c.put.ensures.as_long
