use Rattle.std.proofs.lemmas.List.{length-set}
use Rattle.record_targets.proofs.LinkLemmas.{lists_without, rows_as_long, rows_without}
use Rattle.record_targets.proofs.record_lists.RecordLists.empty.Goals as goal

pub invariant_of-self : goal.invariant_of-self
invariant_of-self g c =
    lists_without c.self.inside.targets c.args.rec c.self.inside.links.items c.self.inside.places.items c.self.invariant

pub returns-clause-set : goal.returns-clause-set
returns-clause-set g c = λ m.
    rows_without c.self.inside.targets m c.args.rec c.self.inside.links.items c.self.inside.places.items c.args.self.now c.self.view_is c.requires

pub returns-clause-as_long : goal.returns-clause-as_long
returns-clause-as_long g c =
    rows_as_long c.self.inside.targets c.self.inside.links.items c.self.inside.links.items c.self.inside.places.items _ c.args.self.now c.self.view_is
    (length-set c.self.inside.places.items c.args.rec 0)
