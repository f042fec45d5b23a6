use Rattle.std.proofs.lemmas.Bool.{eqb-true}
use Rattle.record_targets.proofs.LinkLemmas.{row_of_no_list}
use Rattle.record_targets.proofs.record_lists.RecordLists.is_empty.Goals as goal

pub returns : goal.returns
returns g c = λ none.
    row_of_no_list c.self.inside.targets c.args.rec c.index.result.now c.self.inside.links.items c.self.inside.places.items c.args.self.now c.self.view_is c.requires c.index.ensures
    (eqb-true c.index.result.now 0 none)
