use Rattle.std.proofs.Common.{arith}
use Rattle.record_targets.proofs.LinkLemmas.{rows_counted}
use Rattle.record_targets.proofs.record_lists.RecordLists.len.Goals as goal

pub returns : goal.returns
returns g c =
    omega (arith, c.len.ensures, rows_counted c.self.inside.targets c.self.inside.links.items c.self.inside.places.items c.args.self.now c.self.view_is)
