use Rattle.std.proofs.Common.{refl, [], List, Bool, get_or, set, ap, ◌∙◌}
use Rattle.std.proofs.lemmas.List.{length-set}
use Rattle.record_targets.specs.ListingSets.{toggled_each}
use Rattle.record_targets.proofs.LinkLemmas.{lists_grown, lists_put, low_at, rows_as_long, rows_put}
use Rattle.record_targets.proofs.record_lists.RecordLists.put.Goals as goal

pub invariant_of-self : goal.invariant_of-self
invariant_of-self g c =
    lists_grown c.self.inside.targets c.self.inside.links.items c.put_each.new.links.items c.self.inside.places.items c.self.invariant c.put_each.ensures.grown

pub invariant_of-self-2 : goal.invariant_of-self-2
invariant_of-self-2 g c =
    let m = c.self.inside.targets in
    let links = c.self.inside.links.items in
    let places = c.self.inside.places.items in
    let place = c.index.result.now in
    let low = low_at m c.args.rec place links places c.args.self.now c.args.targets.now c.self.view_is c.requires.rec c.index.ensures c.requires.targets in
    lists_put m c.args.rec links places place c.put_each.new.links.items c.in_ok-first.first c.args.targets.now c.self.invariant low.0 c.index.ensures low.1 c.in_ok-first.ensures.put

pub returns-clause-ok : goal.returns-clause-ok
returns-clause-ok g c =
    let m = c.self.inside.targets in
    let links = c.self.inside.links.items in
    let places = c.self.inside.places.items in
    let place = c.index.result.now in
    let low = low_at m c.args.rec place links places c.args.self.now c.args.targets.now c.self.view_is c.requires.rec c.index.ensures c.requires.targets in
    rows_put m c.args.rec links places place c.put_each.new.links.items c.in_ok-first.first c.args.targets.now c.self.invariant.back c.self.invariant.placed low.0 c.index.ensures low.1 c.in_ok-first.ensures.put
    ∙ ap (λ (rows : List (List Bool)). set rows c.args.rec (toggled_each c.args.targets.now (get_or rows c.args.rec []))) c.self.view_is

pub returns-in_err-first-clause-as_long : goal.returns-in_err-first-clause-as_long
returns-in_err-first-clause-as_long g c =
    rows_as_long c.self.inside.targets c.self.inside.links.items c.put_each.new.links.items c.self.inside.places.items c.self.inside.places.items c.args.self.now c.self.view_is refl

pub returns-clause-as_long : goal.returns-clause-as_long
returns-clause-as_long g c =
    rows_as_long c.self.inside.targets c.self.inside.links.items c.put_each.new.links.items c.self.inside.places.items _ c.args.self.now c.self.view_is
    (length-set c.self.inside.places.items c.args.rec c.in_ok-first.first)
