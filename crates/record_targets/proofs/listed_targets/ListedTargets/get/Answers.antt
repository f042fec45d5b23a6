use Rattle.std.proofs.Common.{◌<◌, [], ap, subst, sym, ◌∙◌, length, get_or}
use Rattle.std.specs.Prelude.{All}
use Rattle.step_model.specs.TargetSets.{row_of_set}
use Rattle.record_targets.proofs.ListedLemmas.{long, set_is, there}
use Rattle.record_targets.proofs.listed_targets.ListedTargets.get.Goals as goal

pub get-requires : goal.get-requires
get-requires g c = there c.self.inside.targets c.args.rec c.self.inside.lists c.args.self.now c.self.view_is c.requires

pub returns-clause-set : goal.returns-clause-set
returns-clause-set g c =
    ap (row_of_set (length (get_or c.args.self.now c.args.rec []))) c.get.ensures.value
    ∙ set_is c.self.inside.targets c.args.rec c.self.inside.lists c.args.self.now c.self.view_is c.requires

pub returns-clause-below : goal.returns-clause-below
returns-clause-below g c =
    let m = c.self.inside.targets in
    let lists = c.self.inside.lists in
    let low = there m c.args.rec lists c.args.self.now c.self.view_is c.requires in
    subst (λ n. All (λ t. t < n) c.get.result.now) (long m c.args.rec lists c.args.self.now c.self.view_is c.requires)
    (subst (All (λ t. t < m)) (sym c.get.ensures.value) (c.self.invariant c.args.rec [] low))
