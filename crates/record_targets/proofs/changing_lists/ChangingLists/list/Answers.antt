use Rattle.std.proofs.Common.{◌≡◌, ◌<◌, ◌∙◌, [], length, get_or, ap, subst, sym, arith}
use Rattle.std.specs.Prelude.{All}
use Rattle.std.proofs.lemmas.Bool.{eqb-true}
use Rattle.std.proofs.lemmas.Result.{on_ok_weaker}
use Rattle.record_targets.specs.private.Apart.{with_apart, with_changes}
use Rattle.step_model.specs.TargetSets.{members}
use Rattle.record_targets.proofs.ChangeLemmas.{as_long, row_changed, row_of_changes}
use Rattle.step_model.proofs.MemberLemmas.{members_within}
use Rattle.record_targets.proofs.changing_lists.ChangingLists.list.Given.{Over}
use Rattle.record_targets.proofs.changing_lists.ChangingLists.list.Goals as goal
use Rattle.record_targets.proofs.changing_lists.ChangingLists.list.Goals.{After-put_back, After-self}

known : (g : Over) (c : After-self g) → (c.args.rec < length c.self.inside.listed) × (length (get_or c.args.self.now c.args.rec []) ≡ c.self.inside.targets)
known g c =
    as_long c.self.inside.targets c.args.rec c.self.inside.listed c.self.inside.changes c.args.self.now c.self.inside.apart c.self.inside.set.items c.self.invariant c.self.view_is c.requires.rec

there : (g : Over) (c : After-put_back g) → c.args.rec < length c.put_back.new.lists
there g c =
    let within = (as_long c.self.inside.targets c.args.rec c.self.inside.listed c.self.inside.changes c.args.self.now c.self.inside.apart c.self.inside.set.items c.self.invariant c.self.view_is c.requires.rec).0 in
    omega (arith, within, c.put_back.ensures.len, c.self.invariant.count, c.len.ensures, c.if-len-eq0.false)

pub list-requires : goal.list-requires
list-requires g c = there g (goal.at.list-requires g c).After-put_back

pub list-requires-2 : goal.list-requires-2
list-requires-2 g c = there g (goal.at.list-requires-2 g c).After-put_back

pub get-listed-requires : goal.get-listed-requires
get-listed-requires g c = (known g (goal.at.get-listed-requires g c).After-self).0

pub returns-then-is_empty-clause-list : goal.returns-then-is_empty-clause-list
returns-then-is_empty-clause-list g c =
    let at = goal.at.returns-then-is_empty-clause-list g c in
    let m = c.self.inside.targets in
    let listed = c.self.inside.listed in
    let is = ap (with_changes listed) (c.in_ok-put_back.ensures.lists ∙ ap (with_apart m c.self.inside.changes c.self.inside.apart) c.deref.ensures.value) ∙ c.self.view_is in
    let none = eqb-true (length c.get-listed.result.now) 0 (sym c.is_empty.ensures ∙ c.if-is_empty.true) in
    let row = row_of_changes m c.args.rec listed c.put_back.new.lists c.args.self.now c.get-listed.result.now is (known g at.After-self).0 (there g at.After-put_back)
    c.self.invariant.long c.put_back.ensures.apart.long c.get-listed.ensures.set none in
    on_ok_weaker c.list.result (λ h. h ∙ ap members row) c.list.ensures

pub returns-clause-list : goal.returns-clause-list
returns-clause-list g c =
    let at = goal.at.returns-clause-list g c in
    let m = c.self.inside.targets in
    let rec = c.args.rec in
    let listed = c.self.inside.listed in
    let changes = c.put_back.new.lists in
    let is = ap (with_changes listed) (c.in_ok-put_back.ensures.lists ∙ ap (with_apart m c.self.inside.changes c.self.inside.apart) c.deref.ensures.value) ∙ c.self.view_is in
    let row = row_changed m rec listed changes c.args.self.now c.get-listed.result.now c.deref-2.result.now c.put_toggled.new.into.items is (known g at.After-self).0 (there g at.After-put_back)
    c.self.invariant.long c.put_back.ensures.apart.long c.get-listed.ensures.set (c.deref-2.ensures.value ∙ c.in_ok-list.ensures) c.in_ok-put_toggled.ensures in
    let low = c.in_ok-put_toggled.ensures.below m
    (subst (λ n. All (λ t. t < n) c.get-listed.result.now) (c.self.invariant.long rec [] (known g at.After-self).0) c.get-listed.ensures.below)
    (subst (All (λ t. t < m)) (sym (c.deref-2.ensures.value ∙ c.in_ok-list.ensures))
    (subst (λ n. All (λ t. t < n) (members (get_or changes rec []))) (c.put_back.ensures.apart.long rec [] (there g at.After-put_back)) (members_within (get_or changes rec [])))) in
    c.make_ascend-2.ensures m low ∙ ap members row
