use Rattle.std.proofs.Common.{◌≡◌, ◌<◌, ◌∙◌, [], length, get_or, ap, subst, sym, arith}
use Rattle.std.specs.Prelude.{All}
use Rattle.std.proofs.lemmas.Result.{on_ok_weaker}
use Rattle.record_targets.specs.private.Apart.{toggled_at, with_apart, with_changes, IsApart}
use Rattle.record_targets.specs.private.RecordSets.{opened_sets}
use Rattle.record_targets.proofs.ApartLemmas.{all-with_apart, length-with_apart}
use Rattle.record_targets.proofs.ChangeLemmas.{as_long, opened_apart, opened_count, opened_rows, toggled-with_changes}
use Rattle.record_targets.proofs.changing_lists.ChangingLists.toggle_each.Given.{Over}
use Rattle.record_targets.proofs.changing_lists.ChangingLists.toggle_each.Goals as goal
use Rattle.record_targets.proofs.changing_lists.ChangingLists.toggle_each.Goals.{After-self}

known : (g : Over) (c : After-self g) → (c.args.rec < length c.self.inside.listed) × (length (get_or c.args.self.now c.args.rec []) ≡ c.self.inside.targets)
known g c =
    as_long c.self.inside.targets c.args.rec c.self.inside.listed c.self.inside.changes c.args.self.now c.self.inside.apart c.self.inside.set.items c.self.invariant c.self.view_is c.requires.rec

pub toggle_apart-requires-clause-rec : goal.toggle_apart-requires-clause-rec
toggle_apart-requires-clause-rec g c =
    let listed = c.self.inside.listed in
    let is = c.in_ok-open.ensures.ok ∙ ap (λ n. opened_sets n c.self.inside.targets c.self.inside.changes) c.len.ensures in
    omega (arith, (known g (goal.at.toggle_apart-requires-clause-rec g c).After-self).0, ap length is, opened_count c.self.inside.targets listed c.self.inside.changes c.self.invariant.count)

pub toggle_apart-requires-clause-targets : goal.toggle_apart-requires-clause-targets
toggle_apart-requires-clause-targets g c =
    subst (λ n. All (λ t. t < n) c.args.targets.now) (known g (goal.at.toggle_apart-requires-clause-targets g c).After-self).1 c.requires.targets

pub toggle_apart-requires-clause-apart : goal.toggle_apart-requires-clause-apart
toggle_apart-requires-clause-apart g c =
    let m = c.self.inside.targets in
    let is = c.in_ok-open.ensures.ok ∙ ap (λ n. opened_sets n m c.self.inside.changes) c.len.ensures in
    subst (λ l. IsApart m l c.self.inside.apart c.self.inside.set.items) (sym is) (opened_apart m c.self.inside.listed c.self.inside.changes c.self.inside.apart c.self.inside.set.items c.self.invariant.of_changes)

pub returns : goal.returns
returns g c =
    let m = c.self.inside.targets in
    let listed = c.self.inside.listed in
    let changes = c.self.inside.changes in
    let apart = c.self.inside.apart in
    let xs = c.self.inside.set.items in
    let rec = c.args.rec in
    let targets = c.args.targets.now in
    let opened = c.open.new.self in
    let is = c.in_ok-open.ensures.ok ∙ ap (λ n. opened_sets n m changes) c.len.ensures in
    let of_opened = subst (λ l. IsApart m l apart xs) (sym is) (opened_apart m listed changes apart xs c.self.invariant.of_changes) in
    let within = (known g (goal.at.returns g c).After-self).0 in
    let there : rec < length (with_apart m opened apart xs) = omega (arith, within, length-with_apart m opened apart xs, ap length is, opened_count m listed changes c.self.invariant.count) in
    let before = ap (λ l. with_changes listed (with_apart m l apart xs)) is ∙ (opened_rows m listed changes apart xs c.self.invariant.long c.self.invariant.of_changes ∙ c.self.view_is) in
    on_ok_weaker c.toggle_apart.result
    (λ h. ap (with_changes listed) h
    ∙ (toggled-with_changes listed (with_apart m opened apart xs) rec m targets within there c.self.invariant.long (all-with_apart m opened apart xs of_opened.long)
    ∙ ap (toggled_at rec targets) before))
    c.toggle_apart.ensures.rows
