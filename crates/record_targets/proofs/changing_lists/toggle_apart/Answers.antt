use Rattle.std.proofs.Common.{◌<◌, ◌∙◌, [], length, set, ap, subst, sym, arith}
use Rattle.std.specs.Prelude.{All, IfSome}
use Rattle.record_targets.specs.private.Apart.{with_apart, IsApart}
use Rattle.step_model.specs.TargetSets.{row_of_set}
use Rattle.record_targets.proofs.ApartLemmas.{apart_as_long, toggled_apart}
use Rattle.record_targets.proofs.changing_lists.toggle_apart.Goals as goal

pub toggle_each-requires-clause-rec : goal.toggle_each-requires-clause-rec
toggle_each-requires-clause-rec g c = omega (arith, c.requires.rec, c.put_back.ensures.len)

pub toggle_each-requires-clause-targets : goal.toggle_each-requires-clause-targets
toggle_each-requires-clause-targets g c =
    subst (λ n. All (λ t. t < n) c.args.targets.now) (sym (c.put_back.ensures.apart.long c.args.rec [] (omega (arith, c.requires.rec, c.put_back.ensures.len)))) c.requires.targets

pub returns-then-targets-lt-MANY-clause-apart : goal.returns-then-targets-lt-MANY-clause-apart
returns-then-targets-lt-MANY-clause-apart g c =
    let new = c.toggle_each.new.self in
    subst (IsApart c.args.count new c.put_back.new.apart) c.deref.ensures.value
    (apart_as_long c.args.count c.put_back.new.lists new c.put_back.new.apart c.deref.result.now c.toggle_each.ensures.as_long c.put_back.ensures.apart)

pub returns-clause-rows : goal.returns-clause-rows
returns-clause-rows g c =
    let m = c.args.count in
    let rec = c.args.rec in
    let rows = c.take_out.new.lists in
    let some = c.in_ok-take_out.ensures.some in
    let within : rec < length rows = subst (λ o. IfSome o (λ r. r < length rows)) some c.take_out.ensures.apart.within in
    ap (λ apart. with_apart m rows apart c.swap.new.x.items) some
    ∙ (ap (λ v. set rows rec (row_of_set m v.items)) c.swap.ensures.x_after
    ∙ toggled_apart m rec rows (with_apart m c.args.changes.now c.args.apart.now c.args.set.now.items) c.args.targets.now c.deref-2.result.now c.put_toggled.new.into.items within
    (ap (λ xs. set rows rec (row_of_set m xs)) c.deref-2.ensures.value
    ∙ (ap (λ apart. with_apart m rows apart c.take_out.new.set.items) (sym some) ∙ c.in_ok-take_out.ensures.rows))
    c.in_ok-put_toggled.ensures)
