use Rattle.std.proofs.Common.{◌≡◌, ◌<◌, ◌∙◌, [], List, Bool, false, length, get_or, ap, subst, sym, arith}
use Rattle.std.specs.Prelude.{All, IfSome, replicate}
use Rattle.std.proofs.lemmas.List.{get_or-set_same, length-replicate}
use Rattle.record_targets.specs.private.Apart.{with_apart}
use Rattle.record_targets.proofs.ApartLemmas.{apart_as_long, put_back_set}
use Rattle.record_targets.specs.private.RecordSets.{AreAsLong}
use Rattle.record_targets.proofs.changing_lists.put_back.Given.{Over}
use Rattle.record_targets.proofs.changing_lists.put_back.Goals as goal
use Rattle.record_targets.proofs.changing_lists.put_back.Goals.{After-toggle_each}

pub toggle_each-requires-clause-rec : goal.toggle_each-requires-clause-rec
toggle_each-requires-clause-rec g c =
    let rows = c.args.lists.now in
    let rec = c.in-Some.rec in
    let within : rec < length rows = subst (λ o. IfSome o (λ r. r < length rows)) c.in-Some.is c.requires.within in
    omega (arith, within, c.empty.ensures.as_long.len)

pub toggle_each-requires-clause-targets : goal.toggle_each-requires-clause-targets
toggle_each-requires-clause-targets g c =
    let m = c.args.targets in
    let rows = c.args.lists.now in
    let rec = c.in-Some.rec in
    let within : rec < length rows = subst (λ o. IfSome o (λ r. r < length rows)) c.in-Some.is c.requires.within in
    let long : length (get_or c.empty.new.self rec []) ≡ m =
    ap length (ap (λ (l : List (List Bool)). get_or l rec []) (c.empty.ensures.set m c.requires.long) ∙ get_or-set_same rows rec (replicate m false) [] within) ∙ length-replicate m false in
    subst (λ n. All (λ t. t < n) c.args.set.now) (sym long) c.requires.below

-- the sets stay as long
as_long : (g : Over) (c : After-toggle_each g) → AreAsLong c.args.lists.now c.toggle_each.new.self
as_long g c =
    let empty = c.empty.ensures.as_long in
    let toggle = c.toggle_each.ensures.as_long in
    record { len = toggle.len ∙ empty.len; long = λ n all. toggle.long n (empty.long n all) }

pub returns-in_err-toggle_each-clause-apart : goal.returns-in_err-toggle_each-clause-apart
returns-in_err-toggle_each-clause-apart g c =
    apart_as_long c.args.targets c.args.lists.now c.toggle_each.new.self c.args.apart.now c.args.set.now (as_long g (goal.at.returns-in_err-toggle_each-clause-apart g c).After-toggle_each) c.requires

pub returns-in_ok-toggle_each-clause-lists : goal.returns-in_ok-toggle_each-clause-lists
returns-in_ok-toggle_each-clause-lists g c =
    let m = c.args.targets in
    let rows = c.args.lists.now in
    let rec = c.in-Some.rec in
    let within : rec < length rows = subst (λ o. IfSome o (λ r. r < length rows)) c.in-Some.is c.requires.within in
    put_back_set m rec rows c.empty.new.self c.toggle_each.new.self c.args.set.now within (c.empty.ensures.set m c.requires.long) c.in_ok-toggle_each.ensures.ok
    ∙ ap (λ apart. with_apart m rows apart c.args.set.now) (sym c.in-Some.is)

pub returns-in_ok-toggle_each-clause-apart : goal.returns-in_ok-toggle_each-clause-apart
returns-in_ok-toggle_each-clause-apart g c =
    record {
      long = (as_long g (goal.at.returns-in_ok-toggle_each-clause-apart g c).After-toggle_each).long c.args.targets c.requires.long;
      within = tt;
      below = c.requires.below;
    }
