use Rattle.std.proofs.Common.{◌≡◌, ◌<◌, [], length, get_or, set, ap, subst, sym, ◌∙◌, arith}
use Rattle.std.specs.Prelude.{All}
use Rattle.std.proofs.lemmas.List.{set-get_or}
use Rattle.record_targets.specs.private.Apart.{with_apart}
use Rattle.step_model.specs.TargetSets.{members, row_of_set}
use Rattle.record_targets.proofs.ApartLemmas.{length-with_apart, row_of_members}
use Rattle.step_model.proofs.MemberLemmas.{members_within}
use Rattle.record_targets.proofs.changing_lists.take_out.Goals as goal

pub returns-clause-rows : goal.returns-clause-rows
returns-clause-rows g c =
    let m = c.args.targets in
    let rec = c.args.rec in
    let rows = c.put_back.new.lists in
    let row = get_or rows rec [] in
    let back = c.in_ok-put_back.ensures.lists ∙ ap (with_apart m c.args.lists.now c.args.apart.now) c.deref.ensures.value in
    let within : rec < length rows = omega (arith, c.requires.rec, ap length back, length-with_apart m c.args.lists.now c.args.apart.now c.args.set.now.items) in
    let taken : c.swap.new.x.items ≡ members row = ap (λ v. v.items) c.swap.ensures.x_after ∙ c.in_ok-list.ensures in
    ap (set rows rec) (ap (row_of_set m) taken ∙ row_of_members m row (c.put_back.ensures.apart.long rec [] within))
    ∙ (set-get_or rows rec [] ∙ back)

pub returns-clause-apart : goal.returns-clause-apart
returns-clause-apart g c =
    let m = c.args.targets in
    let rec = c.args.rec in
    let rows = c.put_back.new.lists in
    let row = get_or rows rec [] in
    let back = c.in_ok-put_back.ensures.lists ∙ ap (with_apart m c.args.lists.now c.args.apart.now) c.deref.ensures.value in
    let within : rec < length rows = omega (arith, c.requires.rec, ap length back, length-with_apart m c.args.lists.now c.args.apart.now c.args.set.now.items) in
    let taken : c.swap.new.x.items ≡ members row = ap (λ v. v.items) c.swap.ensures.x_after ∙ c.in_ok-list.ensures in
    record {
      long = c.put_back.ensures.apart.long;
      within = within;
      below = subst (All (λ t. t < m)) (sym taken) (subst (λ n. All (λ t. t < n) (members row)) (c.put_back.ensures.apart.long rec [] within) (members_within row));
    }
