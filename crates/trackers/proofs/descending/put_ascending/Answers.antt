use Rattle.std.proofs.Common.{rules, ◌≡◌, ◌++◌, true, length, ap, subst, sym, ◌∙◌}
use Rattle.std.specs.List.{refill}
use Rattle.std.specs.Prelude.{reverse}
use Rattle.trackers.specs.private.Sets.{DescendsBelow}
use Rattle.trackers.proofs.SetLemmas.{all_refilled}
use Rattle.trackers.proofs.descending.put_ascending.Goals as goal

pub returns-clause-descends : goal.returns-clause-descends
returns-clause-descends g c =
    let targets = c.args.targets.now in
    let put = c.extend_from_slice.new.self.items in
    let turned = c.reverse.new.self in
    let whole : refill (length put) put turned ≡ reverse targets =
    all_refilled put turned (c.reverse.ensures.len ∙ ap length c.as_mut_slice.ensures.value)
    ∙ (c.reverse.ensures.after ∙ ap reverse (c.as_mut_slice.ensures.value ∙ (c.in_ok-extend_from_slice.ensures.ok ∙ ap (λ items. items ++ targets) c.clear.ensures.items))) in
    let is : c.ascends.result ≡ true = search rules in
    λ m below. subst (DescendsBelow m) (sym whole) (c.ascends.ensures is m below)
