use Rattle.std.proofs.Common.{◌≡◌, ◌+◌, ◌∷◌, get_or, drop, refl, ap, sym, ◌∙◌, arith}
use Rattle.std.proofs.lemmas.List.{drop_all, drop_more}
use Rattle.record_targets.specs.private.Links.{list_at, put_before}
use Rattle.record_targets.proofs.LinkLemmas.{grown_on, grown_none}
use Rattle.record_targets.proofs.record_lists.put_each.Goals as goal

pub loop-target-init : goal.loop-target-init
loop-target-init g c = record { grown = grown_none c.args.links.now.items c.requires.back; placed = c.requires.placed; left = refl }

pub loop-target-preserved : goal.loop-target-preserved
loop-target-preserved g c =
    let inv = c.loop-target.invariant in
    let made = c.in_ok-first.ensures.put in
    let links = c.loop-target.links.items in
    let first = c.loop-target.first in
    let targets = c.args.targets.now in
    let index = c.loop-target.target-index in
    let next : put_before (drop index targets) (list_at links first) ≡ put_before (drop (index + 1) targets) (get_or targets index 0 ∷ list_at links first) =
    ap (λ ts. put_before ts (list_at links first)) (drop_more targets index 0 c.loop-target-test.true) in
    record {
      grown = grown_on c.args.links.now.items links c.put_first.new.links.items inv.grown c.put_first.ensures.grown;
      placed = made.placed;
      left = ap (put_before (drop (index + 1) targets)) made.put ∙ (sym next ∙ inv.left);
    }

pub returns-clause-put : goal.returns-clause-put
returns-clause-put g c =
    let inv = c.loop-target.invariant in
    let done = drop_all c.loop-target.target-index c.args.targets.now (omega (arith, c.loop-target-test.false)) in
    record {
      grown = inv.grown;
      placed = inv.placed;
      put = sym (ap (λ ts. put_before ts (list_at c.loop-target.links.items c.loop-target.first)) done) ∙ inv.left;
    }
