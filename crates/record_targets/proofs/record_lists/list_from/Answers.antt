use Rattle.std.proofs.Common.{◌-◌, ◌≤◌, get_or, arith}
use Rattle.record_targets.specs.private.Links.{no_link}
use Rattle.record_targets.proofs.LinkLemmas.{list_at-read}
use Rattle.record_targets.proofs.record_lists.list_from.Goals as goal

pub loop-left-preserved : goal.loop-left-preserved
loop-left-preserved g c =
    let links = c.args.links.now in
    let left = c.loop-left.left in
    let inv = c.loop-left.invariant in
    let low : (get_or links (left - 1) no_link).next ≤ left - 1 = c.requires.back (left - 1) (omega (arith, c.loop-left-test.true, inv.within)) in
    record {
      within = omega (arith, low, inv.within);
      rest = list_at-read links left c.loop-left.into.items c.push.new.self.items _ c.requires.back (omega (arith, c.loop-left-test.true)) inv.within inv.rest c.in_ok-push.ensures.items;
    }
