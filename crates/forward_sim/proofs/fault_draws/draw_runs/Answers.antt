-- Run after run.
use Rattle.std.proofs.Common.{rules, ◌≡◌, ◌+◌, ◌-◌, ◌≤◌, ◌++◌, [], length, get_or, take, refl, sym, ap, subst, ◌∙◌, arith}
use borrow.Rule.Slice.PartMut.{put_mid}
use Rattle.forward_sim.specs.declared.runs.BoundRun.{BoundRun}
use Rattle.forward_sim.specs.private.AllLanes.{DrawnUpTo, fault_hits}
use Rattle.forward_sim.specs.private.BoundRuns.{bounds_in, bounds_of_run}
use Rattle.forward_sim.proofs.AllLaneLemmas.{none_drawn, piece_drawn}
use Rattle.forward_sim.proofs.HitLemmas.{fault_behind, fault_front}
use Rattle.forward_sim.proofs.RunLemmas.{run_counts, run_fits, runs_more}
use Rattle.forward_sim.proofs.fault_draws.draw_runs.Goals as goal

abbrev none : BoundRun
none = record { bound = 0; count = 0 }

pub loop-r-init : goal.loop-r-init
loop-r-init c =
    record {
      start = refl;
      drawn = none_drawn (fault_hits (bounds_in [])) c.args.generators.now c.args.faults.now;
    }

pub overflow_add-end : goal.overflow_add-end
overflow_add-end c = record { fits = omega (arith, run_fits c.args.runs.now c.loop-r.r none c.loop-r-test.true, c.loop-r.invariant.start, c.requires.fits) }

pub offset_bounds-faults-start : goal.offset_bounds-faults-start
offset_bounds-faults-start c =
    let within = run_fits c.args.runs.now c.loop-r.r none c.loop-r-test.true in
    search (rules, c.loop-r.invariant.start, c.loop-r.invariant.drawn.size, within, c.requires.fits)

pub slice_bounds-draw_run-end : goal.slice_bounds-draw_run-end
slice_bounds-draw_run-end c =
    omega (arith, run_fits c.args.runs.now c.loop-r.r none c.loop-r-test.true, c.loop-r.invariant.start, c.loop-r.invariant.drawn.size, c.requires.fits)

pub loop-r-preserved : goal.loop-r-preserved
loop-r-preserved c =
    let runs = c.args.runs.now in
    let r = c.loop-r.r in
    let run = get_or runs r none in
    let at = c.loop-r.start in
    let k = at + run.count - at in
    let so_far = c.loop-r.invariant in
    let xs = bounds_in (take r runs) in
    let ys = bounds_of_run run in
    let more = runs_more runs r none c.loop-r-test.true in
    let front : length xs ≡ at = sym so_far.start in
    let new = c.draw_run.new in
    let within : at + run.count ≤ length c.args.faults.now = omega (arith, run_fits runs r none c.loop-r-test.true, so_far.start, c.requires.fits) in
    record {
      start = ap (λ n. n + run.count) so_far.start ∙ sym (run_counts runs r none c.loop-r-test.true);
      drawn =
          subst (λ bounds. DrawnUpTo (at + run.count) (length c.args.faults.now) (fault_hits bounds) c.args.generators.now (put_mid at k c.loop-r.faults new.faults) new.generators) more
          (piece_drawn (fault_hits (xs ++ ys)) k (omega arith) within so_far.drawn c.draw_run.ensures
          (λ i w h. fault_front xs ys i w (omega (arith, h, front))) (λ i w h. fault_behind xs ys at i w front));
    }
