use Rattle.std.proofs.Common.{◌≡◌, [], ◌∷◌, ◌++◌, refl, subst, sym, ◌∙◌, rules, arith}
use Rattle.backward.specs.private.Passes.{IsPassed}
use Rattle.backward.specs.private.Segments.{AreSegments}
use Rattle.backward.proofs.SegmentLemmas.{segments_push}
use Rattle.backward.proofs.StepLemmas.{stays_as, stays_on}
use Rattle.backward.proofs.segments.leave_segments.Goals as goal

pub loop-segments-init : goal.loop-segments-init
loop-segments-init g c =
    let none : c.new-segments.result.items ≡ [] = search rules in
    record {
      program_is = c.requires.program;
      passed = c.requires.passed;
      stays = stays_as refl refl refl;
      segments = subst (AreSegments c.args.program.now c.args.at.now.walk.place c.args.at.now.walk.place) (sym none) refl;
    }

pub loop-segments-preserved : goal.loop-segments-preserved
loop-segments-preserved g c =
    let program = c.args.program.now in
    let l = c.loop-segments in
    let e = c.in_ok-segment.ensures in
    let one = e.segment in
    let list = l.segments.items ++ c.in_ok-segment.segment ∷ [] in
    let all = segments_push program c.args.at.now.walk.place l.at.walk.place l.segments.items c.in_ok-segment.segment l.invariant.segments one in
    record {
      program_is = e.program ∙ l.invariant.program_is;
      passed = e.passed;
      stays = stays_on c.args.found.now l.found c.leave_points.new.found l.invariant.stays e.stays;
      segments = subst (AreSegments program c.leave_points.new.at.walk.place c.args.at.now.walk.place) (sym c.in_ok-push.ensures.items) (subst (λ k. AreSegments program k c.args.at.now.walk.place list) e.place all);
    }

pub returns-in_err-push-clause-stays : goal.returns-in_err-push-clause-stays
returns-in_err-push-clause-stays g c =
    let l = c.loop-segments in
    stays_on c.args.found.now l.found c.leave_points.new.found l.invariant.stays c.leave_points.ensures.stays

pub returns-clause-passed : goal.returns-clause-passed
returns-clause-passed g c =
    let l = c.loop-segments in
    let start : l.at.walk.place ≡ 0 = omega (arith, c.loop-segments-test.false, c.place.ensures) in
    subst (λ k. IsPassed c.args.program.now.listing k (g.T.Tracker.tracked l.at.tracker) l.found) start l.invariant.passed

pub returns-clause-segments : goal.returns-clause-segments
returns-clause-segments g c =
    let l = c.loop-segments in
    let start : l.at.walk.place ≡ 0 = omega (arith, c.loop-segments-test.false, c.place.ensures) in
    subst (λ k. AreSegments c.args.program.now k c.args.at.now.walk.place l.segments.items) start l.invariant.segments
