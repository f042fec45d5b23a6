use Rattle.std.proofs.Common.{[], length, refl, ap, subst, sym, ◌∙◌, arith}
use Rattle.backward.specs.private.Passes.{IsPassed}
use Rattle.backward.specs.private.Points.{ArePoints}
use Rattle.backward.proofs.SegmentLemmas.{plain_points}
use Rattle.backward.proofs.HeldLines.{holds_none, stretch_text}
use Rattle.backward.proofs.stretch.cut.Goals as goal

pub leave_points-requires-clause-passed : goal.leave_points-requires-clause-passed
leave_points-requires-clause-passed g c =
    let p = c.in_ok-find_back.ensures.passed in
    record { within = p.within; words = p.words; lists = p.lists; judged = p.judged }

pub returns-clause-passed : goal.returns-clause-passed
returns-clause-passed g c =
    let left = c.in_ok-segment.ensures in
    subst (λ k. IsPassed c.args.program.now.listing k (g.T.Tracker.tracked c.leave_points.new.at.tracker) c.leave_points.new.found) (sym left.place ∙ left.segment.whole (left.plain refl)) left.passed

pub returns-clause-settled : goal.returns-clause-settled
returns-clause-settled g c = c.leave_points.ensures.stays.settled ∙ c.find_back.ensures.stays.settled

pub returns-clause-known : goal.returns-clause-known
returns-clause-known g c = λ e. c.leave_points.ensures.stays.known refl ∙ c.find_back.ensures.stays.known e

pub returns-in_err-segment-clause-settled : goal.returns-in_err-segment-clause-settled
returns-in_err-segment-clause-settled g c = c.leave_points.ensures.stays.settled ∙ c.find_back.ensures.stays.settled

pub returns-in_err-segment-clause-known : goal.returns-in_err-segment-clause-known
returns-in_err-segment-clause-known g c = λ e. c.leave_points.ensures.stays.known refl ∙ c.find_back.ensures.stays.known e

pub returns-clause-parts : goal.returns-clause-parts
returns-clause-parts g c =
    let program = c.args.program.now in
    let found = c.in_ok-find_back.ensures in
    let left = c.in_ok-segment.ensures in
    record {
      cut = c.find_back.new.at.walk.place;
      above = found.from;
      below = found.back;
      back = found.some;
      points = subst (λ points. ArePoints program c.args.from c.find_back.new.at.walk.place points.items) (sym c.into_points-points.ensures) (plain_points program c.args.from _ c.in_ok-segment.segment (left.plain refl) left.segment);
      text = c.take_text-end.ensures.text
          ∙ stretch_text program.listing c.find_back.new.lines.text c.find_back.new.at.walk.place c.args.at.now.walk.place (found.lines [] (holds_none c.args.lines.now.text c.requires.none)) (c.take_text-end.ensures.detectors ∙ ap (λ p. length p.listing.detectors) (c.find_back.ensures.store ∙ c.requires.store));
      enough = omega (arith, found.passed.lists.enough, left.stays.known refl);
    }

pub returns-clause-place : goal.returns-clause-place
returns-clause-place g c =
    let left = c.in_ok-segment.ensures in
    sym left.place ∙ left.segment.whole (left.plain refl)
