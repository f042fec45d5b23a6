-- Each turn takes the last part, whose steps are before those of the others: `last` says so.
use Rattle.std.proofs.Common.{◌≤◌, ◌++◌, refl, ap, ap₂, subst, sym, ◌∙◌, arith}
use Rattle.std.specs.Option.{option_to_list}
use Rattle.step_model.proofs.Pushing.{Pushes-nil, Pushes-trans}
use Rattle.backward.specs.private.Passes.{records_before}
use Rattle.backward.specs.private.Points.{ArePoints, first_place}
use Rattle.backward.specs.private.Segments.{AreSegments, turns_end}
use Rattle.backward.specs.private.Stretches.{text_between}
use Rattle.backward.proofs.PassLines.{text_between-parts}
use Rattle.backward.proofs.PassRecords.{records_before-earlier}
use Rattle.backward.proofs.SegmentLemmas.{IsTaken, taken}
use Rattle.backward.proofs.StretchLemmas.{Pushes-as, Pushes-failed, on_err_any, ready_at, some-then, text_between-none, text_between-three}
use Rattle.backward.proofs.segments.write_segments.Given.{Over}
use Rattle.backward.proofs.segments.write_segments.Goals as goal
use Rattle.backward.proofs.segments.write_segments.Goals.{In-Some}

last : (g : Over) (c : In-Some g) → IsTaken c.args.program.now c.loop-segment.invariant.written.start c.args.cut c.pop.new.self.items c.in-Some.segment
last g c =
    let w = c.loop-segment.invariant.written in
    taken c.args.program.now w.start c.args.cut c.pop.new.self.items c.in-Some.segment
    (subst (AreSegments c.args.program.now w.start c.args.cut) (c.pop.ensures.items ∙ ap (λ o. c.pop.new.self.items ++ option_to_list o) c.in-Some.is) w.left)

pub loop-segment-init : goal.loop-segment-init
loop-segment-init g c =
    record {
      store = refl;
      none = c.requires.none;
      tracker = c.requires.tracker;
      ready = c.requires.ready;
      written = record {
        start = 0;
        left = c.requires.segments;
        pushed = Pushes-as c.args.sink.now c.args.sink.now c.args.out.now c.args.out.now _ _ (sym (text_between-none c.args.program.now.listing 0)) Pushes-nil;
      };
    }

pub returns-then-has_failed-clause-text : goal.returns-then-has_failed-clause-text
returns-then-has_failed-clause-text g c =
    let program = c.args.program.now.listing in
    let l = c.loop-segment in
    let w = l.invariant.written in
    let part = last g (goal.at.returns-then-has_failed-clause-text g c).In-Some in
    let on = part.turned in
    let back = part.back in
    let within = part.within in
    Pushes-as c.args.sink.now l.sink c.args.out.now l.out _ _ (text_between-parts program 0 w.start c.args.cut (omega arith) (omega (arith, on, back, within)))
    (Pushes-trans w.pushed (Pushes-failed l.sink l.out (text_between program w.start c.args.cut) (sym c.has_failed.ensures ∙ c.if-has_failed.true)))

pub push_kept-requires-clause-turns : goal.push_kept-requires-clause-turns
push_kept-requires-clause-turns g c = (last g (goal.at.push_kept-requires-clause-turns g c).In-Some).part.turns

pub returns-in_err-from-clause-some : goal.returns-in_err-from-clause-some
returns-in_err-from-clause-some g c =
    let program = c.args.program.now.listing in
    let l = c.loop-segment in
    let w = l.invariant.written in
    let segment = c.in-Some.segment in
    let part = last g (goal.at.returns-in_err-from-clause-some g c).In-Some in
    let mid = turns_end segment.start segment.turns in
    let on = part.turned in
    let back = part.back in
    let within = part.within in
    on_err_any c.from_residual.result
    (some-then c.args.sink.now l.sink c.push_kept.new.sink c.args.out.now l.out c.push_kept.new.out (text_between program 0 w.start) (text_between program segment.start mid) (text_between program mid c.args.cut) _
    (ap (λ k. text_between program 0 w.start ++ (text_between program k mid ++ text_between program mid c.args.cut)) part.start_is
    ∙ text_between-three program 0 w.start mid c.args.cut (omega arith) on (omega (arith, back, within)))
    w.pushed c.in_err-from.ensures.some)

pub write_parts-requires-clause-points : goal.write_parts-requires-clause-points
write_parts-requires-clause-points g c =
    let program = c.args.program.now in
    let segment = c.in-Some.segment in
    let items = segment.points.items in
    let points = (last g (goal.at.write_parts-requires-clause-points g c).In-Some).part.points in
    subst (λ k. ArePoints program k (first_place k items) items) (sym c.in_ok-from.ensures.end) (subst (λ k. ArePoints program (turns_end segment.start segment.turns) k items) (sym points.first) points)

pub write_parts-requires-clause-ready : goal.write_parts-requires-clause-ready
write_parts-requires-clause-ready g c =
    let program = c.args.program.now.listing in
    let l = c.loop-segment in
    let place = first_place c.in_ok-from.from c.in-Some.segment.points.items in
    let part = last g (goal.at.write_parts-requires-clause-ready g c).In-Some in
    let within = part.within in
    let is = ap (λ k. first_place k c.in-Some.segment.points.items) c.in_ok-from.ensures.end ∙ part.part.points.first in
    let earlier = records_before-earlier program place c.args.cut (omega (arith, is, within)) in
    ready_at program c.args.cut place l.found l.invariant.ready (omega (arith, earlier, l.invariant.ready.lists.enough))

pub returns-in_err-write_parts-clause-some : goal.returns-in_err-write_parts-clause-some
returns-in_err-write_parts-clause-some g c =
    let program = c.args.program.now.listing in
    let w = c.loop-segment.invariant.written in
    let part = last g (goal.at.returns-in_err-write_parts-clause-some g c).In-Some in
    let mid = turns_end c.in-Some.segment.start c.in-Some.segment.turns in
    let from = c.in_ok-from.from in
    let place = first_place from c.in-Some.segment.points.items in
    let on = part.turned in
    let back = part.back in
    let within = part.within in
    let is = ap (λ k. first_place k c.in-Some.segment.points.items) c.in_ok-from.ensures.end ∙ part.part.points.first in
    on_err_any c.from_residual-in_err-write_parts.result
    (some-then c.args.sink.now c.push_kept.new.sink c.write_parts.new.sink c.args.out.now c.push_kept.new.out c.write_parts.new.out (text_between program 0 mid) (text_between program from place) (text_between program place c.args.cut) _
    (ap (λ k. text_between program 0 mid ++ (text_between program k place ++ text_between program place c.args.cut)) c.in_ok-from.ensures.end
    ∙ text_between-three program 0 mid place c.args.cut (omega arith) (omega (arith, back, is)) (omega (arith, within, is)))
    (Pushes-as c.args.sink.now c.push_kept.new.sink c.args.out.now c.push_kept.new.out _ _
    (ap (λ k. text_between program 0 w.start ++ text_between program k mid) part.start_is ∙ text_between-parts program 0 w.start mid (omega arith) on)
    (Pushes-trans w.pushed c.in_ok-from.ensures.text))
    c.in_err-write_parts.ensures.some)

pub loop-segment-preserved : goal.loop-segment-preserved
loop-segment-preserved g c =
    let program = c.args.program.now.listing in
    let l = c.loop-segment in
    let w = l.invariant.written in
    let part = last g (goal.at.loop-segment-preserved g c).In-Some in
    let mid = turns_end c.in-Some.segment.start c.in-Some.segment.turns in
    let place = first_place c.in_ok-from.from c.in-Some.segment.points.items in
    let on = part.turned in
    let back = part.back in
    let is = ap (λ k. first_place k c.in-Some.segment.points.items) c.in_ok-from.ensures.end ∙ part.part.points.first in
    let after = c.in_ok-write_parts.ensures in
    record {
      store = after.store ∙ c.in_ok-from.ensures.store ∙ l.invariant.store;
      none = after.none;
      tracker = after.tracker;
      ready = ready_at program place c.args.cut c.write_parts.new.found after.ready (subst (λ k. records_before program c.args.cut ≤ k) (sym after.known) l.invariant.ready.lists.enough);
      written = record {
        start = part.place;
        left = part.segments;
        pushed = Pushes-as c.args.sink.now c.write_parts.new.sink c.args.out.now c.write_parts.new.out _ _
            (ap₂ (λ k m. text_between program 0 w.start ++ (text_between program k mid ++ text_between program m place)) part.start_is c.in_ok-from.ensures.end
            ∙ text_between-three program 0 w.start mid place (omega arith) on (omega (arith, back, is))
            ∙ ap (text_between program 0) is)
            (Pushes-trans w.pushed (Pushes-trans c.in_ok-from.ensures.text after.text));
      };
    }
