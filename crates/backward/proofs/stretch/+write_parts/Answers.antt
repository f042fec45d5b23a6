-- Each turn takes the last point, whose stretch is before what the others write: `last` says so, and `cut` where it is cut.
use Rattle.std.proofs.Common.{◌++◌, refl, rules, ap, subst, sym, ◌∙◌, arith}
use Rattle.step_model.proofs.Pushing.{Pushes-nil, Pushes-trans}
use Rattle.backward.specs.private.Points.{ArePoints, first_place}
use Rattle.backward.specs.private.Stretches.{text_between}
use Rattle.backward.proofs.PassLines.{text_between-parts}
use Rattle.backward.proofs.PassRecords.{records_before-earlier}
use Rattle.backward.proofs.PointLemmas.{cut_before, popped}
use Rattle.backward.proofs.StretchLemmas.{Pushes-as, Pushes-failed, on_err_any, ready_at, some-first, some-then, text_between-none, text_between-three}
use Rattle.backward.proofs.stretch.+write_parts.Goals as goal

pub loop-point-init : goal.loop-point-init
loop-point-init g t c =
    record {
      store = refl;
      none = c.requires.none;
      from = omega arith;
      points = c.requires.points;
      tracker = c.requires.tracker;
      ready = c.requires.ready;
      known = refl;
      pushed = Pushes-as c.args.sink.now c.args.sink.now c.args.out.now c.args.out.now _ _ (sym (text_between-none c.args.program.now.listing c.args.from)) Pushes-nil;
    }

pub returns-then-has_failed-clause-text : goal.returns-then-has_failed-clause-text
returns-then-has_failed-clause-text g t c =
    let program = c.args.program.now in
    let l = c.loop-point in
    let whole = first_place c.args.from c.args.points.now.items in
    let last = popped program l.start whole l.points.items c.pop.new.self.items c.pop.result c.in-Some.point c.pop.ensures.items c.in-Some.is l.invariant.points in
    Pushes-as c.args.sink.now l.sink c.args.out.now l.out _ _ (text_between-parts program.listing c.args.from l.start whole l.invariant.from (omega (arith, last.after, last.within)))
    (Pushes-trans l.invariant.pushed (Pushes-failed l.sink l.out (text_between program.listing l.start whole) (sym c.has_failed.ensures ∙ c.if-has_failed.true)))

pub cut_from-requires-clause-point : goal.cut_from-requires-clause-point
cut_from-requires-clause-point g t c =
    let l = c.loop-point in
    (popped c.args.program.now l.start (first_place c.args.from c.args.points.now.items) l.points.items c.pop.new.self.items c.pop.result c.in-Some.point c.pop.ensures.items c.in-Some.is l.invariant.points).is_point

pub cut_from-requires-clause-from : goal.cut_from-requires-clause-from
cut_from-requires-clause-from g t c =
    let l = c.loop-point in
    (popped c.args.program.now l.start (first_place c.args.from c.args.points.now.items) l.points.items c.pop.new.self.items c.pop.result c.in-Some.point c.pop.ensures.items c.in-Some.is l.invariant.points).after

pub cut_from-requires-clause-ready : goal.cut_from-requires-clause-ready
cut_from-requires-clause-ready g t c =
    let program = c.args.program.now in
    let l = c.loop-point in
    let whole = first_place c.args.from c.args.points.now.items in
    let last = popped program l.start whole l.points.items c.pop.new.self.items c.pop.result c.in-Some.point c.pop.ensures.items c.in-Some.is l.invariant.points in
    ready_at program.listing whole c.in-Some.point.walk.place l.found l.invariant.ready (omega (arith, records_before-earlier program.listing c.in-Some.point.walk.place whole last.within, l.invariant.ready.lists.enough))

pub cut_from-requires-clause-store : goal.cut_from-requires-clause-store
cut_from-requires-clause-store g t c = c.loop-point.invariant.store ∙ c.requires.store

pub returns-in_err-parts-clause-known : goal.returns-in_err-parts-clause-known
returns-in_err-parts-clause-known g t c = c.cut_from.ensures.known ∙ c.loop-point.invariant.known

pub returns-in_err-parts-clause-store : goal.returns-in_err-parts-clause-store
returns-in_err-parts-clause-store g t c = c.cut_from.ensures.store ∙ c.loop-point.invariant.store

pub returns-in_err-parts-clause-some : goal.returns-in_err-parts-clause-some
returns-in_err-parts-clause-some g t c =
    let program = c.args.program.now in
    let l = c.loop-point in
    let whole = first_place c.args.from c.args.points.now.items in
    let last = popped program l.start whole l.points.items c.pop.new.self.items c.pop.result c.in-Some.point c.pop.ensures.items c.in-Some.is l.invariant.points in
    on_err_any c.from_residual.result
    (some-first c.args.sink.now l.sink c.args.out.now l.out (text_between program.listing c.args.from l.start) (text_between program.listing l.start whole) _
    (text_between-parts program.listing c.args.from l.start whole l.invariant.from (omega (arith, last.after, last.within))) l.invariant.pushed)

pub write_parts-requires : goal.write_parts-requires
write_parts-requires g t c κs now =
    let program = c.args.program.now in
    let l = c.loop-point in
    let whole = first_place c.args.from c.args.points.now.items in
    let last = popped program l.start whole l.points.items c.pop.new.self.items c.pop.result c.in-Some.point c.pop.ensures.items c.in-Some.is l.invariant.points in
    let part = c.in_ok-parts.ensures.parts in
    let cut = cut_before program l.start _ _ c.in_ok-parts.parts last.after part in (
      omega (arith, cut.0, cut.1, last.within, l.invariant.from),
      (
        search rules,
        (
          search rules,
          (
            search rules,
            (
              subst (λ k. ArePoints program l.start k c.in_ok-parts.parts.points.items) (sym part.points.first) part.points,
              (c.in_ok-parts.ensures.tracker, (c.in_ok-parts.ensures.ready, (c.cut_from.ensures.store ∙ (l.invariant.store ∙ c.requires.store), c.in_ok-parts.ensures.none))),
            ),
          ),
        ),
      ),
    )

pub returns-in_err-write_parts-clause-known : goal.returns-in_err-write_parts-clause-known
returns-in_err-write_parts-clause-known g t c = c.write_parts.ensures.known ∙ (c.cut_from.ensures.known ∙ c.loop-point.invariant.known)

pub returns-in_err-write_parts-clause-store : goal.returns-in_err-write_parts-clause-store
returns-in_err-write_parts-clause-store g t c = c.write_parts.ensures.store ∙ (c.cut_from.ensures.store ∙ c.loop-point.invariant.store)

pub returns-in_err-write_parts-clause-some : goal.returns-in_err-write_parts-clause-some
returns-in_err-write_parts-clause-some g t c =
    let program = c.args.program.now in
    let l = c.loop-point in
    let whole = first_place c.args.from c.args.points.now.items in
    let last = popped program l.start whole l.points.items c.pop.new.self.items c.pop.result c.in-Some.point c.pop.ensures.items c.in-Some.is l.invariant.points in
    let inner = first_place l.start c.in_ok-parts.parts.points.items in
    let cut = cut_before program l.start _ _ c.in_ok-parts.parts last.after c.in_ok-parts.ensures.parts in
    on_err_any c.from_residual-in_err-write_parts.result
    (some-then c.args.sink.now l.sink c.write_parts.new.sink c.args.out.now l.out c.write_parts.new.out (text_between program.listing c.args.from l.start) (text_between program.listing l.start inner) (text_between program.listing inner whole) _
    (text_between-three program.listing c.args.from l.start inner whole l.invariant.from cut.0 (omega (arith, cut.1, last.within))) l.invariant.pushed c.in_err-write_parts.ensures.some)

pub loop-point-preserved : goal.loop-point-preserved
loop-point-preserved g t c =
    let program = c.args.program.now in
    let l = c.loop-point in
    let point = c.in-Some.point in
    let whole = first_place c.args.from c.args.points.now.items in
    let last = popped program l.start whole l.points.items c.pop.new.self.items c.pop.result point c.pop.ensures.items c.in-Some.is l.invariant.points in
    let part = c.in_ok-parts.ensures.parts in
    let inner = first_place l.start c.in_ok-parts.parts.points.items in
    let cut = cut_before program l.start _ _ c.in_ok-parts.parts last.after part in
    let known = c.write_parts.ensures.known ∙ c.cut_from.ensures.known in
    let end = part.text ∙ ap (λ k. text_between program.listing k point.walk.place) (sym part.points.first) in
    record {
      store = c.reuse.ensures.program ∙ (c.write_parts.ensures.store ∙ (c.cut_from.ensures.store ∙ l.invariant.store));
      none = ap (λ held. held.text) c.reuse.ensures.text ∙ c.in_ok-write_parts.ensures.none;
      from = omega (arith, last.after, l.invariant.from, c.place-end.ensures);
      points = subst (λ k. ArePoints program k whole c.pop.new.self.items) (sym c.place-end.ensures) last.points;
      ready = ready_at program.listing inner whole c.write_parts.new.found c.in_ok-write_parts.ensures.ready (omega (arith, known, l.invariant.ready.lists.enough));
      tracker = c.in_ok-write_parts.ensures.tracker;
      known = known ∙ l.invariant.known;
      pushed = Pushes-as c.args.sink.now c.push_to.new.sink c.args.out.now c.push_to.new.out _ _ ((ap (λ bytes. text_between program.listing c.args.from l.start ++ (text_between program.listing l.start inner ++ bytes)) end ∙ text_between-three program.listing c.args.from l.start inner point.walk.place l.invariant.from cut.0 (omega (arith, cut.1))) ∙ ap (text_between program.listing c.args.from) (sym c.place-end.ensures))
          (Pushes-trans l.invariant.pushed (Pushes-trans c.in_ok-write_parts.ensures.text c.push_to.ensures));
    }

pub returns-then-has_failed-clause-tracker : goal.returns-then-has_failed-clause-tracker
returns-then-has_failed-clause-tracker g t c = c.loop-point.invariant.tracker

pub returns-then-has_failed-clause-ready : goal.returns-then-has_failed-clause-ready
returns-then-has_failed-clause-ready g t c = c.loop-point.invariant.ready

pub returns-then-has_failed-clause-known : goal.returns-then-has_failed-clause-known
returns-then-has_failed-clause-known g t c = c.loop-point.invariant.known

pub returns-then-has_failed-clause-none : goal.returns-then-has_failed-clause-none
returns-then-has_failed-clause-none g t c = c.loop-point.invariant.none

pub returns-then-has_failed-clause-store : goal.returns-then-has_failed-clause-store
returns-then-has_failed-clause-store g t c = c.loop-point.invariant.store

pub returns-clause-tracker : goal.returns-clause-tracker
returns-clause-tracker g t c = c.loop-point.invariant.tracker

pub returns-clause-ready : goal.returns-clause-ready
returns-clause-ready g t c = c.loop-point.invariant.ready

pub returns-clause-known : goal.returns-clause-known
returns-clause-known g t c = c.loop-point.invariant.known

pub returns-clause-none : goal.returns-clause-none
returns-clause-none g t c = c.loop-point.invariant.none

pub returns-clause-store : goal.returns-clause-store
returns-clause-store g t c = c.loop-point.invariant.store

pub cut_from-requires-clause-none : goal.cut_from-requires-clause-none
cut_from-requires-clause-none g t c = c.loop-point.invariant.none

pub cut_from-requires-clause-tracker : goal.cut_from-requires-clause-tracker
cut_from-requires-clause-tracker g t c = c.loop-point.invariant.tracker
