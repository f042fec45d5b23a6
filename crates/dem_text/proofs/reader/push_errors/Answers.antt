use Rattle.std.proofs.Common.{refl}
use Rattle.dem_text.proofs.BuildLemmas.{unrolling-done, unrolling-here, unrolling-next}
use Rattle.dem_text.proofs.OverKept.{passes, rest-done}
use Rattle.dem_text.proofs.reader.push_errors.Goals as goal

pub push_error-requires : goal.push_error-requires
push_error-requires g c =
    let p = passes _ _ _ _ _ _ c.loop-place.invariant.over c.in-Some.ensures.place c.in-Some.ensures.over c.line-line.ensures in
    let here = unrolling-here c.args.counts.detectors c.args.counts.observables _ _ _ _ _ c.loop-place.invariant.unrolling (p.first _ refl) in
    record { detectors = rw p.line_is.targets_are here.0; observables = rw p.line_is.targets_are here.1; few = c.requires.few }

pub pass-requires : goal.pass-requires
pass-requires g c =
    let p = passes _ _ _ _ _ _ c.loop-place.invariant.over c.in-Some.ensures.place c.in-Some.ensures.over c.line-line.ensures in
    record { known = record { instruction = p.instruction; brief_is = p.line_is.brief_is }; room = p.room }

pub loop-place-preserved : goal.loop-place-preserved
loop-place-preserved g c =
    let p = passes _ _ _ _ _ _ c.loop-place.invariant.over c.in-Some.ensures.place c.in-Some.ensures.over c.line-line.ensures in
    let shifts = c.pass.ensures p.instruction p.line_is.brief_is in
    record {
      over = p.after _ shifts;
      unrolling =
          unrolling-next c.args.counts.detectors c.args.counts.observables _ _ _ _ _ _ c.loop-place.invariant.unrolling (p.first _ shifts)
          (c.in_ok-push_error.ensures p.instruction p.line_is);
    }

pub returns : goal.returns
returns g c =
    unrolling-done c.args.counts.detectors c.args.counts.observables _ _ _ c.loop-place.invariant.unrolling
    (rest-done c.args.kept.now c.loop-place.cursor c.loop-place.shift c.in_default.ensures.over.0)
