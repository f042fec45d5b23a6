use Rattle.std.proofs.Common.{◌≡◌, ◌<◌, ◌≤◌, [], inl, inr, length, get_or, refl, ap, subst, sym, ◌∙◌, rules, arith}
use Rattle.std.specs.Prelude.{All, Bool, Option, None, Some, false, not, true}
use Rattle.std.specs.Option.{is_some}
use Rattle.backward.specs.private.Points.{ArePoints}
use Rattle.backward.proofs.PointLemmas.{kept_on_way, kept_way, left_behind, left_on_way, segment_of, step_before}
use Rattle.backward.proofs.StepLemmas.{stays_as, stays_on}
use Rattle.backward.proofs.points.leave_points.Goals as goal
use Rattle.backward.proofs.points.leave_points.Goals.{then-place-next+in_ok-bytes, else-place-next, then-loop-at-test+else-place-from, else-loop-at-test}

no_turns : {X : Type 0} (o : Option X) (b : Bool) → o ≡ None → is_some o ≡ not b → b ≡ false → ⊥
no_turns None b e f g = let some : false ≡ true = f ∙ ap not g in cc
no_turns (Some x) b e f g = cc

pub loop-at-init : goal.loop-at-init
loop-at-init g c =
    let none : c.new-points.result.items ≡ [] = search rules in
    record {
      program_is = refl;
      above = c.requires.from;
      below = omega arith;
      passed = c.requires.passed;
      stays = stays_as refl refl refl;
      points = inl (refl, (none, omega (arith, c.place-end.ensures)));
      behind = λ k d lt. absurd (omega (arith, lt, ap length none));
      kept = tt;
      plain = λ e. refl;
    }

pub loop-at-preserved : goal.loop-at-preserved
loop-at-preserved g c =
    let tracked = g.T.Tracker.tracked in
    let program = c.args.program.now in
    let cut = c.args.at.now.walk.place in
    let l = c.loop-at in
    let place = l.at.walk.place in
    let e = c.in_ok-turns.ensures in
    let at = c.back_over.new.at in
    let points = c.if-place-next.points.items in
    let above : c.args.from < place = omega (arith, c.if-place-from.true, c.place.ensures) in
    let back : at.walk.place < place = e.back in
    let left : ArePoints program c.args.from cut points × All (λ p. place ≤ p.walk.place) points =
    elim c.if-place-next.branch [
      | then-place-next+in_ok-bytes w ↦
          let items = sym (ap (λ v. v.items) w.points-is) in (
            subst (ArePoints program c.args.from cut) items
                (left_on_way program tracked c.args.from cut l.next l.at l.found l.points.items _ above (l.invariant.program_is ∙ c.requires.program) l.invariant.passed l.invariant.behind w.in_ok-bytes.ensures l.invariant.points),
            subst (All (λ p. place ≤ p.walk.place)) items (left_behind program tracked l.at l.points.items _ l.invariant.behind w.in_ok-bytes.ensures),
          )
      | else-place-next w ↦
          let items = sym (ap (λ v. v.items) w.points-is) in (
            subst (ArePoints program c.args.from cut) items
                (kept_on_way program c.args.from cut place l.next l.points.items (omega (arith, w.if-place-next.false, c.place-in-loop-at.ensures)) l.invariant.points),
            subst (All (λ p. place ≤ p.walk.place)) items (λ k d lt. let before : place < (get_or l.points.items k d).walk.place = l.invariant.behind k d lt in omega (arith, before)),
          )
    ] in
    record {
      program_is = e.passed.program_is ∙ l.invariant.program_is;
      above = e.passed.above;
      below = omega (arith, back, l.invariant.below);
      passed = e.passed.passed;
      stays = stays_on c.args.found.now l.found c.back_over.new.found l.invariant.stays e.passed.stays;
      points = inr (omega (arith, back, l.invariant.below), left.0);
      behind = step_before program at.walk.place place points back left.1;
      kept = kept_way program cut at.walk.place place points c.in_ok-turns.turns l.invariant.below left.1 e.turns;
      plain = e.plain;
    }

pub returns-clause-segment : goal.returns-clause-segment
returns-clause-segment g c =
    let l = c.loop-at in
    let i = l.invariant in
    let whole : l.turns ≡ None → l.at.walk.place ≡ c.args.from =
    elim c.loop-at-test.branch [
      | then-loop-at-test+else-place-from w ↦ λ e. omega (arith, w.if-place-from.false, w.place.ensures, i.above)
      | else-loop-at-test w ↦ λ e. absurd (no_turns l.turns c.is_none.result e c.is_none.ensures w.loop-at-test.false)
    ] in
    segment_of c.args.program.now c.args.from c.args.at.now.walk.place l.at.walk.place l.next _ c.place-2.ensures i.above i.below i.points i.kept whole
