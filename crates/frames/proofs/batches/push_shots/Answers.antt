-- Batch after batch.
use Rattle.std.proofs.Common.{◌≡◌, ◌+◌, ◌-◌, ◌++◌, length, refl, sym, ap, ap₂, subst, ◌∙◌, arith}
use Rattle.step_model.specs.Pushed.{Pushes}
use Rattle.step_model.proofs.Pushing.{Pushes-nil, Pushes-trans}
use Rattle.forward_sim.proofs.SideLemmas.{none_taken}
use Rattle.frames.specs.Sampled.{lines_from, shot_generator}
use Rattle.frames.specs.Shown.{shown_line}
use Rattle.frames.proofs.PushLemmas.{Pushes-failed}
use Rattle.frames.proofs.TextLemmas.{lines_joined, shots_after}
use Rattle.frames.proofs.batches.push_shots.Goals as goal

pub loop-left-init : goal.loop-left-init
loop-left-init g c =
    let program = c.args.runs.now.program in
    let rng = c.args.rng.now in
    let none : c.args.shots - c.args.shots ≡ 0 = omega arith in
    record {
      within = omega arith;
      same = refl;
      shown = refl;
      fit = c.requires;
      lines =
          subst (λ n. Pushes g.W.Sink.taken g.W.Sink.failures c.args.sink.now c.args.sink.now c.args.out.now c.args.out.now (lines_from (shown_line c.args.runs.now.shown) program n rng))
          (sym none) Pushes-nil;
      taken = sym (ap (shot_generator program rng) none ∙ none_taken (length program.faults) program.collapses rng);
    }

pub overflow_sub-left : goal.overflow_sub-left
overflow_sub-left g c = omega (arith, c.from-left.ensures, c.next_count-count.ensures.within)

pub push_batch-requires : goal.push_batch-requires
push_batch-requires g c =
    record { fit = c.loop-left.invariant.fit; count = c.next_count-count.ensures.few }

pub loop-left-preserved : goal.loop-left-preserved
loop-left-preserved g c =
    let line = shown_line c.args.runs.now.shown in
    let program = c.args.runs.now.program in
    let rng = c.args.rng.now in
    let at = c.loop-left.invariant in
    let batch = c.push_batch.ensures in
    let size = c.next_count-count.ensures in
    let count = c.next_count-count.result in
    let done = c.args.shots - c.loop-left.left in
    let left = c.loop-left.left - c.from-left.result in
    let whole : done + count ≡ c.args.shots - left = omega (arith, size.within, at.within, c.from-left.ensures) in
    let text : lines_from line program done rng ++ lines_from (shown_line c.loop-left.runs.shown) c.loop-left.runs.program count c.loop-left.rng ≡ lines_from line program (c.args.shots - left) rng =
    ap (λ shown. lines_from line program done rng ++ lines_from (shown_line shown) c.loop-left.runs.program count c.loop-left.rng) at.shown
    ∙ (ap₂ (λ p r. lines_from line program done rng ++ lines_from line p count r) at.same at.taken
    ∙ (lines_joined line program done count rng
    ∙ ap (λ n. lines_from line program n rng) whole)) in
    record {
      within = omega (arith, at.within);
      same = batch.program ∙ at.same;
      shown = batch.shown ∙ at.shown;
      fit = batch.fit;
      lines =
          subst (λ bytes. Pushes g.W.Sink.taken g.W.Sink.failures c.args.sink.now c.push_batch.new.sink c.args.out.now c.push_batch.new.out bytes) text
          (Pushes-trans at.lines batch.lines);
      taken =
          batch.taken
          ∙ (ap₂ (λ p r. shot_generator p r count) at.same at.taken
          ∙ (shots_after (length program.faults) program.collapses done count rng
          ∙ ap (shot_generator program rng) whole));
    }

pub returns : goal.returns
returns g c =
    let all : c.args.shots - c.loop-left.left ≡ c.args.shots = omega arith in
    subst (λ n. Pushes g.W.Sink.taken g.W.Sink.failures c.args.sink.now c.loop-left.sink c.args.out.now c.loop-left.out (lines_from (shown_line c.args.runs.now.shown) c.args.runs.now.program n c.args.rng.now))
    all c.loop-left.invariant.lines

-- what is left out changes nothing any more
pub returns-then-has_failed : goal.returns-then-has_failed
returns-then-has_failed g c =
    let line = shown_line c.args.runs.now.shown in
    let program = c.args.runs.now.program in
    let rng = c.args.rng.now in
    let at = c.loop-left.invariant in
    let left = c.loop-left.left in
    let done = c.args.shots - left in
    let whole : done + left ≡ c.args.shots = omega (arith, at.within) in
    let rest = lines_from line program left (shot_generator program rng done) in
    subst (λ bytes. Pushes g.W.Sink.taken g.W.Sink.failures c.args.sink.now c.loop-left.sink c.args.out.now c.loop-left.out bytes)
    (lines_joined line program done left rng ∙ ap (λ n. lines_from line program n rng) whole)
    (Pushes-trans at.lines (Pushes-failed rest (sym c.has_failed.ensures ∙ c.if-has_failed.true)))
