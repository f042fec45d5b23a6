use Rattle.std.proofs.Common.{◌≡◌, ◌<◌, ◌+◌, ◌-◌, ◌++◌, length, take, drop, ap, sym, ◌∙◌, arith}
use Rattle.std.specs.List.{flat_map}
use Rattle.error_models.specs.ErrorLines.{no_line, line_at}
use Rattle.error_models.specs.ModelText.{line_text}
use Rattle.std.proofs.lemmas.List.{drop_all}
use Rattle.error_models.proofs.ShortLineLemmas.{items_from}
use Rattle.error_models.proofs.line_runs.lines_before.Goals as goal

pub loop-left-init : goal.loop-left-init
loop-left-init g c =
    let none : c.args.next - c.args.next ≡ 0 = omega arith in
    record {
      from = c.requires.from;
      within = omega arith;
      room = omega (arith, c.requires.few, c.requires.from);
      end = omega arith;
      written =
          drop_all 4096 c.args.buffer.now (omega (arith, c.told-buffer))
          ∙ sym (ap (λ n. flat_map (line_text c.args.model.now.detectors) (take n (drop c.args.next c.args.model.now.lines))) none);
    }

pub loop-left-preserved : goal.loop-left-preserved
loop-left-preserved g c =
    let lines = c.args.model.now.lines in
    let text = line_text c.args.model.now.detectors in
    let here = c.loop-left.left - 1 in
    let back : here + 1 ≡ c.loop-left.left = omega (arith, c.loop-left-test.true) in
    let within : here < length lines = omega (arith, c.loop-left-test.true, c.loop-left.invariant.within, c.requires.within) in
    let line = rw (c.detector_count-detectors.ensures.count, c.line_text.ensures, c.targets.ensures) at c.line_before-at.ensures.written in
    record {
      from = omega (arith, c.loop-left-test.true);
      within = omega (arith, c.loop-left.invariant.within);
      room = omega (arith, c.loop-left.invariant.room, c.line_before-at.ensures.least, c.loop-left-test.true);
      end = omega (arith, c.loop-left.invariant.end, c.line_before-at.ensures.within);
      written =
          line
          ∙ ap (λ rest. text (line_at c.args.model.now here) ++ rest)
          (c.loop-left.invariant.written ∙ ap (λ n. flat_map text (take (c.args.next - n) (drop n lines))) (sym back))
          ∙ items_from text lines here c.args.next no_line (omega (arith, c.loop-left-test.true, c.loop-left.invariant.within)) within;
    }
