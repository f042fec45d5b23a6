use Rattle.std.proofs.Common.{arith}
use Rattle.error_models.specs.ModelText.{line_text}
use Rattle.error_models.proofs.ShortLineLemmas.{Pushes-one, items_more}
use Rattle.error_models.proofs.text.write_lines.Goals as goal

pub loop-line-preserved : goal.loop-line-preserved
loop-line-preserved g c =
    record {
      within = c.write_some-line.ensures.within;
      pushed =
          Pushes-one c.loop-line.invariant.pushed c.write_some-line.ensures.pushed
          (items_more (line_text c.args.model.now.detectors) c.args.model.now.lines c.loop-line.line c.write_some-line.result (omega (arith, c.write_some-line.ensures.some)));
    }
