-- The words stay as they are over faults, and are those before each step that is undone then.
use Rattle.std.proofs.Common.{◌∙◌, refl}
use Rattle.backward.proofs.PassFaults.{passed-faults}
use Rattle.backward.proofs.points.back_without_lines.Goals as goal

pub returns-then-place-to-clause-passed : goal.returns-then-place-to-clause-passed
returns-then-place-to-clause-passed g c =
    let at = c.args.at.now in
    passed-faults c.args.program.now (g.T.Tracker.tracked at.tracker) c.args.found.now at.walk.program c.args.to at.walk.place c.pass_faults_back.new.self.place c.requires.program c.pass_faults_back.ensures.passed c.requires.passed

pub steps_back-requires-clause-stands : goal.steps_back-requires-clause-stands
steps_back-requires-clause-stands g c =
    let at = c.args.at.now in
    record {
      program_is = c.pass_faults_back.ensures.program ∙ c.requires.program;
      store = refl;
      passed = passed-faults c.args.program.now (g.T.Tracker.tracked at.tracker) c.args.found.now at.walk.program c.args.to at.walk.place c.pass_faults_back.new.self.place c.requires.program c.pass_faults_back.ensures.passed c.requires.passed;
    }
