-- A fault that happens in no run changes no frame.
use Rattle.std.proofs.Common.{None, ap, sym, ◌∙◌}
use Rattle.bit_rows.specs.Lanes.{lane_bit}
use Rattle.bit_rows.proofs.LaneLaws.{lane_bit-zero}
use Rattle.frames.proofs.FollowedSteps.{fault_followed}
use Rattle.frames.proofs.QuietFaults.{quiet-goes}
use Rattle.frames.proofs.steps.apply_fault.Goals as goal

pub returns-then-runs-eq0-clause-goes : goal.returns-then-runs-eq0-clause-goes
returns-then-runs-eq0-clause-goes g c =
    quiet-goes c.args.program.now.listing c.args.faults.now c.args.name.number 0 c.args.frames.now
    (λ j. sym (c.word_at-runs.ensures j) ∙ (ap (lane_bit j) c.if-runs-eq0.true ∙ lane_bit-zero j))

pub returns-clause-goes : goal.returns-clause-goes
returns-clause-goes g c =
    fault_followed c.args.program.now c.args.faults.now None 0 c.word_at-runs.result c.args.name c.args.letters c.args.frames.now c.times_letters.new.self c.requires.qubits c.requires.of_program c.word_at-runs.ensures c.times_letters.ensures
