use Rattle.std.proofs.Common.{length, get_or, false, sym, ap, ◌∙◌, arith}
use Rattle.bit_rows.specs.Lanes.{lane, lane_bit}
use Rattle.bit_rows.proofs.LaneLaws.{lane_bit-zero}
use Rattle.circuit_walk.specs.NamedRecords.{records_in}
use Rattle.pauli_word.specs.Parity.{exclusive_or}
use Rattle.pauli_word.proofs.Parities.{exclusive_or_assoc, exclusive_or-false}
use Rattle.step_model.specs.Targets.{parity}
use Rattle.frames.proofs.frames.Frames.parity.Goals as goal

pub loop-rec-init : goal.loop-rec-init
loop-rec-init g c j = ap (λ b. exclusive_or b (parity (records_in c.args.named) (lane j c.args.self.now.flips))) (lane_bit-zero j)

pub loop-rec-smaller : goal.loop-rec-smaller
loop-rec-smaller g c = omega (arith, ap length c.in-Some.ensures)

pub loop-rec-preserved : goal.loop-rec-preserved
loop-rec-preserved g c j =
    let flips = lane j c.args.self.now.flips in
    let odd = lane_bit j c.loop-rec.odd in
    let rest = records_in c.in-Some.rest in
    ap (λ b. exclusive_or b (parity rest flips)) (c.xor-odd.ensures j ∙ ap (exclusive_or odd) (c.flips.ensures j))
    ∙ exclusive_or_assoc odd (get_or flips c.in-Some.rec false) (parity rest flips)
    ∙ ap (λ named. exclusive_or odd (parity named flips)) (sym c.in-Some.ensures)
    ∙ c.loop-rec.invariant j

pub returns : goal.returns
returns g c j =
    let flips = lane j c.args.self.now.flips in
    let odd = lane_bit j c.loop-rec.odd in
    sym (exclusive_or-false odd)
    ∙ ap (λ named. exclusive_or odd (parity named flips)) (sym c.in_default.ensures)
    ∙ c.loop-rec.invariant j
