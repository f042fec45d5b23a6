use Rattle.std.proofs.Common.{◌≡◌, ◌≤◌, ◌||◌, ◌∷◌, sym, ap, ◌∙◌, subst, arith}
use Rattle.std.specs.Prelude.{All}
use Rattle.std.proofs.lemmas.List.Elements.{All-head, All-tail}
use Rattle.stim_parser.specs.declared.target.Target.{Target}
use Rattle.stim_parser.specs.Numbers.{most_qubits}
use Rattle.circuit_walk.specs.Refusals.{is_before_start, reaches_far}
use Rattle.circuit_walk.specs.Totals.{qubits_to}
use Rattle.unroll.specs.private.MadeTotals.{qubits_named}
use Rattle.unroll.proofs.targets.reach_of_any.Goals as goal

abbrev IsFew : Target → Type 0
IsFew target = qubits_to target ≤ most_qubits

pub qubits_to-requires : goal.qubits_to-requires
qubits_to-requires c =
    let cut = c.in-Some.ensures in
    All-head IsFew _ _ (subst (All IsFew) cut c.loop-first.invariant.small)

pub loop-first-preserved-then-far : goal.loop-first-preserved-then-far
loop-first-preserved-then-far c =
    let target = c.in-Some.first in
    let after = c.in-Some.after.now in
    let cut = c.in-Some.ensures in
    let all : All IsFew (target ∷ after) = subst (All IsFew) cut c.loop-first.invariant.small in
    let small = All-head IsFew target after all in
    let qubits = ap qubits_named cut in
    let here = reaches_far c.args.records c.loop-first.rest.now in
    let later = reaches_far c.args.records after in
    record {
      qubits = omega (arith, qubits, c.qubits_to.ensures, c.max-qubits.ensures, c.loop-first.invariant.qubits);
      few = omega (arith, small, c.qubits_to.ensures, c.max-qubits.ensures, c.loop-first.invariant.few);
      small = All-tail IsFew target after all;
      far =
          ap (λ b. b || later) c.if-far.true
          ∙ sym (ap (λ b. b || here) c.if-far.true)
          ∙ c.loop-first.invariant.far;
    }

pub loop-first-preserved : goal.loop-first-preserved
loop-first-preserved c =
    let target = c.in-Some.first in
    let after = c.in-Some.after.now in
    let cut = c.in-Some.ensures in
    let all : All IsFew (target ∷ after) = subst (All IsFew) cut c.loop-first.invariant.small in
    let small = All-head IsFew target after all in
    let qubits = ap qubits_named cut in
    let back = ap (reaches_far c.args.records) cut in
    let here = reaches_far c.args.records c.loop-first.rest.now in
    let later = reaches_far c.args.records after in
    let goes : c.is_far-goes_far.result ≡ is_before_start c.args.records target =
    c.is_far-goes_far.ensures in
    record {
      qubits = omega (arith, qubits, c.qubits_to.ensures, c.max-qubits.ensures, c.loop-first.invariant.qubits);
      few = omega (arith, small, c.qubits_to.ensures, c.max-qubits.ensures, c.loop-first.invariant.few);
      small = All-tail IsFew target after all;
      far =
          ap (λ b. b || later) goes
          ∙ sym back
          ∙ sym (ap (λ b. b || here) c.if-far.false)
          ∙ c.loop-first.invariant.far;
    }
