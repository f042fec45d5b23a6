-- A term is lower than those before it, or doesn't stand between.
use Rattle.std.proofs.Common.{◌<◌, ◌≤◌, inl, inr, sym, subst, arith}
use Rattle.std.specs.Prelude.{◌⊎◌}
use Rattle.std.proofs.lemmas.List.Elements.{All-nil}
use Rattle.step_model.specs.declared.step.Term.{Term}
use Rattle.circuit_walk.specs.Letters.{letters_in}
use Rattle.fault_list.proofs.SpanLemmas.{NoneBetween, none_more}
use Rattle.fault_list.proofs.word.lowest_from.Goals as goal
use Rattle.fault_list.proofs.word.lowest_from.Goals.{else-from-term-via-then-from-term+else-term-lowest, else-from-term-via-else-from-term}

pub loop-term-preserved-then-term-lowest : goal.loop-term-preserved-then-term-lowest
loop-term-preserved-then-term-lowest c =
    record {
      small = c.in-Some.ensures.small;
      from = c.if-from-term.true;
      within = omega (arith, c.if-term-lowest.true, c.loop-term.invariant.within);
      lowest =
          λ m low others. c.loop-term.invariant.lowest m (omega (arith, low, c.if-term-lowest.true))
          (none_more c.in-Some.term (letters_in c.in-Some.rest) (letters_in c.loop-term.left) c.args.from m c.in-Some.ensures.letters (inr low) others);
    }

pub loop-term-preserved : goal.loop-term-preserved
loop-term-preserved c =
    let term = c.in-Some.term in
    let away : (term.qubit < c.args.from) ⊎ (c.loop-term.lowest ≤ term.qubit) = elim c.else-from-term.branch [
      | else-from-term-via-then-from-term+else-term-lowest w ↦ inr w.if-term-lowest.false
      | else-from-term-via-else-from-term w ↦ inl w.if-from-term.false
    ] in
    record {
      small = c.in-Some.ensures.small;
      from = c.loop-term.invariant.from;
      within = c.loop-term.invariant.within;
      lowest =
          λ m low others.
          let stays : (term.qubit < c.args.from) ⊎ (m ≤ term.qubit) = elim away [
            | inl before ↦ inl before
            | inr past ↦ inr (omega (arith, low, past))
          ] in
          c.loop-term.invariant.lowest m low
          (none_more term (letters_in c.in-Some.rest) (letters_in c.loop-term.left) c.args.from m c.in-Some.ensures.letters stays others);
    }

pub returns-clause-lowest : goal.returns-clause-lowest
returns-clause-lowest c =
    let lowest = c.loop-term.lowest in
    c.loop-term.invariant.lowest lowest (omega arith)
    (subst (λ ts. NoneBetween ts c.args.from lowest) (sym c.in_default.ensures.letters)
    (All-nil (λ (t : Term). (t.qubit < c.args.from) ⊎ (lowest ≤ t.qubit))))
