use Rattle.std.proofs.Common.{ap, sym, ◌∙◌, [], ◌∷◌, ◌++◌}
use Rattle.std.proofs.lemmas.Bool.{eqb-true}
use Rattle.std.proofs.lemmas.List.{nil_from_length}
use Rattle.stim_parser.specs.declared.target.Target.{Target}
use Rattle.stim_parser.proofs.TargetPieces.{read-first, read-last, read-next}
use Rattle.stim_parser.proofs.target.read_targets.Goals as goal

pub loop-qubit-init : goal.loop-qubit-init
loop-qubit-init g c = record {
  read = read-first c.args.text.now c.after_blanks-rest.result.now (g.L.LineTargets.targets c.clear.new.self) c.clear.ensures.targets c.after_blanks-rest.ensures;
  others = c.clear.ensures.others;
}

pub loop-qubit-preserved : goal.loop-qubit-preserved
loop-qubit-preserved g c = record {
  read = read-next c.loop-qubit.rest.now c.in-Some.after.now c.after_blanks-rest-in-Some.result.now c.in-Some.qubit (g.L.LineTargets.targets c.loop-qubit.targets) (g.L.LineTargets.targets c.push.new.self) (c.in_ok-push.ensures.targets ∙ ap (λ (target : Target). g.L.LineTargets.targets c.loop-qubit.targets ++ target ∷ []) c.new.ensures) c.in-Some.ensures.number c.after_blanks-rest-in-Some.ensures
      ∙ c.loop-qubit.invariant.read;
  others = c.in_ok-push.ensures.others ∙ c.loop-qubit.invariant.others;
}

pub returns-then-is_empty-clause-read : goal.returns-then-is_empty-clause-read
returns-then-is_empty-clause-read g c =
    read-last c.args.text.now c.loop-qubit.rest.now (g.L.LineTargets.targets c.loop-qubit.targets) (nil_from_length _ (eqb-true _ _ (sym c.is_empty.ensures ∙ c.if-is_empty.true))) c.loop-qubit.invariant.read
