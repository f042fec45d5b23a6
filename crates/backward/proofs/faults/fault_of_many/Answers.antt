use Rattle.std.proofs.Common.{◌<◌, ap, subst, sym}
use Rattle.std.specs.Prelude.{All}
use Rattle.std.proofs.lemmas.Result.{on_ok_weaker}
use Rattle.step_model.specs.Chances.{chance_at}
use Rattle.trackers.specs.Tracked.{anticommuting}
use Rattle.backward.specs.private.Stretches.{Gives, line_for}
use Rattle.backward.proofs.faults.fault_of_many.Goals as goal

pub fault-requires-clause-terms : goal.fault-requires-clause-terms
fault-requires-clause-terms g c =
    subst (All (λ term. term.qubit < (g.T.Tracker.tracked c.args.tracker.now).qubits)) (sym c.in_ok-terms.ensures) c.requires.terms

pub returns-clause-lines : goal.returns-clause-lines
returns-clause-lines g c =
    let holds = g.L.LineStore.holds in
    on_ok_weaker c.fault.result
    (subst (Gives (holds c.args.lines.now) (holds c.fault.new.lines))
    (ap (λ terms. line_for (chance_at c.args.program.now.chances c.args.chance).text (anticommuting terms (g.T.Tracker.tracked c.args.tracker.now))) c.in_ok-terms.ensures))
    c.fault.ensures.lines
