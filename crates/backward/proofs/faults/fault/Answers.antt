use Rattle.std.proofs.Common.{◌<◌, length, ap₂, subst, sym}
use Rattle.std.specs.Prelude.{All}
use Rattle.std.proofs.lemmas.Result.{on_ok_weaker}
use Rattle.circuit_walk.specs.Programs.{KeptProgram}
use Rattle.step_model.specs.Chances.{chance_at}
use Rattle.step_model.specs.Targets.{targets_of}
use Rattle.backward.specs.private.Stretches.{Gives, line_for}
use Rattle.backward.proofs.LentHits.{all_of_reversed}
use Rattle.backward.proofs.PassPlaces.{hit_in_range}
use Rattle.backward.proofs.faults.fault.Goals as goal

pub note_reversed-requires-clause-named : goal.note_reversed-requires-clause-named
note_reversed-requires-clause-named g c =
    let program = c.args.program.now in
    let kept = c.in-Some.kept.now in
    subst (λ (p : KeptProgram). All (λ t. t < length (targets_of p.listing)) kept) (sym c.requires.store)
    (all_of_reversed (length (targets_of program.listing)) kept
    (subst (All (λ t. t < length (targets_of program.listing))) (sym c.in-Some.ensures)
    (hit_in_range program.listing _ (g.T.Tracker.tracked c.args.tracker.now) c.requires.words)))

pub returns-in-Some-clause-lines : goal.returns-in-Some-clause-lines
returns-in-Some-clause-lines g c =
    let holds = g.L.LineStore.holds in
    on_ok_weaker c.note_reversed.result
    (subst (Gives (holds c.args.lines.now) (holds c.note_reversed.new.lines))
    (ap₂ (λ (p : KeptProgram) targets. line_for (chance_at p.chances c.args.chance).text targets) c.requires.store c.in-Some.ensures))
    c.note_reversed.ensures.lines
