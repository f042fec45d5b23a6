-- The line of the lone letter.
use Rattle.std.proofs.Common.{◌+◌, drop, refl, ap, subst, sym}
use Rattle.std.proofs.lemmas.Result.{on_ok_weaker}
use Rattle.step_model.specs.Chances.{chance_at}
use Rattle.trackers.specs.Tracked.{anticommuting}
use Rattle.backward.specs.private.Stretches.{Gives, line_for}
use Rattle.backward.proofs.PassSteps.{words_of_size}
use Rattle.backward.proofs.StepLemmas.{fault_over, terms_at_qubits}
use Rattle.backward.proofs.faults.fault_back.Goals as goal

pub fault-requires-clause-chance : goal.fault-requires-clause-chance
fault-requires-clause-chance g c = c.requires.named.0.chance

pub fault-requires-clause-terms : goal.fault-requires-clause-terms
fault-requires-clause-terms g c = terms_at_qubits c.args.program.now (g.T.Tracker.tracked c.args.tracker.now) c.args.letters _ (ap (λ t. t.qubits) c.requires.passed.words) c.in-Some.ensures c.requires.named.3

pub fault-requires-clause-words : goal.fault-requires-clause-words
fault-requires-clause-words g c =
    let program = c.args.program.now.listing in
    words_of_size program (drop (c.args.place + 1) program.steps) (g.T.Tracker.tracked c.args.tracker.now) c.requires.passed.words

pub returns-in-Some : goal.returns-in-Some
returns-in-Some g c =
    let holds = g.L.LineStore.holds in
    let tracked = g.T.Tracker.tracked in
    let lines =
    on_ok_weaker c.fault.result
    (subst (Gives (holds c.args.lines.now) (holds c.fault.new.lines))
    (ap (λ terms. line_for (chance_at c.args.program.now.chances c.args.name.chance).text (anticommuting terms (tracked c.args.tracker.now))) (sym c.in-Some.ensures)))
    c.fault.ensures.lines in
    fault_over c.args.program.now c.args.name c.args.letters c.requires.step c.requires.named c.requires.passed c.fault.ensures.words
    (λ p. record { within = p.within; words = p.words; lists = p.lists; judged = p.judged }) refl refl refl lines c.fault.ensures.store
