-- The instruction that the place is inside is gone over.
use Rattle.std.proofs.Common.{Some, refl, sym, subst}
use Rattle.circuit_walk.specs.private.Walks.{IsReady}
use Rattle.circuit_walk.proofs.MoveLemmas.{behind_last, goes_between, over_first}
use Rattle.circuit_walk.proofs.course.Course.leave.Goals as goal

pub pass-requires-clause-faces : goal.pass-requires-clause-faces
pass-requires-clause-faces g c = (c.requires.course.1.inside c.if-self.true).faced

pub returns-then-self-clause-course : goal.returns-then-self-clause-course
returns-then-self-clause-course g c program h =
    let old = c.args.self.now in
    let within = h.inside c.if-self.true in
    let n = program.listing.qubits in
    let items = old.text.items.now.items in
    let moved = over_first items old.cursor c.pass.new.self (Some old.cursor.index) within.instruction within.rest c.pass.ensures.over within.left in
    goes_between program old _ h refl refl refl refl c.none-self.ensures.at c.none-self.ensures.end c.pass.ensures.place
    (subst (λ is. IsReady n is old.counts old.steps) (sym moved) (behind_last n program.chances items old.cursor old.here old.counts old.steps within c.requires.done))
