-- Each step that is gone back over is a fault of one instruction.
use Rattle.std.proofs.Common.{◌≡◌, ◌<◌, ◌+◌, ◌-◌, true, ap, ◌∙◌, subst, arith}
use Rattle.std.specs.Prelude.{slice_get}
use Rattle.circuit_walk.specs.Programs.{Walked}
use Rattle.circuit_walk.specs.Walks.{is_fault}
use Rattle.circuit_walk.proofs.walk.Walk.pass_run.Goals as goal

pub returns-clause-each : goal.returns-clause-each
returns-clause-each g c k from to =
    let inside = c.self.inside in
    let program = inside.program.now in
    let passed = c.pass_faults_back.ensures.passed program c.self.invariant in
    let new = c.pass_faults_back.new.self.steps in
    let there : k ≡ new + (k - new) = omega (arith, from) in
    let below : k - new < c.pass_faults_back.result = omega (arith, from, to, c.pass_faults_back.ensures.place, ap (λ (v : Walked). v.place) c.self.view_is) in
    subst (λ (v : Walked). is_fault (slice_get v.program.listing.steps k) ≡ true) c.self.view_is
    (ap (λ p. is_fault (slice_get program.listing.steps p)) there ∙ ap is_fault (passed (k - new) below))
