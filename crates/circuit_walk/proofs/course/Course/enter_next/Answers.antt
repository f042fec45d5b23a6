-- The next instruction is entered before its first step.
use Rattle.std.proofs.Common.{◌≡◌, Some, refl, sym, ◌∙◌, subst}
use Rattle.std.specs.Prelude.{slice_get}
use Rattle.cursor.specs.Moves.{Faces}
use Rattle.stim_lexer.specs.Trees.{InstructionLine}
use Rattle.circuit_walk.specs.private.Walks.{is_step_maker, IsReady}
use Rattle.circuit_walk.proofs.MoveLemmas.{all_behind, goes_inside, into_first, mark_of, ready_between, sound_next}
use Rattle.circuit_walk.proofs.course.Course.enter_next.Goals as goal

pub steps_at-self-requires : goal.steps_at-self-requires
steps_at-self-requires g c =
    let next = c.in-Some.ensures.next in
    let h = c.leave.ensures.course c.requires.course.0 c.requires.course.1 in
    let sound = sound_next c.requires.course.0 c.leave.new.self.text c.face.new.self next.0 next.1 h.held c.in-Some.ensures.place next.4 in
    (next.0, next.2, sound.fits)

pub returns-in-Some-clause-course : goal.returns-in-Some-clause-course
returns-in-Some-clause-course g c program before =
    let left = c.leave.new.self in
    let h = c.leave.ensures.course program before in
    let next = c.in-Some.ensures.next in
    let n = program.listing.qubits in
    let sound = sound_next program left.text c.face.new.self next.0 next.1 h.held c.in-Some.ensures.place next.4 in
    let faced : Faces is_step_maker left.text.items.now.items c.face.new.self.index =
    (next.0, subst (λ j. slice_get left.text.items.now.items j ≡ Some (InstructionLine next.0)) c.in-Some.ensures.here next.2, next.3) in
    let ready = subst (λ is. IsReady n is left.counts left.steps) (sym c.in-Some.ensures.same.before) (ready_between program left h c.leave.ensures.outside) in
    goes_inside program left _ h refl refl refl refl c.in-Some.ensures.place
    (into_first n program.chances left.text.items.now.items c.face.new.self c.steps_at-self.result left.counts left.steps next.0 next.1 next.4 faced ready (c.steps_at-self.ensures.steps next.0 next.2) c.steps_at-self.ensures.at sound.near (mark_of program left.text _ next.0 c.steps_at-self.result.chance h.held next.2 c.steps_at-self.ensures.chance))

pub returns-in-None-clause-none : goal.returns-in-None-clause-none
returns-in-None-clause-none g c program before _ =
    let left = c.leave.new.self in
    let h = c.leave.ensures.course program before in
    let n = program.listing.qubits in
    let ready = subst (λ is. IsReady n is left.counts left.steps) (sym c.in-None.ensures.same.before) (ready_between program left h c.leave.ensures.outside) in
    sym c.leave.ensures.place ∙ all_behind program left.text c.face.new.self left.counts left.steps h.held c.in-None.ensures.place c.in-None.ensures.next ready
