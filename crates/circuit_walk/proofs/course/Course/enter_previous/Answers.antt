-- The instruction before is entered behind its last step.
use Rattle.std.proofs.Common.{◌≡◌, [], length, Some, refl, sym, ap, ◌∙◌, subst}
use Rattle.std.specs.Prelude.{slice_get}
use Rattle.cursor.specs.Moves.{Faces}
use Rattle.stim_lexer.specs.Trees.{InstructionLine}
use Rattle.cursor.specs.Places.{before_of}
use Rattle.circuit_walk.specs.Meaning.{made_of}
use Rattle.circuit_walk.specs.private.Walks.{is_step_maker, steps_of, IsReady}
use Rattle.circuit_walk.proofs.MoveLemmas.{goes_between, goes_inside, into_last, mark_of, ready_before, sound_next}
use Rattle.circuit_walk.proofs.course.Course.enter_previous.Goals as goal

pub steps_at-here-requires : goal.steps_at-here-requires
steps_at-here-requires g c =
    let over = c.in-Some.ensures.over in
    let sound = sound_next c.requires.course.0 c.args.self.now.text c.previous.new.self over.0 _ c.requires.course.1.held c.in-Some.ensures.place over.3.left in
    (over.0, over.1, sound.fits)

pub returns-in-Some-clause-course : goal.returns-in-Some-clause-course
returns-in-Some-clause-course g c program h =
    let old = c.args.self.now in
    let over = c.in-Some.ensures.over in
    let n = program.listing.qubits in
    let sound = sound_next program old.text c.previous.new.self over.0 _ h.held c.in-Some.ensures.place over.3.left in
    let ready = subst (λ is. IsReady n is old.counts old.steps) over.3.before (ready_before program old h c.requires.done) in
    let steps = c.steps_at-here.ensures.steps over.0 over.1 in
    let faced : Faces is_step_maker old.text.items.now.items c.previous.new.self.index =
    (over.0, subst (λ j. slice_get old.text.items.now.items j ≡ Some (InstructionLine over.0)) c.in-Some.ensures.here over.1, over.2) in
    goes_inside program old _ h refl refl refl refl c.in-Some.ensures.place
    (into_last n program.chances old.text.items.now.items c.previous.new.self _ old.counts old.steps over.0 _ over.3.left faced ready
    (record { operation = steps.operation; targets = steps.targets; flips = steps.flips; end = steps.end; fits = steps.fits }) refl sound.near (mark_of program old.text _ over.0 c.steps_at-here.result.chance h.held over.1 c.steps_at-here.ensures.chance))

pub returns-in-None-clause-none : goal.returns-in-None-clause-none
unfolding made_of
returns-in-None-clause-none g c _ =
    let old = c.args.self.now in
    let program = c.requires.course.0 in
    let ready = ready_before program old c.requires.course.1 c.requires.done in
    let none : before_of is_step_maker old.text.items.now.items old.cursor ≡ [] = c.in-None.ensures.over.0 in
    ready.place_is ∙ ap (λ is. length (steps_of program.listing.qubits is)) none

pub returns-in-None-clause-course : goal.returns-in-None-clause-course
returns-in-None-clause-course g c program h =
    let old = c.args.self.now in
    let n = program.listing.qubits in
    goes_between program old _ h refl refl refl refl c.none-self.ensures.at c.none-self.ensures.end c.in-None.ensures.place
    (subst (λ is. IsReady n is old.counts old.steps) (sym c.in-None.ensures.over.1.before) (ready_before program old h c.requires.done))
