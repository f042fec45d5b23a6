-- A pass over instructions: from between two into the next one, behind its last step, and behind all.
use Rattle.std.proofs.Common.{◌≡◌, ◌<◌, ℕ, [], length, None, Some, refl, sym, ap, subst, arith}
use Rattle.std.specs.Prelude.{slice_get, slice_index_or}
use Rattle.cursor.specs.Moves.{Faces, GoesOver, IsNext, IsSame}
use Rattle.cursor.specs.Places.{StandsIn, before_of, left_of}
use Rattle.cursor.specs.declared.cursor.Cursor.{Cursor}
use Rattle.stim_lexer.specs.Trees.{InstructionLine}
use Rattle.stim_parser.specs.Circuits.{Fits}
use Rattle.stim_parser.specs.Verdicts.{Instruction}
use Rattle.circuit_walk.specs.declared.instruction_steps.InstructionSteps.{InstructionSteps}
use Rattle.circuit_walk.specs.declared.passes.Inside.{Inside}
use Rattle.circuit_walk.specs.declared.program.Text.{Text}
use Rattle.circuit_walk.specs.declared.step.Counts.{Counts}
use Rattle.circuit_walk.specs.Meaning.{made_of}
use Rattle.circuit_walk.specs.Programs.{KeptProgram}
use Rattle.circuit_walk.specs.private.Courses.{IsCourse, IsPassing, course_at}
use Rattle.circuit_walk.specs.private.Held.{Holds}
use Rattle.circuit_walk.specs.private.InstructionSteps.{AreStepsOf}
use Rattle.circuit_walk.specs.private.Walks.{IsReady, is_step_maker}
use Rattle.circuit_walk.proofs.MoveLemmas.{all_behind, behind_last, into_first, mark_of, over_first, sound_next}

-- before the first instruction
pub starts_passing : {A : Type 0} (program : KeptProgram) (text : Text A) (cursor : Cursor) → Holds program text → StandsIn is_step_maker text.items.now.items cursor → before_of is_step_maker text.items.now.items cursor ≡ []
    → IsPassing program text cursor (record { records = 0; collapses = 0; faults = 0 }) 0
unfolding made_of
starts_passing program text cursor held stands before =
    let n = program.listing.qubits in
    let none : Counts = record { records = 0; collapses = 0; faults = 0 } in
    record {
      held = held;
      stands = stands;
      ready = subst (λ is. IsReady n is none 0) (sym before) (record { records = refl; faults = refl; place_is = refl });
      counted = record { records = refl; collapses = refl; faults = refl };
    }

-- right before the next instruction
module _ {A : Type 0} (program : KeptProgram) (text : Text A) (old new : Cursor) (counts : Counts) (steps : ℕ) (i : ℕ)
    (passing : IsPassing program text old counts steps) (stands : StandsIn is_step_maker text.items.now.items new)
    (same : IsSame is_step_maker text.items.now.items old new) (next : IsNext is_step_maker text.items.now.items new (Some i)) where
  pub next_fits : (x : Instruction) × (slice_get text.items.now.items i ≡ Some (InstructionLine x)) × Fits x
  next_fits = (next.0, next.2, (sound_next program text new next.0 next.1 passing.held stands next.4).fits)

  pub enters : (here : InstructionSteps) → i ≡ new.index → ((x : Instruction) → slice_get text.items.now.items i ≡ Some (InstructionLine x) → AreStepsOf x here) → here.at ≡ 0 → here.chance ≡ slice_index_or text.items.now.marks i 0
      → IsCourse program (course_at text new (record { here = here; counts = counts; steps = steps }))
  enters here index are at chance =
      let n = program.listing.qubits in
      let sound = sound_next program text new next.0 next.1 passing.held stands next.4 in
      let faced : Faces is_step_maker text.items.now.items new.index =
      (next.0, subst (λ j. slice_get text.items.now.items j ≡ Some (InstructionLine next.0)) index next.2, next.3) in
      let ready = subst (λ is. IsReady n is counts steps) (sym same.before) passing.ready in
      record {
        held = passing.held;
        stands = stands;
        inside = λ _. into_first n program.chances text.items.now.items new here counts steps next.0 next.1 next.4 faced ready (are next.0 next.2) at sound.near (mark_of program text i next.0 here.chance passing.held next.2 chance);
        between = λ e. absurd cc;
        counted = passing.counted;
      }

-- behind the last step of an instruction, and over it
module _ {A : Type 0} (program : KeptProgram) (text : Text A) (old new : Cursor) (inside : Inside) (course : IsCourse program (course_at text old inside)) (done : inside.here.at ≡ inside.here.end)
    (stands : StandsIn is_step_maker text.items.now.items new) (over : GoesOver is_step_maker text.items.now.items old new (Some old.index)) where
  pub leaves : IsPassing program text new inside.counts inside.steps
  leaves =
      let n = program.listing.qubits in
      let items = text.items.now.items in
      let within = course.inside refl in
      let moved = over_first items old new (Some old.index) within.instruction within.rest over within.left in
      record {
        held = course.held;
        stands = stands;
        ready = subst (λ is. IsReady n is inside.counts inside.steps) (sym moved) (behind_last n program.chances items old inside.here inside.counts inside.steps within done);
        counted = course.counted;
      }

  pub fewer_left : length (left_of is_step_maker text.items.now.items new) < length (left_of is_step_maker text.items.now.items old)
  fewer_left = omega (arith, ap (λ is. length is) over.3.left)

-- behind all instructions
pub ends_passing : {A : Type 0} (program : KeptProgram) (text : Text A) (old new : Cursor) (counts : Counts) (steps : ℕ) → IsPassing program text old counts steps → StandsIn is_step_maker text.items.now.items new
    → IsSame is_step_maker text.items.now.items old new → IsNext is_step_maker text.items.now.items new None → steps ≡ length program.listing.steps
ends_passing program text old new counts steps passing stands same next =
    let n = program.listing.qubits in
    all_behind program text new counts steps passing.held stands next (subst (λ is. IsReady n is counts steps) (sym same.before) passing.ready)
