-- What holds of the course of a walk between two calls.
-- (This project's own.)
use Rattle.std.specs.Prelude.{◌≡◌, ◌+◌, ◌*◌, ℕ, true, false, if◌then◌else◌, length}
use Rattle.cursor.specs.Places.{StandsIn, before_of, left_of}
use Rattle.circuit_walk.specs.declared.course.Course.{Course}
use Rattle.circuit_walk.specs.Programs.{KeptProgram}
use Rattle.circuit_walk.specs.private.Held.{Holds}
use Rattle.circuit_walk.specs.declared.passes.Inside.{Inside}
use Rattle.circuit_walk.specs.declared.program.Text.{Text}
use Rattle.circuit_walk.specs.declared.step.Counts.{Counts}
use Rattle.cursor.specs.declared.cursor.Cursor.{Cursor}
use Rattle.circuit_walk.specs.private.Walks.{AreCountsAt, IsInside, IsBetween, IsReady, is_step_maker}

-- it goes over the steps of this program
pub record IsCourse {A : Type 0} (program : KeptProgram) (c : Course A) : Type 0 where
  pub held : Holds program c.text
  pub stands : StandsIn is_step_maker c.text.items.now.items c.cursor
  pub inside : c.inside ≡ true → IsInside program.listing.qubits program.chances c.text.items.now.items c.cursor c.here c.counts c.steps
  pub between : c.inside ≡ false → IsBetween program.listing.qubits c.text.items.now.items c.cursor c.here c.counts c.steps
  pub counted : AreCountsAt program.listing.steps c.steps c.counts

-- how many moves to an instruction are ahead, and how many are behind
abbrev pub moves_ahead : {A : Type 0} → Course A → ℕ
moves_ahead c = 2 * length (left_of is_step_maker c.text.items.now.items c.cursor) + (if c.inside then 0 else 1)

abbrev pub moves_behind : {A : Type 0} → Course A → ℕ
moves_behind c = length (before_of is_step_maker c.text.items.now.items c.cursor)

-- a place between instructions, at a cursor: what came before it, and how many steps did
pub record IsPassing {A : Type 0} (program : KeptProgram) (text : Text A) (cursor : Cursor) (counts : Counts) (steps : ℕ) : Type 0 where
  pub held : Holds program text
  pub stands : StandsIn is_step_maker text.items.now.items cursor
  pub ready : IsReady program.listing.qubits (before_of is_step_maker text.items.now.items cursor) counts steps
  pub counted : AreCountsAt program.listing.steps steps counts

-- a place inside the instruction that a cursor is before, as a course
abbrev pub course_at : {A : Type 0} → Text A → Cursor → Inside → Course A
course_at text cursor inside =
    record { text = text; cursor = cursor; inside = true; here = inside.here; counts = inside.counts; steps = inside.steps }
