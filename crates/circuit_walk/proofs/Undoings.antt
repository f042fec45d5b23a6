-- What an undoer is handed behind a place inside an instruction is the step of the program right before it, and then the place is
-- the one before.
use Rattle.std.proofs.Common.{◌≡◌, ◌≢◌, ◌<◌, ◌≤◌, ◌+◌, ℕ, Bool, false, true, Result, refl, sym, ap, ◌∙◌, subst, arith}
use Rattle.stim_parser.specs.declared.operation.Operation.{Operation}
use Rattle.circuit_walk.specs.declared.course.Course.{Course}
use Rattle.circuit_walk.specs.declared.taken.Taken.{Taken}
use Rattle.circuit_walk.specs.Programs.{KeptProgram}
use Rattle.circuit_walk.specs.Undoers.{HasUndone, IsBackAt, IsLast}
use Rattle.circuit_walk.specs.private.Courses.{IsCourse}
use Rattle.circuit_walk.specs.private.InstructionSteps.{end_of}
use Rattle.circuit_walk.specs.private.Taken.{IsFacing, IsTaken}
use Rattle.circuit_walk.specs.private.Takings.{IsTakingAt}
use Rattle.circuit_walk.specs.private.Undoings.{HasGoneBack, HasUndoneOne}
use Rattle.circuit_walk.specs.private.Walks.{makes_steps}
use Rattle.circuit_walk.proofs.StandLemmas.{fit_own}
use Rattle.circuit_walk.proofs.Takings.{is_listed, is_named, no_end}

module _ {U A : Type 0} (holds : KeptProgram → U → ℕ → U → Type 0) (keeps : KeptProgram → U → U → Type 0) (program : KeptProgram) (old : U) (place earlier : Course A)
    (at : IsTakingAt holds program old place) (course : IsCourse program earlier) (facing : earlier.here.at ≢ earlier.here.end) (one : place.steps ≡ earlier.steps + 1) (taken : Taken) (is : IsTaken earlier.here earlier.counts taken) where
  -- it is handed that step
  pub hands_last : IsLast holds program old taken.step
  hands_last = (
    is_named program earlier course facing taken is,
    (at.stands.0, earlier.steps, subst (λ k. holds program at.stands.0 k old) one at.stands.1, is_listed program earlier course facing taken is),
  )

  -- and has undone it
  pub goes_back : {V E : Type 0} (new : U) (result : Result V E) → earlier.here.operation ≡ place.here.operation → HasUndone holds keeps program old new taken.step result → HasUndoneOne holds keeps program old new place earlier result
  goes_back new result same has =
      record {
        gone =
            record {
              course = course;
              back = omega (arith, one);
              undone = λ begun h. has begun earlier.steps (subst (λ k. holds program begun k old) one h) (is_listed program earlier course facing taken is);
            };
        one = one;
        same = same;
      }

-- an instruction that makes no steps has none
pub none_faced : {A : Type 0} (c : Course A) → IsFacing c.here c.counts → (o : Operation) → c.here.operation ≡ o → makes_steps o ≡ false → ⊥
none_faced c facing o is none =
    let end = (fit_own facing.instruction c.here o facing.stands.steps is).end in
    omega (arith, facing.there, end, no_end o c.here.targets.now none)
