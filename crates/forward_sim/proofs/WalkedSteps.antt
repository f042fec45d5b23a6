-- What a walk says of the step that it went over, and at the end of the program.
use Rattle.std.proofs.Common.{◌≡◌, ℕ, ◌+◌, ◌-◌, ◌<◌, nat_lt, true, false, inl, inr, List, [], ◌∷◌, length, drop, None, Some, sym, ap, ◌∙◌, arith}
use Rattle.std.specs.Prelude.{slice_get, option_map, if◌then◌else◌}
use Rattle.std.proofs.lemmas.Bool.{cases_Bool, lt-ltb, ltb-true}
use Rattle.std.proofs.lemmas.List.{drop_more, drop_all}
use Rattle.std.proofs.lemmas.Option.{none-some, slice_get_cases, slice_get_within, slice_get-get_or, get_or_from_slice_get}
use Rattle.circuit_walk.specs.declared.step.Step.{Step}
use Rattle.circuit_walk.specs.Named.{IsStepOf}
use Rattle.circuit_walk.specs.Programs.{KeptProgram, Walked}
use Rattle.circuit_walk.specs.Steps.{listed}
use Rattle.step_model.specs.Listing.{ListedStep, Fault}

-- the step at a place stands first in what is left
pub drop-step : (steps : List ListedStep) (place : ℕ) (step : ListedStep) → slice_get steps place ≡ Some step → drop place steps ≡ step ∷ drop (place + 1) steps
drop-step steps place step here =
    drop_more steps place step (slice_get_within steps place step here)
    ∙ ap (λ s. s ∷ drop (place + 1) steps) (get_or_from_slice_get steps place step step here)

-- past the end nothing is left
drop-no_step : (steps : List ListedStep) (place : ℕ) → None ≡ slice_get steps place → drop place steps ≡ []
drop-no_step steps place none = elim (slice_get_cases steps place).1 [
  | inl within ↦ cc
  | inr over ↦ drop_all place steps over.0
]

-- a step as it is listed
abbrev pub listed_of : KeptProgram → Step → ListedStep
listed_of program s = listed program.listing.qubits s

-- a walk over a program went over a step
pub record GoesOver (program : KeptProgram) (old new : Walked) (s : Step) : Type 0 where
  pub named : IsStepOf program s
  pub here : slice_get program.listing.steps old.place ≡ Some (listed program.listing.qubits s)
  pub left : drop old.place program.listing.steps ≡ listed program.listing.qubits s ∷ drop new.place program.listing.steps
  pub place : new.place ≡ old.place + 1
  pub program_is : new.program ≡ program
  pub smaller : length program.listing.steps - new.place < length program.listing.steps - old.place

pub goes_over : (program : KeptProgram) (old new : Walked) (s : Step) → old.program ≡ program
    → option_map (listed old.program.listing.qubits) (Some s) ≡ slice_get old.program.listing.steps old.place
    → IsStepOf old.program s → new.program ≡ old.program
    → new.place ≡ (if nat_lt old.place (length old.program.listing.steps) then old.place + 1 else old.place)
    → GoesOver program old new s
goes_over program old new s is step named program_is place =
    let here : slice_get program.listing.steps old.place ≡ Some (listed program.listing.qubits s) = sym (rw is at step) in
    let within : old.place < length program.listing.steps = slice_get_within program.listing.steps old.place _ here in
    let inside : nat_lt old.place (length program.listing.steps) ≡ true = lt-ltb old.place (length program.listing.steps) within in
    let next : new.place ≡ old.place + 1 = rw (is, inside) at place in
    record {
      named = rw is at named;
      here = here;
      left = rw next (drop-step program.listing.steps old.place _ here);
      place = next;
      program_is = program_is ∙ is;
      smaller = omega arith;
    }

-- a walk over a program found no step more
pub nothing_left : (program : KeptProgram) (old : Walked) → old.program ≡ program → None ≡ slice_get old.program.listing.steps old.place → drop old.place program.listing.steps ≡ []
nothing_left program old is none = drop-no_step program.listing.steps old.place (rw is at none)

past_end : (steps : List ListedStep) (k : ℕ) → None ≡ slice_get steps k → nat_lt k (length steps) ≡ false
past_end steps k none =
    elim (cases_Bool (nat_lt k (length steps))) [
      | inl within ↦ absurd (none-some _ (none ∙ slice_get-get_or steps k (Fault 0) (ltb-true k (length steps) within)))
      | inr past ↦ past
    ]

-- and stays where it was
pub record Rests (program : KeptProgram) (old new : Walked) : Type 0 where
  pub left : drop old.place program.listing.steps ≡ []
  pub place : new.place ≡ old.place
  pub program_is : new.program ≡ program

pub rests : (program : KeptProgram) (old new : Walked) → old.program ≡ program
    → None ≡ slice_get old.program.listing.steps old.place → new.program ≡ old.program
    → new.place ≡ (if nat_lt old.place (length old.program.listing.steps) then old.place + 1 else old.place)
    → Rests program old new
rests program old new is none program_is place =
    let here : None ≡ slice_get program.listing.steps old.place = rw is at none in
    let past : nat_lt old.place (length program.listing.steps) ≡ false = past_end program.listing.steps old.place here in
    record {
      left = nothing_left program old is none;
      place = rw (is, past) at place;
      program_is = program_is ∙ is;
    }
