-- What instructions make, one after another: it is what the first of them make and then what the others make; and
-- instructions that make nothing may be left out, since they leave the numbers of records and faults as they are.
use Rattle.std.proofs.Common.{◌≡◌, ◌+◌, ℕ, Bool, true, false, if◌then◌else◌, List, [], ◌∷◌, ◌++◌, length, refl, sym, ap, ap₂, ◌∙◌, append_assoc, arith}
use Rattle.std.specs.List.{filter, flat_map}
use Rattle.step_model.specs.Listing.{ListedFault, ListedStep, step_records}
use Rattle.stim_parser.specs.declared.operation.Operation.{Operation}
use Rattle.stim_parser.specs.declared.operation.Operation.TheVariants.{Applies, Measurement, QubitReset, MeasurementReset, ProductMeasurement, PauliError, CorrelatedError, DetectorDeclaration, ObservableInclude, Tick, QubitCoordinates, CoordinateShift}
use Rattle.stim_parser.specs.declared.target.Target.{Target}
use Rattle.stim_parser.specs.Verdicts.{Instruction}
use Rattle.circuit_walk.specs.Before.{Before}
use Rattle.circuit_walk.specs.FaultsMade.{faults_made, flips_made}
use Rattle.circuit_walk.specs.Meaning.{after, made_of, new_faults, new_steps}
use Rattle.circuit_walk.specs.StepsMade.{operation_made}
use Rattle.circuit_walk.specs.private.Walks.{is_step_maker, makes_steps, state_after}

pub made_of-append : {X : Type 0} (n : ℕ) (make : Before → Instruction → List X) (b : Before) (is js : List Instruction) → made_of n make b (is ++ js) ≡ made_of n make b is ++ made_of n make (state_after n b is) js
unfolding made_of
made_of-append n make b [] js = refl
made_of-append n make b (i ∷ is) js =
    ap (λ xs. make b i ++ xs) (made_of-append n make (after n b i) is js)
    ∙ sym (append_assoc (make b i) (made_of n make (after n b i) is) (made_of n make (state_after n (after n b i) is) js))

pub state_after-append : (n : ℕ) (b : Before) (is js : List Instruction) → state_after n b (is ++ js) ≡ state_after n (state_after n b is) js
state_after-append n b [] js = refl
state_after-append n b (i ∷ is) js = state_after-append n (after n b i) is js

-- ---- the offset of coordinates doesn't matter

-- as many records and faults came before
pub record IsAlike (b c : Before) : Type 0 where
  pub records : b.records ≡ c.records
  pub faults : b.faults ≡ c.faults

pub alike : (b : Before) → IsAlike b b
alike b = record { records = refl; faults = refl }

abbrev counted : ℕ → ℕ → Before
counted r f = record { records = r; faults = f; offset = [] }

without_offset : (n : ℕ) (b : Before) (operation : Operation) (arguments : List (List ℕ)) (targets : List Target) → operation_made n b operation arguments targets ≡ operation_made n (counted b.records b.faults) operation arguments targets
without_offset n b (Applies g) arguments targets = refl
without_offset n b (Measurement l) arguments targets = refl
without_offset n b (QubitReset l) arguments targets = refl
without_offset n b (MeasurementReset l) arguments targets = refl
without_offset n b ProductMeasurement arguments targets = refl
without_offset n b (PauliError l) arguments targets = refl
without_offset n b CorrelatedError arguments targets = refl
without_offset n b DetectorDeclaration arguments targets = refl
without_offset n b ObservableInclude arguments targets = refl
without_offset n b Tick arguments targets = refl
without_offset n b QubitCoordinates arguments targets = refl
without_offset n b CoordinateShift arguments targets = refl

pub steps-alike : (n : ℕ) (b c : Before) (i : Instruction) → IsAlike b c → new_steps n b i ≡ new_steps n c i
steps-alike n b c i h =
    without_offset n b i.operation i.arguments i.targets
    ∙ ap₂ (λ r f. operation_made n (counted r f) i.operation i.arguments i.targets) h.records h.faults
    ∙ sym (without_offset n c i.operation i.arguments i.targets)

pub faults-alike : (n : ℕ) (b c : Before) (i : Instruction) → IsAlike b c → new_faults n b i ≡ new_faults n c i
faults-alike n b c i h =
    ap (λ (steps : List ListedStep). faults_made (flat_map step_records steps) i.operation i.arguments i.targets) (steps-alike n b c i h)

pub after-alike : (n : ℕ) (b c : Before) (i : Instruction) → IsAlike b c → IsAlike (after n b i) (after n c i)
after-alike n b c i h =
    record {
      records = ap₂ (λ (r : ℕ) (steps : List ListedStep). r + length (flat_map step_records steps)) h.records (steps-alike n b c i h);
      faults = ap₂ (λ (f : ℕ) (faults : List ListedFault). f + length faults) h.faults (faults-alike n b c i h);
    }

-- ---- instructions that make nothing

no_flips : (arguments : List (List ℕ)) → flips_made arguments [] ≡ []
no_flips [] = refl
no_flips (p ∷ arguments) = refl

pub record MakesNothing (n : ℕ) (b : Before) (i : Instruction) : Type 0 where
  pub steps : new_steps n b i ≡ []
  pub faults : new_faults n b i ≡ []

nothing : (n : ℕ) (b : Before) (i : Instruction) (operation : Operation) → i.operation ≡ operation → makes_steps operation ≡ false → (operation_made n b operation i.arguments i.targets ≡ []) × (faults_made [] operation i.arguments i.targets ≡ [])
nothing n b i (Applies g) is h = cc
nothing n b i (Measurement l) is h = cc
nothing n b i (QubitReset l) is h = cc
nothing n b i (MeasurementReset l) is h = cc
nothing n b i ProductMeasurement is h = cc
nothing n b i (PauliError l) is h = cc
nothing n b i CorrelatedError is h = cc
nothing n b i DetectorDeclaration is h = (refl, no_flips i.arguments)
nothing n b i ObservableInclude is h = (refl, no_flips i.arguments)
nothing n b i Tick is h = (refl, no_flips i.arguments)
nothing n b i QubitCoordinates is h = (refl, no_flips i.arguments)
nothing n b i CoordinateShift is h = (refl, no_flips i.arguments)

pub makes_nothing : (n : ℕ) (b : Before) (i : Instruction) → is_step_maker i ≡ false → MakesNothing n b i
makes_nothing n b i h =
    let parts = nothing n b i i.operation refl h in
    record {
      steps = parts.0;
      faults = ap (λ (steps : List ListedStep). faults_made (flat_map step_records steps) i.operation i.arguments i.targets) parts.0 ∙ parts.1;
    }

pub passed : (n : ℕ) (b c : Before) (i : Instruction) → is_step_maker i ≡ false → IsAlike b c → IsAlike (after n b i) c
passed n b c i h same =
    let none = makes_nothing n b i h in
    record {
      records = omega (arith, ap (λ (steps : List ListedStep). length (flat_map step_records steps)) none.steps, same.records);
      faults = omega (arith, ap (λ (faults : List ListedFault). length faults) none.faults, same.faults);
    }

-- ---- instructions that are left out

-- what is made doesn't depend on the offset, and instructions without steps make none of it
pub record LeavesOut {X : Type 0} (make : Before → Instruction → List X) : Type 0 where
  pub alike : (b c : Before) (i : Instruction) → IsAlike b c → make b i ≡ make c i
  pub nothing : (b : Before) (i : Instruction) → is_step_maker i ≡ false → make b i ≡ []

pub steps-leave_out : (n : ℕ) → LeavesOut (new_steps n)
steps-leave_out n =
    record {
      alike = λ b c i h. steps-alike n b c i h;
      nothing = λ b i h. (makes_nothing n b i h).steps;
    }

pub faults-leave_out : (n : ℕ) → LeavesOut (new_faults n)
faults-leave_out n =
    record {
      alike = λ b c i h. faults-alike n b c i h;
      nothing = λ b i h. (makes_nothing n b i h).faults;
    }

pub left_out : {X : Type 0} (n : ℕ) (make : Before → Instruction → List X) → LeavesOut make → (b c : Before) (is : List Instruction) → IsAlike b c → made_of n make b is ≡ made_of n make c (filter is_step_maker is)
unfolding made_of
left_out n make h b c [] same = refl
left_out {X} n make h b c (i ∷ is) same =
    by_choice (λ d. left_out n make h (after n b i) d is) (is_step_maker i) refl
  where
    rest : Bool → List Instruction
    rest chosen = if chosen then i ∷ filter is_step_maker is else filter is_step_maker is

    by_choice : ((d : Before) → IsAlike (after n b i) d → made_of n make (after n b i) is ≡ made_of n make d (filter is_step_maker is)) → (chosen : Bool) → is_step_maker i ≡ chosen → make b i ++ made_of n make (after n b i) is ≡ made_of n make c (rest (is_step_maker i))
    by_choice later true e =
        ap₂ ◌++◌ (h.alike b c i same) (later (after n c i) (after-alike n b c i same))
        ∙ ap (λ (chosen : Bool). made_of n make c (rest chosen)) (sym e)
    by_choice later false e =
        ap (λ (xs : List X). xs ++ made_of n make (after n b i) is) (h.nothing b i e)
        ∙ later c (passed n b c i e same)
        ∙ ap (λ (chosen : Bool). made_of n make c (rest chosen)) (sym e)
