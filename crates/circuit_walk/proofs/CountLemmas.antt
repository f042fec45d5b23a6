-- What the steps of one instruction make: each of them a record, a collapse and a fault, or none of these, by the operation.
use Rattle.std.proofs.Common.{◌≡◌, ◌+◌, ◌*◌, ◌==◌, ℕ, zero, suc, Bool, true, false, if◌then◌else◌, List, [], ◌∷◌, ◌++◌, length, map, Some, refl, ap, subst, arith}
use Rattle.std.specs.Prelude.{⊤, is_some, slice_get}
use Rattle.std.specs.List.{flat_map}
use Rattle.std.specs.Option.{option_to_list}
use Rattle.std.proofs.lemmas.List.{length-append, length-map}
use Rattle.gate_table.specs.declared.gate.Gate.{Gate}
use Rattle.gate_table.specs.Images.{arity_of}
use Rattle.step_model.specs.Listing.{ListedStep, Applies, Flips, One, Fault, Measured, is_collapse, step_records}
use Rattle.step_model.specs.WellFormed.{step_faults}
use Rattle.stim_parser.specs.declared.operation.Operation.{Operation}
use Rattle.stim_parser.specs.declared.operation.Operation.TheVariants as operation
use Rattle.stim_parser.specs.declared.operation.Operation.TheVariants.{Measurement, QubitReset, MeasurementReset, ProductMeasurement, PauliError, CorrelatedError, DetectorDeclaration, ObservableInclude, Tick, QubitCoordinates, CoordinateShift}
use Rattle.stim_parser.specs.declared.target.Target.{Target}
use Rattle.stim_parser.specs.declared.target.Target.TheVariants.{Plain, Inverted, Back, Pauli, Star}
use Rattle.stim_parser.specs.Limits.{products_of, qubit_of}
use Rattle.stim_parser.specs.Verdicts.{Instruction}
use Rattle.circuit_walk.specs.Before.{Before}
use Rattle.circuit_walk.specs.FaultsMade.{fault_with, faults_made, flips_made}
use Rattle.circuit_walk.specs.Targets.{term_at}
use Rattle.circuit_walk.specs.Meaning.{new_faults, new_records, new_steps}
use Rattle.circuit_walk.specs.StepsMade.{collapses_made, flip_of, gate_made, numbered_from, operation_made, pair_made, pairs_made}
use Rattle.circuit_walk.specs.private.InstructionSteps.{has_argument}
use Rattle.circuit_walk.specs.Makes.{makes_collapses, makes_faults, makes_records, one_if}

-- ---- one step

-- a step makes so many records, collapses and faults
pub record Makes (records collapses faults : ℕ) (s : ListedStep) : Type 0 where
  pub records_are : length (step_records s) ≡ records
  pub collapses_are : (if is_collapse s then 1 else 0) ≡ collapses
  pub faults_are : length (step_faults s) ≡ faults

-- each of these does
abbrev pub Each : (ListedStep → Type 0) → List ListedStep → Type 0
Each P [] = ⊤
Each P (s ∷ steps) = P s × Each P steps

pub each_at : (P : ListedStep → Type 0) (steps : List ListedStep) (k : ℕ) (s : ListedStep) → Each P steps → slice_get steps k ≡ Some s → P s
each_at P [] k s h got = cc
each_at P (x ∷ xs) zero s h got = let same : x ≡ s = cc in subst P same h.0
each_at P (x ∷ xs) (suc k) s h got = each_at P xs k s h.1 got

each_map : {X : Type 0} (P : ListedStep → Type 0) (f : X → ListedStep) (xs : List X) → ((x : X) → P (f x)) → Each P (map f xs)
each_map P f [] h = tt
each_map P f (x ∷ xs) h = (h x, each_map P f xs h)

each_numbered : {X : Type 0} (P : ListedStep → Type 0) (m : ℕ) (f : ℕ → X → ListedStep) (xs : List X) → ((k : ℕ) (x : X) → P (f k x)) → Each P (numbered_from m f xs)
each_numbered P m f [] h = tt
each_numbered P m f (x ∷ xs) h = (h m x, each_numbered P (m + 1) f xs h)

pair_makes : (n r : ℕ) (g : Gate) (a b : Target) → Makes 0 0 0 (pair_made n r g a b)
pair_makes n r g (Back k) b = record { records_are = refl; collapses_are = refl; faults_are = refl }
pair_makes n r g (Plain q) (Back k) = record { records_are = refl; collapses_are = refl; faults_are = refl }
pair_makes n r g (Plain q) (Plain p) = record { records_are = refl; collapses_are = refl; faults_are = refl }
pair_makes n r g (Plain q) (Inverted p) = record { records_are = refl; collapses_are = refl; faults_are = refl }
pair_makes n r g (Plain q) (Pauli i l p) = record { records_are = refl; collapses_are = refl; faults_are = refl }
pair_makes n r g (Plain q) Star = record { records_are = refl; collapses_are = refl; faults_are = refl }
pair_makes n r g (Inverted q) (Back k) = record { records_are = refl; collapses_are = refl; faults_are = refl }
pair_makes n r g (Inverted q) (Plain p) = record { records_are = refl; collapses_are = refl; faults_are = refl }
pair_makes n r g (Inverted q) (Inverted p) = record { records_are = refl; collapses_are = refl; faults_are = refl }
pair_makes n r g (Inverted q) (Pauli i l p) = record { records_are = refl; collapses_are = refl; faults_are = refl }
pair_makes n r g (Inverted q) Star = record { records_are = refl; collapses_are = refl; faults_are = refl }
pair_makes n r g (Pauli i l q) (Back k) = record { records_are = refl; collapses_are = refl; faults_are = refl }
pair_makes n r g (Pauli i l q) (Plain p) = record { records_are = refl; collapses_are = refl; faults_are = refl }
pair_makes n r g (Pauli i l q) (Inverted p) = record { records_are = refl; collapses_are = refl; faults_are = refl }
pair_makes n r g (Pauli i l q) (Pauli j m p) = record { records_are = refl; collapses_are = refl; faults_are = refl }
pair_makes n r g (Pauli i l q) Star = record { records_are = refl; collapses_are = refl; faults_are = refl }
pair_makes n r g Star (Back k) = record { records_are = refl; collapses_are = refl; faults_are = refl }
pair_makes n r g Star (Plain p) = record { records_are = refl; collapses_are = refl; faults_are = refl }
pair_makes n r g Star (Inverted p) = record { records_are = refl; collapses_are = refl; faults_are = refl }
pair_makes n r g Star (Pauli j m p) = record { records_are = refl; collapses_are = refl; faults_are = refl }
pair_makes n r g Star Star = record { records_are = refl; collapses_are = refl; faults_are = refl }

each_pair : (n r : ℕ) (g : Gate) (ts : List Target) → Each (Makes 0 0 0) (pairs_made n r g ts)
each_pair n r g [] = tt
each_pair n r g (a ∷ []) = tt
each_pair n r g (a ∷ b ∷ ts) = (pair_makes n r g a b, each_pair n r g ts)

each_gate : (n r : ℕ) (g : Gate) (ts : List Target) → Each (Makes 0 0 0) (gate_made n r g ts)
each_gate n r g ts = by_arity (arity_of g == 1)
  where
    by_arity : (one : Bool) → Each (Makes 0 0 0) (if one then map (λ target. One g (qubit_of target)) ts else pairs_made n r g ts)
    by_arity true = each_map (Makes 0 0 0) _ ts (λ t. record { records_are = refl; collapses_are = refl; faults_are = refl })
    by_arity false = each_pair n r g ts

flip_makes : (f : ℕ) (arguments : List (List ℕ)) → length (option_to_list (flip_of f arguments)) ≡ one_if (if is_some (slice_get arguments 0) then true else false)
flip_makes f [] = refl
flip_makes f (p ∷ arguments) = refl

each_collapse : {X : Type 0} (b : Before) (arguments : List (List ℕ)) (measured : X → Measured) (inverted : X → Bool) (xs : List X) → Each (Makes 1 1 (one_if (if is_some (slice_get arguments 0) then true else false))) (collapses_made b arguments measured inverted xs)
each_collapse b arguments measured inverted xs =
    each_numbered (Makes 1 1 (one_if (if is_some (slice_get arguments 0) then true else false))) 0 _ xs
    (λ k x. record { records_are = refl; collapses_are = refl; faults_are = flip_makes (b.faults + k) arguments })

-- ---- the steps of an operation

-- what each step of an operation makes
abbrev pub MakesAs : Operation → Bool → ListedStep → Type 0
MakesAs operation flips s =
    Makes (one_if (makes_records operation)) (one_if (makes_collapses operation)) (one_if (makes_faults operation flips)) s

each_made : (n : ℕ) (b : Before) (operation : Operation) (arguments : List (List ℕ)) (ts : List Target) → Each (MakesAs operation (is_some (slice_get arguments 0))) (operation_made n b operation arguments ts)
each_made n b (operation.Applies g) [] ts = each_gate n b.records g ts
each_made n b (operation.Applies g) (p ∷ arguments) ts = each_gate n b.records g ts
each_made n b (Measurement l) arguments ts = each_collapse b arguments _ _ ts
each_made n b (QubitReset l) [] ts = each_map (Makes 0 1 0) _ ts (λ t. record { records_are = refl; collapses_are = refl; faults_are = refl })
each_made n b (QubitReset l) (p ∷ arguments) ts = each_map (Makes 0 1 0) _ ts (λ t. record { records_are = refl; collapses_are = refl; faults_are = refl })
each_made n b (MeasurementReset l) arguments ts = each_collapse b arguments _ _ ts
each_made n b ProductMeasurement arguments ts = each_collapse b arguments _ _ (products_of ts)
each_made n b (PauliError l) arguments ts = each_numbered (Makes 0 0 1) b.faults _ ts (λ k t. record { records_are = refl; collapses_are = refl; faults_are = refl })
each_made n b CorrelatedError arguments ts = (record { records_are = refl; collapses_are = refl; faults_are = refl }, tt)
each_made n b DetectorDeclaration arguments ts = tt
each_made n b ObservableInclude arguments ts = tt
each_made n b Tick arguments ts = tt
each_made n b QubitCoordinates arguments ts = tt
each_made n b CoordinateShift arguments ts = tt

pub each_new : (n : ℕ) (b : Before) (i : Instruction) → Each (MakesAs i.operation (has_argument i)) (new_steps n b i)
each_new n b i = each_made n b i.operation i.arguments i.targets

-- ---- records and faults of an instruction

records_counted : (r k f : ℕ) (steps : List ListedStep) → Each (Makes r k f) steps → length (flat_map step_records steps) ≡ length steps * r
records_counted r k f [] h = omega arith
records_counted r k f (s ∷ steps) h =
    let more : length (step_records s ++ flat_map step_records steps) ≡ length (step_records s) + length (flat_map step_records steps) = length-append (step_records s) (flat_map step_records steps) in
    omega (arith, more, h.0.records_are, records_counted r k f steps h.1)

pub new_records-counted : (n : ℕ) (b : Before) (i : Instruction) → length (new_records n b i) ≡ length (new_steps n b i) * one_if (makes_records i.operation)
new_records-counted n b i = records_counted _ _ _ (new_steps n b i) (each_new n b i)

pub length-numbered : {X : Type 0} (m : ℕ) (f : ℕ → X → ListedStep) (xs : List X) → length (numbered_from m f xs) ≡ length xs
length-numbered m f [] = refl
length-numbered m f (x ∷ xs) = ap suc (length-numbered (m + 1) f xs)

flips-counted : (arguments : List (List ℕ)) (records : List ℕ) (k : ℕ) → length records ≡ k * 1 → length (flips_made arguments records) ≡ k * one_if (if is_some (slice_get arguments 0) then true else false)
flips-counted [] records k h = omega arith
flips-counted (p ∷ arguments) records k h = omega (arith, length-map records (λ r. fault_with (p ∷ arguments) (Flips r)), h)

no_flips-counted : (arguments : List (List ℕ)) (records : List ℕ) (k : ℕ) → length records ≡ k * 0 → length (flips_made arguments records) ≡ k * one_if (if is_some (slice_get arguments 0) then false else false)
no_flips-counted [] records k h = omega arith
no_flips-counted (p ∷ arguments) records k h = omega (arith, length-map records (λ r. fault_with (p ∷ arguments) (Flips r)), h)

faults_counted : (n : ℕ) (b : Before) (operation : Operation) (arguments : List (List ℕ)) (ts : List Target) → length (flat_map step_records (operation_made n b operation arguments ts)) ≡ length (operation_made n b operation arguments ts) * one_if (makes_records operation) → length (faults_made (flat_map step_records (operation_made n b operation arguments ts)) operation arguments ts) ≡ length (operation_made n b operation arguments ts) * one_if (makes_faults operation (is_some (slice_get arguments 0)))
faults_counted n b (PauliError l) arguments ts h = omega (arith, length-map ts (λ target. fault_with arguments (Applies (term_at l target ∷ []))), length-numbered b.faults (λ f (target : Target). Fault f) ts)
faults_counted n b CorrelatedError arguments ts h = refl
faults_counted n b (Measurement l) arguments ts h = flips-counted arguments _ _ h
faults_counted n b (MeasurementReset l) arguments ts h = flips-counted arguments _ _ h
faults_counted n b ProductMeasurement arguments ts h = flips-counted arguments _ _ h
faults_counted n b (operation.Applies g) arguments ts h = no_flips-counted arguments _ _ h
faults_counted n b (QubitReset l) arguments ts h = no_flips-counted arguments _ _ h
faults_counted n b DetectorDeclaration arguments ts h = no_flips-counted arguments _ _ h
faults_counted n b ObservableInclude arguments ts h = no_flips-counted arguments _ _ h
faults_counted n b Tick arguments ts h = no_flips-counted arguments _ _ h
faults_counted n b QubitCoordinates arguments ts h = no_flips-counted arguments _ _ h
faults_counted n b CoordinateShift arguments ts h = no_flips-counted arguments _ _ h

pub new_faults-counted : (n : ℕ) (b : Before) (i : Instruction) → length (new_faults n b i) ≡ length (new_steps n b i) * one_if (makes_faults i.operation (has_argument i))
new_faults-counted n b i = faults_counted n b i.operation i.arguments i.targets (new_records-counted n b i)
