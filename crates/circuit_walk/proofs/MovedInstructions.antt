-- What an instruction makes after more records and faults: the same steps and faults, with the numbers of these moved on.
use Rattle.std.proofs.Common.{◌≡◌, ℕ, ◌+◌, ◌-◌, ◌==◌, Bool, true, false, if◌then◌else◌, List, [], ◌∷◌, ◌++◌, map, Option, None, Some, option_map, refl, sym, ap, ap₂, ◌∙◌, arith}
use Rattle.std.specs.List.{flat_map}
use Rattle.std.proofs.lemmas.Bool.{ltb-false, or_parts}
use Rattle.gate_table.specs.declared.gate.Gate.{Gate}
use Rattle.gate_table.specs.Images.{arity_of}
use Rattle.pauli_word.specs.declared.letter.Letter.{Letter}
use Rattle.pauli_word.specs.Words.{lone_letter}
use Rattle.step_model.specs.Listing.{ListedFault, ListedStep, One, Two, Collapse, Fault, Feedback, Applies, Flips, Measured, step_records}
use Rattle.stim_parser.specs.declared.operation.Operation.{Operation}
use Rattle.stim_parser.specs.declared.operation.Operation.TheVariants as operation
use Rattle.stim_parser.specs.declared.target.Target.{Target}
use Rattle.stim_parser.specs.declared.target.Target.TheVariants.{Back}
use Rattle.stim_parser.specs.Limits.{products_of, qubit_of}
use Rattle.stim_parser.specs.Verdicts.{Instruction}
use Rattle.circuit_walk.specs.Before.{Before}
use Rattle.circuit_walk.specs.FaultsMade.{fault_with, faults_made, flips_made}
use Rattle.circuit_walk.specs.Meaning.{new_faults, new_steps}
use Rattle.circuit_walk.specs.Refusals.{is_before_start, reaches_far}
use Rattle.circuit_walk.specs.StepsMade.{collapses_made, fed_letter, flip_of, gate_made, numbered_from, operation_made, pair_made, pairs_made}
use Rattle.circuit_walk.specs.Targets.{is_inverted, is_product_inverted, term_at}
use Rattle.circuit_walk.specs.Turns.{moved_fault, moved_step}
use Rattle.circuit_walk.proofs.MadeNumbers.{collapse_with}

-- so many more records and faults came before
pub record IsLater (records faults : ℕ) (b later : Before) : Type 0 where
  pub records_are : later.records ≡ b.records + records
  pub faults_are : later.faults ≡ b.faults + faults

pub mapped-append : {X Y : Type 0} (f : X → Y) (xs ys : List X) → map f (xs ++ ys) ≡ map f xs ++ map f ys
mapped-append f [] ys = refl
mapped-append {X} {Y} f (x ∷ xs) ys = ap (λ (zs : List Y). f x ∷ zs) (mapped-append f xs ys)

-- ---- steps

module _ (records faults : ℕ) where
  abbrev moved : ListedStep → ListedStep
  moved s = moved_step records faults s

  numbered_moved : {X : Type 0} (now far : ℕ → X → ListedStep) → ((k : ℕ) (x : X) → far k x ≡ moved (now k x)) → (k : ℕ) (xs : List X) → numbered_from k far xs ≡ map moved (numbered_from k now xs)
  numbered_moved now far each k [] = refl
  numbered_moved now far each k (x ∷ xs) = ap₂ (λ (s : ListedStep) (ss : List ListedStep). s ∷ ss) (each k x) (numbered_moved now far each (k + 1) xs)

  -- steps without numbers
  mapped_moved : {X : Type 0} (f : X → ListedStep) → ((x : X) → f x ≡ moved (f x)) → (xs : List X) → map f xs ≡ map moved (map f xs)
  mapped_moved f each [] = refl
  mapped_moved f each (x ∷ xs) = ap₂ (λ (s : ListedStep) (ss : List ListedStep). s ∷ ss) (each x) (mapped_moved f each xs)

  errors_moved : (f : ℕ) (ts : List Target) → numbered_from (f + faults) (λ f (target : Target). Fault f) ts ≡ map moved (numbered_from f (λ f (target : Target). Fault f) ts)
  errors_moved f [] = refl
  errors_moved f (t ∷ ts) =
      let next : f + faults + 1 ≡ f + 1 + faults = omega arith in
      ap (λ (ss : List ListedStep). Fault (f + faults) ∷ ss)
      (ap (λ k. numbered_from k (λ f (target : Target). Fault f) ts) next ∙ errors_moved (f + 1) ts)

  pair_moved : (n r : ℕ) (g : Gate) (a b : Target) → is_before_start r a ≡ false → is_before_start r b ≡ false → pair_made n (r + records) g a b ≡ moved (pair_made n r g a b)
  pair_moved n r g (Back k) b h j =
      let there = ltb-false r k h in
      let number : r + records - k ≡ r - k + records = omega (arith, there) in
      ap (λ m. Feedback (lone_letter n (qubit_of b) (fed_letter g)) m) number
  pair_moved n r g a (Back k) h j =
      let there = ltb-false r k j in
      let number : r + records - k ≡ r - k + records = omega (arith, there) in
      ap (λ m. Feedback (lone_letter n (qubit_of a) (fed_letter g)) m) number
  pair_moved n r g a b h j = refl

  gates_moved : (n r : ℕ) (g : Gate) (alone : Bool) (ts : List Target) → reaches_far r ts ≡ false → (if alone then map (λ target. One g (qubit_of target)) ts else pairs_made n (r + records) g ts) ≡ map moved (if alone then map (λ target. One g (qubit_of target)) ts else pairs_made n r g ts)
  gates_moved n r g true ts near = mapped_moved (λ target. One g (qubit_of target)) (λ t. refl) ts
  gates_moved n r g false [] near = refl
  gates_moved n r g false (a ∷ []) near = refl
  gates_moved n r g false (a ∷ b ∷ ts) near =
      let first = or_parts (is_before_start r a) (reaches_far r (b ∷ ts)) near in
      let second = or_parts (is_before_start r b) (reaches_far r ts) first.1 in
      ap₂ (λ (s : ListedStep) (ss : List ListedStep). s ∷ ss) (pair_moved n r g a b first.0 second.0) (gates_moved n r g false ts second.1)

  flip_moved : (f : ℕ) (arguments : List (List ℕ)) → flip_of (f + faults) arguments ≡ option_map (λ k. k + faults) (flip_of f arguments)
  flip_moved f [] = refl
  flip_moved f (p ∷ arguments) = refl

  collapses_moved : {X : Type 0} (b later : Before) (arguments : List (List ℕ)) (measured : X → Measured) (inverted : X → Bool) (xs : List X) → IsLater records faults b later → collapses_made later arguments measured inverted xs ≡ map moved (collapses_made b arguments measured inverted xs)
  collapses_moved b later arguments measured inverted xs is =
      numbered_moved (collapse_with b arguments measured inverted) (collapse_with later arguments measured inverted)
      (λ k x.
      let number : later.records + k ≡ b.records + k + records = omega (arith, is.records_are) in
      let fault : later.faults + k ≡ b.faults + k + faults = omega (arith, is.faults_are) in
      ap₂ (λ (r : ℕ) (flip : Option ℕ). Collapse (measured x) (Some (record { number = r; inverted = inverted x; flip = flip }))) number
      (ap (λ f. flip_of f arguments) fault ∙ flip_moved (b.faults + k) arguments)) 0 xs

  operation_moved : (n : ℕ) (b later : Before) (o : Operation) (arguments : List (List ℕ)) (ts : List Target) → IsLater records faults b later → reaches_far b.records ts ≡ false → operation_made n later o arguments ts ≡ map moved (operation_made n b o arguments ts)
  operation_moved n b later (operation.Applies g) arguments ts is near =
      ap (λ r. gate_made n r g ts) is.records_are ∙ gates_moved n b.records g (arity_of g == 1) ts near
  operation_moved n b later (operation.Measurement l) arguments ts is near = collapses_moved b later arguments _ is_inverted ts is
  operation_moved n b later (operation.QubitReset l) arguments ts is near = mapped_moved _ (λ t. refl) ts
  operation_moved n b later (operation.MeasurementReset l) arguments ts is near = collapses_moved b later arguments _ is_inverted ts is
  operation_moved n b later operation.ProductMeasurement arguments ts is near =
      collapses_moved b later arguments _ is_product_inverted (products_of ts) is
  operation_moved n b later (operation.PauliError l) arguments ts is near =
      ap (λ f. numbered_from f (λ f (target : Target). Fault f) ts) is.faults_are ∙ errors_moved b.faults ts
  operation_moved n b later operation.CorrelatedError arguments ts is near = ap (λ f. Fault f ∷ []) is.faults_are
  operation_moved n b later operation.DetectorDeclaration arguments ts is near = refl
  operation_moved n b later operation.ObservableInclude arguments ts is near = refl
  operation_moved n b later operation.Tick arguments ts is near = refl
  operation_moved n b later operation.QubitCoordinates arguments ts is near = refl
  operation_moved n b later operation.CoordinateShift arguments ts is near = refl

  pub steps_moved : (n : ℕ) (b later : Before) (i : Instruction) → IsLater records faults b later → reaches_far b.records i.targets ≡ false → new_steps n later i ≡ map moved (new_steps n b i)
  steps_moved n b later i is near = operation_moved n b later i.operation i.arguments i.targets is near

  -- ---- records

  record_moved : (s : ListedStep) → step_records (moved s) ≡ map (λ r. r + records) (step_records s)
  record_moved (One g q) = refl
  record_moved (Two g p q) = refl
  record_moved (Collapse m None) = refl
  record_moved (Collapse m (Some r)) = refl
  record_moved (Fault f) = refl
  record_moved (Feedback w r) = refl

  records_moved : (steps : List ListedStep) → flat_map step_records (map moved steps) ≡ map (λ r. r + records) (flat_map step_records steps)
  records_moved [] = refl
  records_moved (s ∷ steps) =
      ap₂ (λ (here more : List ℕ). here ++ more) (record_moved s) (records_moved steps)
      ∙ sym (mapped-append (λ r. r + records) (step_records s) (flat_map step_records steps))

-- ---- faults

module _ (records : ℕ) where
  flips_moved : (arguments : List (List ℕ)) (rs : List ℕ) → flips_made arguments (map (λ r. r + records) rs) ≡ map (moved_fault records) (flips_made arguments rs)
  flips_moved [] rs = refl
  flips_moved (p ∷ arguments) rs = each rs
    where
      each : (rs : List ℕ) → map (λ r. fault_with (p ∷ arguments) (Flips r)) (map (λ r. r + records) rs) ≡ map (moved_fault records) (map (λ r. fault_with (p ∷ arguments) (Flips r)) rs)
      each [] = refl
      each (r ∷ rs) = ap (λ (fs : List ListedFault). fault_with (p ∷ arguments) (Flips (r + records)) ∷ fs) (each rs)

  -- errors flip no record
  applied_moved : (l : Letter) (arguments : List (List ℕ)) (ts : List Target) → map (λ target. fault_with arguments (Applies (term_at l target ∷ []))) ts ≡ map (moved_fault records) (map (λ target. fault_with arguments (Applies (term_at l target ∷ []))) ts)
  applied_moved l arguments [] = refl
  applied_moved l arguments (t ∷ ts) = ap (λ (fs : List ListedFault). fault_with arguments (Applies (term_at l t ∷ [])) ∷ fs) (applied_moved l arguments ts)

  made_moved : (o : Operation) (arguments : List (List ℕ)) (ts : List Target) (rs : List ℕ) → faults_made (map (λ r. r + records) rs) o arguments ts ≡ map (moved_fault records) (faults_made rs o arguments ts)
  made_moved (operation.PauliError l) arguments ts rs = applied_moved l arguments ts
  made_moved operation.CorrelatedError arguments ts rs = refl
  made_moved (operation.Applies g) arguments ts rs = flips_moved arguments rs
  made_moved (operation.Measurement l) arguments ts rs = flips_moved arguments rs
  made_moved (operation.QubitReset l) arguments ts rs = flips_moved arguments rs
  made_moved (operation.MeasurementReset l) arguments ts rs = flips_moved arguments rs
  made_moved operation.ProductMeasurement arguments ts rs = flips_moved arguments rs
  made_moved operation.DetectorDeclaration arguments ts rs = flips_moved arguments rs
  made_moved operation.ObservableInclude arguments ts rs = flips_moved arguments rs
  made_moved operation.Tick arguments ts rs = flips_moved arguments rs
  made_moved operation.QubitCoordinates arguments ts rs = flips_moved arguments rs
  made_moved operation.CoordinateShift arguments ts rs = flips_moved arguments rs

pub faults_moved : (records faults n : ℕ) (b later : Before) (i : Instruction) → IsLater records faults b later → reaches_far b.records i.targets ≡ false → new_faults n later i ≡ map (moved_fault records) (new_faults n b i)
faults_moved records faults n b later i is near =
    ap (λ (steps : List ListedStep). faults_made (flat_map step_records steps) i.operation i.arguments i.targets) (steps_moved records faults n b later i is near)
    ∙ ap (λ (rs : List ℕ). faults_made rs i.operation i.arguments i.targets) (records_moved records faults (new_steps n b i))
    ∙ made_moved records i.operation i.arguments i.targets (flat_map step_records (new_steps n b i))
