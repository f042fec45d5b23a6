-- A fault of a program as a taker of faults gets it. (Stim's circuit format: noise instructions, and the
-- arguments of measurements.)
use Rattle.std.specs.Prelude.{◌≡◌, ◌<◌, ℕ, List, [], length, Option, None, Some}
use Rattle.step_model.specs.declared.step.Term.{Term}
use Rattle.step_model.specs.Chances.{chance_at}
use Rattle.step_model.specs.Listing.{Applies, Effect, Flips, effect_at, fault_at}
use Rattle.circuit_walk.specs.declared.found_fault.FoundFault.{FoundFault}
use Rattle.circuit_walk.specs.Letters.{AreSmall, letters_in}
use Rattle.circuit_walk.specs.Programs.{KeptProgram}

-- the letters that a fault applies, and the record that it flips
abbrev pub effect_terms : Effect → List Term
effect_terms (Applies terms) = terms
effect_terms (Flips r) = []

abbrev pub flipped_record : Effect → Option ℕ
flipped_record (Applies terms) = None
flipped_record (Flips r) = Some r

abbrev pub number_in : FoundFault → ℕ
number_in fault = fault.number

-- a fault of the program: it has this number; the probability has its text and its bound; it applies these letters, and flips
-- this record, if any
pub record IsFaultOf (program : KeptProgram) (fault : FoundFault) : Type 0 where
  pub there : fault.number < length program.listing.faults
  pub chance : fault.chance < length program.chances
  pub text : (chance_at program.chances fault.chance).text ≡ (fault_at program.listing fault.number).text
  pub bound : (chance_at program.chances fault.chance).bound ≡ (fault_at program.listing fault.number).bound
  pub terms : letters_in fault.letters ≡ effect_terms (effect_at program.listing fault.number)
  pub small : AreSmall fault.letters
  pub flips : flipped_record (effect_at program.listing fault.number) ≡ fault.flips
