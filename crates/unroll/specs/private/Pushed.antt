-- The steps of an instruction as they are appended to a circuit that is being written down, one target, one pair or one
-- product at a time.
-- (Stim's gate reference, github.com/quantumlib/Stim, doc/gates.md.)
use Rattle.std.specs.Prelude.{◌≡◌, ◌<◌, ◌≤◌, ◌^◌, ℕ, Bool, true, if◌then◌else◌, List, [], ◌∷◌, length, All}
use Rattle.std.specs.List.{onto_first}
use Rattle.stim_parser.specs.declared.target.Target.{Target}
use Rattle.stim_parser.specs.declared.target.Target.TheVariants.{Back}
use Rattle.stim_parser.specs.Limits.{products_of}
use Rattle.stim_parser.specs.Numbers.{most_qubits}
use Rattle.circuit_walk.specs.Totals.{qubits_to}

-- how far back a target reaches
abbrev pub back_of : Target → ℕ
back_of (Back k) = k
back_of target = 0

-- the numbers of a target fit a step's
pub record IsSmall (target : Target) : Type 0 where
  pub qubit : qubits_to target ≤ most_qubits
  pub back : back_of target < 2 ^ 32

-- what follows a factor: the rest of its product, where a star joins it, or other products
pub record FollowsFactor (after : List Target) (joined : Bool) (behind : List Target) : Type 0 where
  pub products : (factor : Target) → products_of (factor ∷ after) ≡ (if joined then onto_first factor (products_of behind) else (factor ∷ []) ∷ products_of behind)
  pub some : joined ≡ true → 0 < length behind
  pub fewer : length behind ≤ length after
  pub small : All IsSmall after → All IsSmall behind
