-- What came before an instruction, of all instructions that are reached before it. (Stim's circuit format: `rec[-k]` and
-- SHIFT_COORDS are relative to their place.)
use Rattle.std.specs.Prelude.{ℕ, ℤ, List}

-- how many records and faults were made, and by how much SHIFT_COORDS has shifted each coordinate
pub record Before : Type 0 where
  pub records : ℕ
  pub faults : ℕ
  pub offset : List ℤ
