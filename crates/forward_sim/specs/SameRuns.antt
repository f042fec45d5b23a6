-- Two runs of n qubits that are the same: their states have the same words of n letters, and the coins to come and the
-- records so far are the same.
-- (Runs of stabilizer circuits: Aaronson and Gottesman, Phys. Rev. A 70, 052328.)
use Rattle.std.specs.Prelude.{◌≡◌, ℕ, length}
use Rattle.pauli_word.specs.States.{State}
use Rattle.pauli_word.specs.Words.{Signed}
use Rattle.step_model.specs.Runs.{RunState}

-- two states have the same words of n letters
abbrev pub HoldSame : ℕ → State → State → Type 0
HoldSame n s t = (p : Signed) → length p.letters ≡ n → s p ≡ t p

-- two runs are the same
pub record IsSameRun (n : ℕ) (m k : RunState) : Type 0 where
  pub state : HoldSame n m.state k.state
  pub coins : m.coins ≡ k.coins
  pub records : m.records ≡ k.records
