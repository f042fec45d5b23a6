-- The words of a state as a group: plus the identity is among them and minus the identity is not, any two commute, and their
-- product is one of them. (Gottesman, arXiv:quant-ph/9705052, chapter 3: stabilizer groups.)
use Rattle.std.specs.Prelude.{◌≡◌, ℕ, true, false, length}
use Rattle.pauli_word.specs.Words.{Signed, signed, anticommute, product, no_letters}
use Rattle.pauli_word.specs.States.{State}

-- a word of n letters that is in a state
pub record IsMember (n : ℕ) (s : State) (p : Signed) : Type 0 where
  pub size : length p.letters ≡ n
  pub member : s p ≡ true

-- plus the identity is in the state of n qubits and minus the identity is not, any two words in it commute, and the
-- product of two of them is in it
pub record IsGroup (n : ℕ) (s : State) : Type 0 where
  pub identity : s (signed (no_letters n) false) ≡ true
  pub no_minus : s (signed (no_letters n) true) ≡ false
  pub commuting : (p q : Signed) → IsMember n s p → IsMember n s q → anticommute p.letters q.letters ≡ false
  pub closed : (p q : Signed) → IsMember n s p → IsMember n s q → s (product p q) ≡ true

-- the identity on n qubits, of sign plus
abbrev pub identity_word : ℕ → Signed
identity_word n = signed (no_letters n) false
