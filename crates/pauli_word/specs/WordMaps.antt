-- Maps of the signed words of n letters that keep what makes a state's words a group: length, the identity with its
-- sign, which words anticommute, and products with their signs. Conjugation by a Clifford unitary is such a map.
-- (Nielsen and Chuang, Quantum Computation and Quantum Information, section 10.5.2.)
-- (Conjugation by Clifford gates: Aaronson and Gottesman, Phys. Rev. A 70, 052328.)
use Rattle.std.specs.Prelude.{◌≡◌, ℕ, Bool, length}
use Rattle.pauli_word.specs.Words.{Signed, signed, anticommute, product, no_letters}

-- the map f keeps all of these
pub record KeepsWords (n : ℕ) (f : Signed → Signed) : Type 0 where
  pub size : (p : Signed) → length p.letters ≡ n → length (f p).letters ≡ n
  pub identity : (b : Bool) → f (signed (no_letters n) b) ≡ signed (no_letters n) b
  pub anticommuting : (p q : Signed) → length p.letters ≡ n → length q.letters ≡ n → anticommute (f p).letters (f q).letters ≡ anticommute p.letters q.letters
  pub product : (p q : Signed) → length p.letters ≡ n → length q.letters ≡ n → f (product p q) ≡ product (f p) (f q)
