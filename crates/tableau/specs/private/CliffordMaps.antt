-- Maps of the signed words of n letters that keep length, the identity, which words anticommute, and products, and have
-- an inverse that keeps these too. Conjugation by a Clifford unitary is such a map. So is a turn by a word m: it is
-- conjugation by (1 + i m) / sqrt 2. (Nielsen and Chuang, Quantum Computation and Quantum Information, section 10.5.2.)
-- (Conjugation by Clifford gates: Aaronson and Gottesman, Phys. Rev. A 70, 052328.)
use Rattle.std.specs.Prelude.{◌≡◌, ℕ, true, length, if◌then◌else◌}
use Rattle.pauli_word.specs.WordMaps.{KeepsWords}
use Rattle.pauli_word.specs.Words.{Signed, anticommute, product, with_sign_changed}

-- f is such a map
pub record IsClifford (n : ℕ) (f : Signed → Signed) : Type 0 where
  pub keeps : KeepsWords n f
  pub back : Signed → Signed
  pub back_keeps : KeepsWords n back
  pub left : (p : Signed) → length p.letters ≡ n → back (f p) ≡ p
  pub right : (p : Signed) → length p.letters ≡ n → f (back p) ≡ p

-- the turn by a word m: a word that commutes with m stays, and one that doesn't is multiplied by -i m from the right
abbrev pub turned : Signed → Signed → Signed
turned m v = if anticommute v.letters m.letters then product v m else v

-- the twist about a word u by a word y that commutes with u: two turns, which leave u as it is
abbrev pub twisted : Signed → Signed → Signed → Signed
twisted u y v = turned (with_sign_changed true (product y u)) (turned y v)
