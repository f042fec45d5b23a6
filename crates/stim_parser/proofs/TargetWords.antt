-- A target comes back from its word, and numbers that are written have room in one.
use Rattle.std.proofs.Common.{◌≡◌, ℕ, ◌+◌, ◌*◌, ◌<◌, true, false, refl, ap, ◌∙◌, arith}
use Rattle.std.proofs.lemmas.Nat.{div-mul-add, mod-mul-add}
use Rattle.pauli_word.specs.declared.letter.Letter.TheVariants.{I, X, Y, Z}
use Rattle.stim_parser.specs.declared.target.Target.{Target}
use Rattle.stim_parser.specs.declared.target.Target.TheVariants.{Plain, Inverted, Back, Pauli, Star}
use Rattle.stim_parser.specs.private.Words.{named, target_in, word_of}

-- the parts of a word
parts : (n kind : ℕ) → kind < 16 → target_in (n * 16 + kind) ≡ named kind n
parts n kind h = rw (mod-mul-add n 16 kind h, div-mul-add n 16 kind h) refl

pub come_back : (t : Target) → target_in (word_of t) ≡ t
come_back (Plain n) = let same : n * 16 ≡ n * 16 + 0 = omega arith in ap target_in same ∙ parts n 0 (omega arith)
come_back (Inverted n) = parts n 1 (omega arith)
come_back (Back n) = parts n 2 (omega arith)
come_back Star = refl
come_back (Pauli false I n) = parts n 8 (omega arith)
come_back (Pauli false X n) = parts n 9 (omega arith)
come_back (Pauli false Y n) = parts n 10 (omega arith)
come_back (Pauli false Z n) = parts n 11 (omega arith)
come_back (Pauli true I n) = parts n 12 (omega arith)
come_back (Pauli true X n) = parts n 13 (omega arith)
come_back (Pauli true Y n) = parts n 14 (omega arith)
come_back (Pauli true Z n) = parts n 15 (omega arith)
