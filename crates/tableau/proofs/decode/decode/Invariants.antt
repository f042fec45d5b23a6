use Rattle.std.proofs.Common.{◌≡◌, ◌<◌, ℕ, length}
use Rattle.pauli_word.specs.declared.letter.Letter.TheVariants.{X}
use Rattle.pauli_word.specs.Words.{lone_letter, letter_at}
use Rattle.tableau.specs.private.Decoding.{decoded_letters}
use Rattle.tableau.proofs.decode.decode.Given as goal

abbrev pub invariant-loop-qubit : goal.invariant-loop-qubit
invariant-loop-qubit g l =
    (length l.word.letters ≡ length l.rows.items) × ((j : ℕ) → j < l.qubit → letter_at l.word.letters j ≡ letter_at (decoded_letters l.rows.items (lone_letter (length l.rows.items) l.row X)) j)
