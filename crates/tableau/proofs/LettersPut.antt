-- Putting a letter at a qubit: the one that is there changes nothing, and an image takes the place of its letter.
use Rattle.std.proofs.Common.{◌≡◌, ◌<◌, ℕ, length, set, ap, ◌∙◌, get_or-set_same}
use Rattle.std.proofs.lemmas.List.{set-get_or, set-set}
use Rattle.gate_table.specs.Images.{image1}
use Rattle.gate_table.specs.WordImages.{image_at}
use Rattle.gate_table.specs.declared.gate.Gate.{Gate}
use Rattle.pauli_word.specs.declared.letter.Letter.{Letter}
use Rattle.pauli_word.specs.declared.letter.Letter.TheVariants.{I}
use Rattle.pauli_word.specs.Parity.{exclusive_or}
use Rattle.pauli_word.specs.Words.{Signed, letter_at, signed}

pub letter_put : (w : Signed) (k : ℕ) (a : Letter) → a ≡ letter_at w.letters k → signed (set w.letters k a) w.negative ≡ w
letter_put w k a here =
    ap (λ b. signed (set w.letters k b) w.negative) here ∙ ap (λ l. signed l w.negative) (set-get_or w.letters k I)

pub image_put : (gate : Gate) (k : ℕ) (w : Signed) (a : Letter) → k < length w.letters
    → image_at gate k (signed (set w.letters k a) w.negative) ≡ signed (set w.letters k (image1 gate a).0) (exclusive_or w.negative (image1 gate a).1)
image_put gate k w a inside =
    let there = get_or-set_same w.letters k a I inside in
    ap (λ b. signed (set (set w.letters k a) k (image1 gate b).0) (exclusive_or w.negative (image1 gate b).1)) there
    ∙ ap (λ l. signed l (exclusive_or w.negative (image1 gate a).1)) (set-set w.letters k a (image1 gate a).0)
