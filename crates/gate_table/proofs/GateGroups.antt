-- A gate, at qubits that there are, keeps the commutative group of a state's words: taking images keeps length, products,
-- what anticommutes and the identity, and so does taking preimages, the images under the inverse.
use Rattle.std.proofs.Common.{◌≢◌, ◌<◌, ℕ, sym, subst, ◌∙◌}
use Rattle.gate_table.specs.declared.gate.Gate.{Gate}
use Rattle.gate_table.specs.Images.{inverse_of}
use Rattle.gate_table.specs.WordImages.{image_at, image_at_two, preimage_at, preimage_at_two}
use Rattle.gate_table.proofs.WordImageLaws.{length-image_at, image_at-none, image_at-anticommute, image_at-product}
use Rattle.gate_table.proofs.PairImageLaws.{length-image_at_two, image_at_two-none, image_at_two-anticommute, image_at_two-product}
use Rattle.pauli_word.proofs.Groups.{IsGroup-moved}
use Rattle.pauli_word.specs.States.{State}
use Rattle.pauli_word.specs.Groups.{IsGroup}
use Rattle.pauli_word.specs.WordMaps.{KeepsWords}

pub image_at_keeps : (n : ℕ) (g : Gate) (q : ℕ) → q < n → KeepsWords n (image_at g q)
image_at_keeps n g q within =
    record {
      size = λ p h. length-image_at g q p ∙ h;
      identity = λ b. image_at-none g q n b;
      anticommuting = λ p r h k. image_at-anticommute g q p r (subst (λ m. q < m) (sym h) within) (subst (λ m. q < m) (sym k) within);
      product = λ p r h k. image_at-product g q p r (h ∙ sym k) (subst (λ m. q < m) (sym h) within);
    }

pub image_at_two_keeps : (n : ℕ) (g : Gate) (a b : ℕ) → a < n → b < n → a ≢ b → KeepsWords n (image_at_two g a b)
image_at_two_keeps n g a b first second ne =
    record {
      size = λ p h. length-image_at_two g a b p ∙ h;
      identity = λ c. image_at_two-none g a b n c;
      anticommuting = λ p r h k. image_at_two-anticommute g a b p r (h ∙ sym k) ne (subst (λ m. a < m) (sym h) first) (subst (λ m. b < m) (sym h) second);
      product = λ p r h k. image_at_two-product g a b p r (h ∙ sym k) ne (subst (λ m. a < m) (sym h) first) (subst (λ m. b < m) (sym h) second);
    }

pub IsGroup-gate : (n : ℕ) (g : Gate) (q : ℕ) (s : State) → q < n → IsGroup n s → IsGroup n (λ p. s (preimage_at g q p))
IsGroup-gate n g q s within = IsGroup-moved n (preimage_at g q) s (image_at_keeps n (inverse_of g) q within)

pub IsGroup-gate_two : (n : ℕ) (g : Gate) (a b : ℕ) (s : State) → a < n → b < n → a ≢ b → IsGroup n s → IsGroup n (λ p. s (preimage_at_two g a b p))
IsGroup-gate_two n g a b s first second ne =
    IsGroup-moved n (preimage_at_two g a b) s (image_at_two_keeps n (inverse_of g) a b first second ne)
