-- Words of I and Z alone, which with sign plus are the state at the start; and the letters of a word at one qubit.
use Rattle.std.proofs.Common.{◌≡◌, ◌<◌, inl, inr, ℕ, zero, suc, Bool, true, false, not, ◌&&◌, ◌||◌, if◌then◌else◌, List, [], ◌∷◌, Option, None, Some, refl, ap, ap₂, sym, subst, ◌∙◌, get_or-set_same, set-set, set}
use Rattle.std.proofs.lemmas.List.{length-replicate}
use Rattle.std.proofs.lemmas.Bool.{cases_Bool, and_from, and_parts}
use Rattle.std.specs.List.{list_all}
use Rattle.std.specs.Option.{option_map}
use Rattle.gate_table.specs.declared.gate.Gate.{Gate}
use Rattle.gate_table.specs.Images.{image1}
use Rattle.gate_table.specs.WordImages.{image_at}
use Rattle.pauli_word.specs.declared.letter.Letter.{Letter}
use Rattle.pauli_word.specs.declared.letter.Letter.TheVariants.{I, X, Y, Z}
use Rattle.pauli_word.specs.Letters.{is_minus, letter_product, letter_power, letters_clash}
use Rattle.pauli_word.specs.Parity.{exclusive_or}
use Rattle.pauli_word.specs.States.{is_I_or_Z, start_state, is_decided}
use Rattle.pauli_word.specs.Groups.{IsMember}
use Rattle.pauli_word.specs.Words.{signed, anticommute, product, no_letters, lone_letter, letter_at, has_X_or_Y, lowest_X_or_Y}
use Rattle.pauli_word.proofs.LoneLetters.{length-lone_letter, anticommute-lone_letter, letters_product-lone_letter, letters_power-lone_letter}
use Rattle.tableau.specs.private.EncodingSteps.{lone}

pub all_diagonal : (w : List Letter) → lowest_X_or_Y w ≡ None → list_all is_I_or_Z w ≡ true
all_diagonal [] h = refl
all_diagonal (a ∷ w) h = elim (cases_Bool (has_X_or_Y a)) [
  | inl e ↦
      (let c : ◌≡◌ {A = Option ℕ} (Some 0) None = sym (ap (λ b. if b then Some 0 else option_map suc (lowest_X_or_Y w)) e) ∙ h in
      cc)
  | inr e ↦
      (let c : option_map suc (lowest_X_or_Y w) ≡ None = sym (ap (λ b. if b then Some 0 else option_map suc (lowest_X_or_Y w)) e) ∙ h in
      and_from (is_I_or_Z a) (list_all is_I_or_Z w) (diagonal_letter a e) (all_diagonal w (below (lowest_X_or_Y w) c)))
]
  where
    diagonal_letter : (a : Letter) → has_X_or_Y a ≡ false → is_I_or_Z a ≡ true
    diagonal_letter I e = refl
    diagonal_letter X e = cc
    diagonal_letter Y e = cc
    diagonal_letter Z e = refl

    below : (o : Option ℕ) → option_map suc o ≡ None → o ≡ None
    below None c = refl
    below (Some k) c = cc

pub start_diagonal : (l : List Letter) (b : Bool) → list_all is_I_or_Z l ≡ true → start_state (signed l b) ≡ not b
start_diagonal l b h = ap (λ t. t && not b) h

pub decided_diagonal : (l : List Letter) → list_all is_I_or_Z l ≡ true → is_decided start_state l ≡ true
decided_diagonal l h = ap₂ (λ a b. a || b) (start_diagonal l false h) (start_diagonal l true h)

-- Z at a qubit is in the start state

none_diagonal : (n : ℕ) → list_all is_I_or_Z (no_letters n) ≡ true
none_diagonal zero = refl
none_diagonal (suc n) = none_diagonal n

lone_diagonal : (n k : ℕ) → list_all is_I_or_Z (lone_letter n k Z) ≡ true
lone_diagonal zero k = refl
lone_diagonal (suc n) zero = none_diagonal n
lone_diagonal (suc n) (suc k) = lone_diagonal n k

pub Z_in_start : (n k : ℕ) → IsMember n start_state (lone n k Z)
Z_in_start n k = record { size = length-lone_letter n k Z; member = start_diagonal (lone_letter n k Z) false (lone_diagonal n k) }

-- letters at one qubit
pub at_one : (n k : ℕ) (a b : Letter) → k < n → anticommute (lone_letter n k a) (lone_letter n k b) ≡ letters_clash a b
at_one n k a b h =
    anticommute-lone_letter n (lone_letter n k b) k a (length-lone_letter n k b) h
    ∙ ap (letters_clash a) (get_or-set_same (no_letters n) k b I (subst (λ m. k < m) (sym (length-replicate n I)) h))

pub diagonal_at : (l : List Letter) (k : ℕ) → list_all is_I_or_Z l ≡ true → is_I_or_Z (letter_at l k) ≡ true
diagonal_at [] k h = refl
diagonal_at (a ∷ l) zero h = (and_parts (is_I_or_Z a) (list_all is_I_or_Z l) h).0
diagonal_at (a ∷ l) (suc k) h = diagonal_at l k (and_parts (is_I_or_Z a) (list_all is_I_or_Z l) h).1

pub diagonal_without : (l : List Letter) (k : ℕ) → list_all is_I_or_Z l ≡ true → list_all is_I_or_Z (set l k I) ≡ true
diagonal_without [] k h = refl
diagonal_without (a ∷ l) zero h = (and_parts (is_I_or_Z a) (list_all is_I_or_Z l) h).1
diagonal_without (a ∷ l) (suc k) h =
    let parts = and_parts (is_I_or_Z a) (list_all is_I_or_Z l) h in
    and_from (is_I_or_Z a) (list_all is_I_or_Z (set l k I)) parts.0 (diagonal_without l k parts.1)

module _ (n k : ℕ) (inside : k < n) where
  lone_at : (a : Letter) → letter_at (lone_letter n k a) k ≡ a
  lone_at a = get_or-set_same (no_letters n) k a I (subst (λ m. k < m) (sym (length-replicate n I)) inside)

  -- the product of two letters at a qubit
  pub lone_product : (a b : Letter) → product (lone n k a) (lone n k b) ≡ signed (lone_letter n k (letter_product a b)) (is_minus (letter_power a b))
  lone_product a b =
      ap₂ signed
      (letters_product-lone_letter n (lone_letter n k b) k a (length-lone_letter n k b) inside
      ∙ (ap (λ c. set (lone_letter n k b) k (letter_product a c)) (lone_at b) ∙ set-set (no_letters n) k b (letter_product a b)))
      (ap is_minus (letters_power-lone_letter n (lone_letter n k b) k a (length-lone_letter n k b) inside ∙ ap (letter_power a) (lone_at b)))

  -- the image of a letter there under a gate
  pub lone_image : (g : Gate) (a : Letter) (s : Bool) → image_at g k (signed (lone_letter n k a) s) ≡ signed (lone_letter n k (image1 g a).0) (exclusive_or s (image1 g a).1)
  lone_image g a s =
      ap (λ b. signed (set (lone_letter n k a) k (image1 g b).0) (exclusive_or s (image1 g b).1)) (lone_at a)
      ∙ ap (λ l. signed l (exclusive_or s (image1 g a).1)) (set-set (no_letters n) k a (image1 g a).0)
