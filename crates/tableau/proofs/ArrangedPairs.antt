-- The words of two letters that clash, arranged in place from the words of X and Z.
use Rattle.std.proofs.Common.{◌≡◌, ℕ, true, refl, ap, ◌∙◌}
use Rattle.pauli_word.specs.declared.letter.Letter.{Letter}
use Rattle.pauli_word.specs.declared.letter.Letter.TheVariants.{X, Y, Z}
use Rattle.pauli_word.specs.Letters.{letters_clash}
use Rattle.pauli_word.specs.Words.{anticommute, product, with_sign_changed}
use Rattle.pauli_word.proofs.WordLaws.{anticommute_comm}
use Rattle.tableau.specs.private.Encoding.{Pair, word_of}
use Rattle.tableau.specs.private.EncodingSteps.{arranged}
use Rattle.tableau.proofs.SignedAlgebra.{product_swapped}

module _ (n : ℕ) (r : Pair) (apart : anticommute r.0.letters r.1.letters ≡ true) where
  -- Z X is i Y
  other_order : product r.1 r.0 ≡ word_of n r Y
  other_order = product_swapped r.1 r.0 ∙ ap (λ b. with_sign_changed b (product r.0 r.1)) (anticommute_comm r.1.letters r.0.letters ∙ apart)

  pub arranged_is : (a b : Letter) → letters_clash a b ≡ true → arranged a b r ≡ (word_of n r a, word_of n r b)
  arranged_is X Y clash = ap (λ w. (r.0, w)) other_order
  arranged_is X Z clash = refl
  arranged_is Y X clash = ap (λ w. (w, r.0)) other_order
  arranged_is Y Z clash = refl
  arranged_is Z X clash = refl
  arranged_is Z Y clash = refl
  arranged_is a b clash = cc
