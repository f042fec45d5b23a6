-- The pairs that gates make anew are as long as those that they are made of.
use Rattle.std.proofs.Common.{◌≡◌, ℕ, length, sym, subst}
use Rattle.gate_table.specs.declared.gate.Gate.{Gate}
use Rattle.gate_table.specs.Images.{image2, inverse_of}
use Rattle.pauli_word.specs.declared.letter.Letter.{Letter}
use Rattle.tableau.specs.private.Encoding.{Pair, word_of, HasLength}
use Rattle.tableau.specs.private.EncodingSteps.{preimage_product}
use Rattle.tableau.proofs.RowMaps.{word_of_size}
use Rattle.tableau.proofs.Turns.{product_size}

product_long : (m : ℕ) (g : Gate) (r s : Pair) (p : Letter × Letter) → HasLength m r → HasLength m s → length (preimage_product m g r s p).letters ≡ m
product_long m g r s p r_size s_size =
    let image = image2 (inverse_of g) p.0 p.1 in
    product_size m (word_of m r image.0) (word_of m s image.1) (word_of_size m r image.0 r_size.x r_size.z) (word_of_size m s image.1 s_size.x s_size.z)

pub two_size : (n m : ℕ) (g : Gate) (r s new : Pair) (p q : Letter × Letter) → m ≡ n → HasLength n r → HasLength n s
    → new ≡ (preimage_product m g r s p, preimage_product m g r s q) → HasLength n new
two_size n m g r s new p q e r_size s_size made =
    let r_same : HasLength m r = subst (λ k. HasLength k r) (sym e) r_size in
    let s_same : HasLength m s = subst (λ k. HasLength k s) (sym e) s_size in
    let long : HasLength m (preimage_product m g r s p, preimage_product m g r s q) = record { x = product_long m g r s p r_same s_same; z = product_long m g r s q r_same s_same } in
    subst (λ k. HasLength k new) e (subst (HasLength m) (sym made) long)
