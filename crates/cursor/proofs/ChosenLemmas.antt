-- What is reached of the chosen instructions: all that are reached, without those that aren't chosen.
use Rattle.std.proofs.Common.{◌≡◌, ℕ, zero, suc, Bool, true, false, List, [], ◌∷◌, ◌++◌, refl, ap, ◌∙◌, sym}
use Rattle.std.specs.Prelude.{if◌then◌else◌}
use Rattle.std.specs.List.{filter}
use Rattle.std.proofs.lemmas.List.Elements.{filter-append}
use Rattle.stim_lexer.specs.Trees.{Tree, Nothing, Then, Block}
use Rattle.stim_lexer.specs.Reached.{copies, reached}
use Rattle.cursor.specs.Chosen.{chosen_in}

pub if_chosen : {I : Type 0} (w : I → Bool) (x : I) (t : Tree I) → w x ≡ true → chosen_in w (Then x t) ≡ x ∷ chosen_in w t
if_chosen {I} w x t h = ap (λ (b : Bool). if b then x ∷ chosen_in w t else chosen_in w t) h

pub unless_chosen : {I : Type 0} (w : I → Bool) (x : I) (t : Tree I) → w x ≡ false → chosen_in w (Then x t) ≡ chosen_in w t
unless_chosen {I} w x t h = ap (λ (b : Bool). if b then x ∷ chosen_in w t else chosen_in w t) h

pub one_or_none : {I : Type 0} (w : I → Bool) (x : I) (t : Tree I) → chosen_in w (Then x t) ≡ (if w x then x ∷ [] else []) ++ chosen_in w t
one_or_none {I} w x t =
    elim (w x) as (λ b. (if b then x ∷ chosen_in w t else chosen_in w t) ≡ (if b then x ∷ [] else []) ++ chosen_in w t) [
      | true ↦ refl
      | false ↦ refl
    ]

-- ---- the laws

-- where each instruction is chosen, all that are reached
pub all_chosen : {I : Type 0} (t : Tree I) → chosen_in (λ (i : I). true) t ≡ reached t
all_chosen Nothing = refl
all_chosen {I} (Then x t) = ap (λ (xs : List I). x ∷ xs) (all_chosen t)
all_chosen {I} (Block line turns body rest) =
    ap (λ (xs : List I). copies turns xs ++ chosen_in (λ (i : I). true) rest) (all_chosen body)
    ∙ ap (λ (xs : List I). copies turns (reached body) ++ xs) (all_chosen rest)

filter_copies : {I : Type 0} (w : I → Bool) (n : ℕ) (xs : List I) → filter w (copies n xs) ≡ copies n (filter w xs)
filter_copies w zero xs = refl
filter_copies {I} w (suc n) xs = filter-append w xs (copies n xs) ∙ ap (λ (ys : List I). filter w xs ++ ys) (filter_copies w n xs)

-- those of the instructions that are reached that are chosen
pub chosen_filtered : {I : Type 0} (w : I → Bool) (t : Tree I) → chosen_in w t ≡ filter w (reached t)
chosen_filtered w Nothing = refl
chosen_filtered {I} w (Then x t) = ap (λ (xs : List I). if w x then x ∷ xs else xs) (chosen_filtered w t)
chosen_filtered {I} w (Block line turns body rest) =
    ap (λ (xs : List I). copies turns xs ++ chosen_in w rest) (chosen_filtered w body)
    ∙ ap (λ (xs : List I). copies turns (filter w (reached body)) ++ xs) (chosen_filtered w rest)
    ∙ ap (λ (xs : List I). xs ++ filter w (reached rest)) (sym (filter_copies w turns (reached body)))
    ∙ sym (filter-append w (copies turns (reached body)) (reached rest))
