-- It doesn't matter in which order the letters of targets are multiplied.
use Rattle.std.proofs.Common.{◌≡◌, ℕ, ◌+◌, ◌<◌, List, [], ◌∷◌, length, drop, set, get_or, inl, inr, refl, ap, sym, ◌∙◌}
use Rattle.std.proofs.lemmas.Bool.{cases_eq}
use Rattle.std.proofs.lemmas.List.{drop_more, get_or-set_other, set_comm}
use Rattle.pauli_word.specs.declared.letter.Letter.{Letter}
use Rattle.pauli_word.specs.Letters.{letter_product}
use Rattle.pauli_word.specs.Words.{letter_at}
use Rattle.trackers.specs.private.Transposed.{times_at, times_each}

either_first : (letter : Letter) (t u : ℕ) (w : List Letter) → times_at letter t (times_at letter u w) ≡ times_at letter u (times_at letter t w)
either_first letter t u w =
    elim (cases_eq t u) as (λ _. times_at letter t (times_at letter u w) ≡ times_at letter u (times_at letter t w)) [
      | inl e ↦ ap (λ k. times_at letter k (times_at letter u w)) e ∙ sym (ap (λ k. times_at letter u (times_at letter k w)) e)
      | inr ne ↦
          ap (λ a. set (times_at letter u w) t (letter_product letter a)) (get_or-set_other w u t (letter_product letter (letter_at w u)) _ ne)
          ∙ (set_comm w u t (letter_product letter (letter_at w u)) (letter_product letter (letter_at w t)) (λ e. ne (sym e))
          ∙ sym (ap (λ a. set (times_at letter t w) u (letter_product letter a)) (get_or-set_other w t u (letter_product letter (letter_at w t)) _ (λ e. ne (sym e)))))
    ]

last_first : (letter : Letter) (t : ℕ) (ts : List ℕ) (w : List Letter) → times_at letter t (times_each letter ts w) ≡ times_each letter ts (times_at letter t w)
last_first letter t [] w = refl
last_first letter t (u ∷ ts) w = last_first letter t ts (times_at letter u w) ∙ ap (times_each letter ts) (either_first letter t u w)

-- the targets from one on, and the one before
pub one_before : (letter : Letter) (targets : List ℕ) (w : List Letter) (i left : ℕ) → i + 1 ≡ left → i < length targets
    → times_at letter (get_or targets i 0) (times_each letter (drop left targets) w) ≡ times_each letter (drop i targets) w
one_before letter targets w i left next within =
    last_first letter (get_or targets i 0) (drop left targets) w
    ∙ (ap (λ n. times_each letter (get_or targets i 0 ∷ drop n targets) w) (sym next)
    ∙ ap (λ ts. times_each letter ts w) (sym (drop_more targets i 0 within)))
