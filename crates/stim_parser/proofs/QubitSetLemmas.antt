-- One qubit put into a set or taken out, by a bit of a word.
use Rattle.std.proofs.Common.{◌≡◌, ℕ, ◌*◌, ◌/◌, ◌%◌, ◌^◌, ◌<◌, ◌≤◌, List, length, get_or, set, replicate, Bool, false, not, eqb, ◌&&◌, ◌||◌, refl, sym, ap, ◌∙◌, arith, ⊎_elim, bit_and, bit_or, get_or-set_same, get_or-set_other}
use Rattle.std.specs.Int.{bit_at, bit_not, w64}
use Rattle.std.proofs.lemmas.Bool.{cases_eq, cases_lt, eq-eqb, ne_eqb}
use Rattle.std.proofs.lemmas.List.{get_or-replicate, get_or_past, length-replicate}
use Rattle.std.proofs.lemmas.Nat.Bits.{bit_at_set_same, bit_at_set_other, bit_at_clear_same, bit_at_clear_other, bit_at-zero, shr_and_one}
use Rattle.stim_parser.specs.private.QubitSets.{is_named, is_set}

-- the test `(word >> j) & 1 == 1`
pub is_named_shift : (words : List ℕ) (q : ℕ) → eqb (bit_and (get_or words (q / 64) 0 / 2 ^ (q % 64)) 1) 1 ≡ is_named words q
unfolding is_named is_set
is_named_shift words q = ap (λ v. eqb v 1) (shr_and_one (get_or words (q / 64) 0) (q % 64))

-- words that are all 0
is_named_zeros : (words : List ℕ) → ((k : ℕ) → get_or words k 0 ≡ 0) → (q : ℕ) → is_named words q ≡ false
unfolding is_named is_set
is_named_zeros words zeros q = ap (λ w. eqb (bit_at w (q % 64)) 1) (zeros (q / 64)) ∙ ap (λ v. eqb v 1) (bit_at-zero (q % 64))

abbrev zeros : ℕ → List ℕ
zeros n = replicate n 0

zero_at : (n k : ℕ) → get_or (zeros n) k 0 ≡ 0
zero_at n k =
    ⊎_elim
    (λ (lt : k < n). get_or-replicate {A = ℕ} n k 0 0 lt)
    (λ (ge : n ≤ k). get_or_past (zeros n) k 0 (omega (arith, ge, length-replicate {A = ℕ} n 0)))
    (cases_lt k n)

pub is_named_none : (n q : ℕ) → is_named (replicate n 0) q ≡ false
is_named_none n = is_named_zeros (replicate n 0) (zero_at n)

-- `word | 1 << k`
is_set_put : (word k j : ℕ) → k < 64 → is_set (bit_or word (1 * 2 ^ k % 2 ^ 64)) j ≡ (eqb j k || is_set word j)
unfolding is_set
is_set_put word k j within =
    ⊎_elim
    (λ e. ap (λ v. eqb v 1) (ap (λ v. bit_at (bit_or word (1 * 2 ^ k % 2 ^ 64)) v) e ∙ bit_at_set_same w64 word k within) ∙ sym (ap (λ b. b || is_set word j) (eq-eqb j k e)))
    (λ ne. ap (λ v. eqb v 1) (bit_at_set_other w64 word k within j ne) ∙ sym (ap (λ b. b || is_set word j) (ne_eqb j k ne)))
    (cases_eq j k)

-- `word & !(1 << k)`
is_set_take : (word k j : ℕ) → k < 64 → j < 64 → is_set (bit_and word (bit_not w64 (1 * 2 ^ k % 2 ^ 64))) j ≡ (not (eqb j k) && is_set word j)
unfolding is_set
is_set_take word k j within below =
    ⊎_elim
    (λ e. ap (λ v. eqb v 1) (ap (λ v. bit_at (bit_and word (bit_not w64 (1 * 2 ^ k % 2 ^ 64))) v) e ∙ bit_at_clear_same w64 word k within) ∙ sym (ap (λ b. not b && is_set word j) (eq-eqb j k e)))
    (λ ne. ap (λ v. eqb v 1) (bit_at_clear_other w64 word k within j below ne) ∙ sym (ap (λ b. not b && is_set word j) (ne_eqb j k ne)))
    (cases_eq j k)

same_place : (q place : ℕ) → q / 64 ≡ place / 64 → eqb (q % 64) (place % 64) ≡ eqb q place
same_place q place e =
    ⊎_elim
    (λ (f : q % 64 ≡ place % 64). eq-eqb (q % 64) (place % 64) f ∙ sym (eq-eqb q place (omega arith)))
    (λ (nf : q % 64 ≡ place % 64 → ⊥). ne_eqb (q % 64) (place % 64) nf ∙ sym (ne_eqb q place (λ g. nf (ap (λ v. v % 64) g))))
    (cases_eq (q % 64) (place % 64))

-- one word changed, by f at the bit of a qubit and not at the others
changed : (f : Bool → Bool → Bool) → ((b : Bool) → f false b ≡ b) → (words : List ℕ) (place word : ℕ) → place / 64 < length words
    → ((j : ℕ) → j < 64 → is_set word j ≡ f (eqb j (place % 64)) (is_set (get_or words (place / 64) 0) j))
    → (q : ℕ) → is_named (set words (place / 64) word) q ≡ f (eqb q place) (is_named words q)
unfolding is_named
changed f other words place word within each q =
    ⊎_elim
    (λ (e : q / 64 ≡ place / 64).
    let here : get_or (set words (place / 64) word) (q / 64) 0 ≡ word = ap (λ v. get_or (set words (place / 64) word) v 0) e ∙ get_or-set_same words (place / 64) word 0 within in
    let old : get_or words (place / 64) 0 ≡ get_or words (q / 64) 0 = ap (λ v. get_or words v 0) (sym e) in
    ap (λ w. is_set w (q % 64)) here
    ∙ each (q % 64) (omega arith)
    ∙ ap (λ w. f (eqb (q % 64) (place % 64)) (is_set w (q % 64))) old
    ∙ ap (λ t. f t (is_set (get_or words (q / 64) 0) (q % 64))) (same_place q place e))
    (λ (ne : q / 64 ≡ place / 64 → ⊥).
    ap (λ w. is_set w (q % 64)) (get_or-set_other words (place / 64) (q / 64) word 0 ne)
    ∙ sym (other (is_set (get_or words (q / 64) 0) (q % 64)))
    ∙ sym (ap (λ t. f t (is_set (get_or words (q / 64) 0) (q % 64))) (ne_eqb q place (λ e. ne (ap (λ v. v / 64) e)))))
    (cases_eq (q / 64) (place / 64))

pub is_named_put : (words : List ℕ) (place : ℕ) → place / 64 < length words
    → (q : ℕ) → is_named (set words (place / 64) (bit_or (get_or words (place / 64) 0) (1 * 2 ^ (place % 64) % 2 ^ 64))) q ≡ (eqb q place || is_named words q)
is_named_put words place within =
    changed (λ t b. t || b) (λ b. refl) words place _ within (λ j h. is_set_put (get_or words (place / 64) 0) (place % 64) j (omega arith))

pub is_named_take : (words : List ℕ) (place : ℕ) → place / 64 < length words
    → (q : ℕ) → is_named (set words (place / 64) (bit_and (get_or words (place / 64) 0) (bit_not w64 (1 * 2 ^ (place % 64) % 2 ^ 64)))) q ≡ (not (eqb q place) && is_named words q)
is_named_take words place within =
    changed (λ t b. not t && b) (λ b. refl) words place _ within (λ j h. is_set_take (get_or words (place / 64) 0) (place % 64) j (omega arith) h)
