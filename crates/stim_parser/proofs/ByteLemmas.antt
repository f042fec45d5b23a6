-- Bytes that pass a test, and texts all of whose bytes pass.
use Rattle.std.proofs.Common.{◌≡◌, ℕ, ◌==◌, Bool, true, false, List, [], ◌∷◌, ◌++◌, refl, subst}
use Rattle.std.specs.List.{list_all, list_any}
use Rattle.std.proofs.lemmas.Bool.{and_from, and_parts, both_ways, ne_eqb, or_from}
use Rattle.std.proofs.lemmas.List.Folds.{list_all-append}

pub other_byte : (p : ℕ → Bool) (c b : ℕ) → p c ≡ false → p b ≡ true → (b == c) ≡ false
other_byte p c b other h = ne_eqb b c (λ e. absurd (both_ways (p c) other (subst (λ x. p x ≡ true) e h)))

pub none-where : (p q : ℕ → Bool) (xs : List ℕ) → ((b : ℕ) → q b ≡ true → p b ≡ false) → list_all q xs ≡ true → list_any p xs ≡ false
none-where p q [] other h = refl
none-where p q (x ∷ xs) other h =
    let parts = and_parts (q x) (list_all q xs) h in
    or_from (p x) (list_any p xs) (other x parts.0) (none-where p q xs other parts.1)

pub all-where : (p q : ℕ → Bool) (xs : List ℕ) → ((b : ℕ) → q b ≡ true → p b ≡ true) → list_all q xs ≡ true → list_all p xs ≡ true
all-where p q [] more h = refl
all-where p q (x ∷ xs) more h =
    let parts = and_parts (q x) (list_all q xs) h in
    and_from (p x) (list_all p xs) (more x parts.0) (all-where p q xs more parts.1)

pub both_all : (p : ℕ → Bool) (xs ys : List ℕ) → list_all p xs ≡ true → list_all p ys ≡ true → list_all p (xs ++ ys) ≡ true
both_all p xs ys h k = rw (list_all-append p xs ys, h, k) refl
