-- A record's text is what its parts are: the bytes before the number, the number, and a bracket at the end.
use Rattle.std.proofs.Common.{◌≡◌, ℕ, ◌==◌, ◌-◌, Bool, true, false, ◌&&◌, nat_le, List, [], ◌∷◌, ◌++◌, length, take, Option, None, refl, ap, ◌∙◌, inl, inr, arith}
use Rattle.std.specs.Prelude.{if◌then◌else◌, bytes_eq, option_and_then, slice_index}
use Rattle.std.proofs.Math.Bool.{and-false}
use Rattle.std.proofs.lemmas.Bool.{cases_Bool, eq-eqb}
use Rattle.stim_parser.specs.private.Brackets.{at_least_one, before_bracket, record_in_parts}
use Rattle.stim_parser.specs.Targets.{record_of}

and-true : (b : Bool) → (b && true) ≡ b
and-true true = refl
and-true false = refl

-- a text is its front and a bracket where its last byte is one
ends : (x : ℕ) (xs : List ℕ) → bytes_eq (x ∷ xs) (take (length xs) (x ∷ xs) ++ 93 ∷ []) ≡ (slice_index (x ∷ xs) (length xs) == 93)
ends x [] = and-true (x == 93)
ends x (y ∷ ys) = let same : (x == x) ≡ true = eq-eqb x x refl in rw same (ends y ys)

-- the number before a bracket at the end
bracketed : (rest : List ℕ) → (let front = take (length rest - 1) rest in (if bytes_eq rest (front ++ 93 ∷ []) then at_least_one front else None) ≡ option_and_then at_least_one (before_bracket rest))
bracketed [] = refl
bracketed (x ∷ xs) =
    let less : length (x ∷ xs) - 1 ≡ length xs = omega arith in
    let all : length xs - 0 ≡ length xs = omega arith in
    let some : nat_le 1 (length (x ∷ xs)) ≡ true = grind arith in
    elim (cases_Bool (slice_index (x ∷ xs) (length xs) == 93)) [
      | inl e ↦ rw (less, all, some, ends x xs, e) refl
      | inr e ↦ rw (less, all, some, ends x xs, e) refl
    ]

each : (a b c d e t : Bool) (x : Option ℕ) → (if a && (b && (c && (d && (e && t)))) then x else None) ≡ (if a && (b && (c && (d && (e && true)))) then (if t then x else None) else None)
each false b c d e t x = refl
each true false c d e t x = refl
each true true false d e t x = refl
each true true true false e t x = refl
each true true true true false t x = refl
each true true true true true t x = refl

pub record_parts : (piece : List ℕ) → record_of piece ≡ record_in_parts piece
record_parts [] = refl
record_parts (a ∷ []) = rw (and-false (a == 114)) refl
record_parts (a ∷ b ∷ []) = rw (and-false (b == 101), and-false (a == 114)) refl
record_parts (a ∷ b ∷ c ∷ []) = rw (and-false (c == 99), and-false (b == 101), and-false (a == 114)) refl
record_parts (a ∷ b ∷ c ∷ d ∷ []) = rw (and-false (d == 91), and-false (c == 99), and-false (b == 101), and-false (a == 114)) refl
record_parts (a ∷ b ∷ c ∷ d ∷ e ∷ rest) =
    let front = take (length rest - 1) rest in
    let less : (length (a ∷ b ∷ c ∷ d ∷ e ∷ rest) - 1) - 5 ≡ length rest - 1 = omega arith in
    rw less
    (each (a == 114) (b == 101) (c == 99) (d == 91) (e == 45) (bytes_eq rest (front ++ 93 ∷ [])) (at_least_one front)
    ∙ ap (λ (o : Option ℕ). if (a == 114) && ((b == 101) && ((c == 99) && ((d == 91) && ((e == 45) && true)))) then o else None) (bracketed rest))
