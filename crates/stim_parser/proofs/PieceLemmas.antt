-- The first piece of a text, by where it ends.
use Rattle.std.proofs.Common.{◌≡◌, ℕ, suc, ◌+◌, ◌==◌, ◌<◌, ◌≤◌, Bool, true, false, not, List, [], ◌∷◌, length, take, drop, refl, ap, sym, ◌∙◌, inl, inr, arith}
use Rattle.std.specs.Prelude.{max}
use Rattle.std.specs.List.{position_or_len, onto_first}
use Rattle.std.proofs.lemmas.Bool.{both_ways, cases_Bool, false≢true, not-true, or_from, or_parts}
use Rattle.std.proofs.lemmas.List.{length-drop, nil_from_length}
use Rattle.stim_lexer.specs.Bytes.{is_blank, after_blanks}
use Rattle.stim_parser.specs.Pieces.{ends_piece, is_star, pieces_of}

-- blanks in front belong to no piece
pub pieces_of-after_blanks : (text : List ℕ) → pieces_of text ≡ pieces_of (after_blanks text)
unfolding pieces_of
pieces_of-after_blanks [] = refl
pieces_of-after_blanks (b ∷ text) =
    let here : 1 + position_or_len (λ x. not (is_blank x)) text ≡ suc (position_or_len (λ x. not (is_blank x)) text) = omega arith in
    elim (cases_Bool (is_blank b)) [ inl e ↦ rw (e, here) (pieces_of-after_blanks text) | inr e ↦ rw (e, e) refl ]

-- where a text's first byte is no blank
abbrev begins_piece : List ℕ → Bool
begins_piece [] = false
begins_piece (b ∷ text) = not (is_blank b)

after_blanks-begins : (text : List ℕ) → 0 < length (after_blanks text) → begins_piece (after_blanks text) ≡ true
after_blanks-begins [] h = absurd (omega arith)
after_blanks-begins (b ∷ text) h =
    let here : 1 + position_or_len (λ x. not (is_blank x)) text ≡ suc (position_or_len (λ x. not (is_blank x)) text) = omega arith in
    elim (cases_Bool (is_blank b)) [
      | inl e ↦ let h' : 0 < length (after_blanks text) = rw (e, here) at h in rw (e, here) (after_blanks-begins text h')
      | inr e ↦ rw (e, e) refl
    ]

-- ---- a piece

-- a byte that ends no piece, and what follows it up to the piece's end
word-first : (b : ℕ) (text : List ℕ) → ends_piece b ≡ false → pieces_of (b ∷ text) ≡ (b ∷ take (position_or_len ends_piece text) text) ∷ pieces_of (drop (position_or_len ends_piece text) text)
unfolding pieces_of
word-first b [] e =
    let parts = or_parts (is_blank b) (is_star b) e in
    let blank : is_blank b ≡ false = parts.0 in
    let star : is_star b ≡ false = parts.1 in rw (blank, star) refl
word-first b (c ∷ text) e =
    let parts = or_parts (is_blank b) (is_star b) e in
    let blank : is_blank b ≡ false = parts.0 in
    let star : is_star b ≡ false = parts.1 in
    let here : 1 + position_or_len ends_piece text ≡ suc (position_or_len ends_piece text) = omega arith in
    elim (cases_Bool (ends_piece c)) [
      | inl f ↦ rw (blank, star, f) refl
      | inr f ↦ rw (blank, star, f, here) (ap (onto_first b) (word-first c text f))
    ]

-- the first piece of a text that begins with no blank, and has one byte at least
first-piece : (text : List ℕ) → begins_piece text ≡ true
    → pieces_of text ≡ take (max (position_or_len ends_piece text) 1) text ∷ pieces_of (drop (max (position_or_len ends_piece text) 1) text)
unfolding pieces_of
first-piece [] h = absurd (false≢true h)
first-piece (b ∷ text) h =
    let blank : is_blank b ≡ false = not-true (is_blank b) h in
    let m : max (1 + position_or_len ends_piece text) 1 ≡ suc (position_or_len ends_piece text) = omega arith in
    elim (cases_Bool (is_star b)) [
      | inl star ↦ rw (blank, star) refl
      | inr star ↦
          let e : ends_piece b ≡ false = or_from (is_blank b) (is_star b) blank star in
          let place : max (position_or_len ends_piece (b ∷ text)) 1 ≡ suc (position_or_len ends_piece text) = rw (blank, star) m in
          word-first b text e ∙ ap (λ (n : ℕ). take n (b ∷ text) ∷ pieces_of (drop n (b ∷ text))) (sym place)
    ]

-- the first piece and the rest of a text, from what follows the blanks in front
pub pieces_of-cut : (text left piece rest : List ℕ) (n : ℕ) → left ≡ after_blanks text → 0 < length left
    → n ≡ max (position_or_len ends_piece left) 1 → piece ≡ take n left → rest ≡ drop n left → pieces_of text ≡ piece ∷ pieces_of rest
pieces_of-cut text left piece rest n l some n_is p r =
    let some' : 0 < length (after_blanks text) = rw (← l) some in
    rw (p, r, n_is, l) (pieces_of-after_blanks text ∙ first-piece (after_blanks text) (after_blanks-begins text some'))

-- there is none in blanks
pub pieces_of-none : (text left : List ℕ) → left ≡ after_blanks text → length left ≡ 0 → pieces_of text ≡ []
unfolding pieces_of
pieces_of-none text left l none =
    pieces_of-after_blanks text ∙ (ap pieces_of (sym l) ∙ ap pieces_of (nil_from_length left none))

pub length-after_blanks : (text : List ℕ) → length (after_blanks text) ≤ length text
length-after_blanks text = omega (arith, length-drop (position_or_len (λ b. not (is_blank b)) text) text)

pub some_bytes : (text : List ℕ) (b : Bool) → b ≡ (length text == 0) → b ≡ false → 0 < length text
some_bytes [] b e h = absurd (both_ways b h e)
some_bytes (d ∷ text) b e h = omega arith
