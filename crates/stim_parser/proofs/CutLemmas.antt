-- Texts cut before or behind the first byte that passes a test, at each such byte, into lines and into pieces.
use Rattle.std.proofs.Common.{◌≡◌, ℕ, ◌+◌, Bool, true, false, List, [], ◌∷◌, ◌++◌, length, take, drop, refl, ap, sym, ◌∙◌, append-nil, arith}
use Rattle.std.proofs.Math.Seq.{take-append-add, drop-append-add}
use Rattle.std.specs.List.{after_first, before_first, list_any, onto_first, position_or_len, slice_split}
use Rattle.std.proofs.lemmas.Bool.{or_parts, true≢false}
use Rattle.stim_lexer.specs.Bytes.{from_first, is_blank, is_empty, is_line_feed}
use Rattle.stim_lexer.specs.Lines.{lines_of}
use Rattle.stim_parser.specs.Pieces.{ends_here, ends_piece, is_star, pieces_of}

-- ---- before and behind the first byte that passes

passed : (p : ℕ → Bool) (xs ys : List ℕ) → list_any p xs ≡ false → position_or_len p (xs ++ ys) ≡ length xs + position_or_len p ys
passed p [] ys h = omega arith
passed p (x ∷ xs) ys h =
    let parts = or_parts (p x) (list_any p xs) h in
    let here : p x ≡ false = parts.0 in
    let rest = passed p xs ys parts.1 in
    rw here (omega (arith, rest))

pub before_first-append : (p : ℕ → Bool) (xs ys : List ℕ) → list_any p xs ≡ false → before_first p (xs ++ ys) ≡ xs ++ before_first p ys
before_first-append p xs ys h =
    ap (λ n. take n (xs ++ ys)) (passed p xs ys h) ∙ take-append-add xs ys (position_or_len p ys)

pub before_first-none : (p : ℕ → Bool) (xs : List ℕ) → list_any p xs ≡ false → before_first p xs ≡ xs
before_first-none p xs h =
    ap (before_first p) (sym (append-nil xs)) ∙ before_first-append p xs [] h ∙ append-nil xs

pub from_first-append : (p : ℕ → Bool) (xs ys : List ℕ) → list_any p xs ≡ false → from_first p (xs ++ ys) ≡ from_first p ys
from_first-append p xs ys h =
    ap (λ n. drop n (xs ++ ys)) (passed p xs ys h) ∙ drop-append-add xs ys (position_or_len p ys)

pub after_first-append : (p : ℕ → Bool) (xs ys : List ℕ) → list_any p xs ≡ false → after_first p (xs ++ ys) ≡ after_first p ys
after_first-append p xs ys h =
    let further : position_or_len p (xs ++ ys) + 1 ≡ length xs + (position_or_len p ys + 1) = omega (arith, passed p xs ys h) in
    ap (λ n. drop n (xs ++ ys)) further ∙ drop-append-add xs ys (position_or_len p ys + 1)

-- ---- at each byte that passes

pub slice_split-first : (p : ℕ → Bool) (xs : List ℕ) (b : ℕ) (ys : List ℕ) → list_any p xs ≡ false → p b ≡ true → slice_split p (xs ++ b ∷ ys) ≡ xs ∷ slice_split p ys
slice_split-first p [] b ys h k = rw k refl
slice_split-first p (x ∷ xs) b ys h k =
    let parts = or_parts (p x) (list_any p xs) h in
    let here : p x ≡ false = parts.0 in
    rw here (ap (onto_first x) (slice_split-first p xs b ys parts.1 k))

pub slice_split-alone : (p : ℕ → Bool) (xs : List ℕ) → list_any p xs ≡ false → slice_split p xs ≡ xs ∷ []
slice_split-alone p [] h = refl
slice_split-alone p (x ∷ xs) h =
    let parts = or_parts (p x) (list_any p xs) h in
    let here : p x ≡ false = parts.0 in
    rw here (ap (onto_first x) (slice_split-alone p xs parts.1))

-- the first line of a text
pub lines_of-line : (line text : List ℕ) → list_any is_line_feed line ≡ false → lines_of (line ++ 10 ∷ text) ≡ line ∷ lines_of text
unfolding lines_of
lines_of-line [] text h = refl
lines_of-line (b ∷ line) text h =
    let parts = or_parts (is_line_feed b) (list_any is_line_feed line) h in
    let here : is_line_feed b ≡ false = parts.0 in
    rw here (ap (onto_first b) (lines_of-line line text parts.1))

-- ---- pieces

-- the first piece of a text
pub first_piece : (w rest : List ℕ) → is_empty w ≡ false → list_any ends_piece w ≡ false → ends_here rest ≡ true → pieces_of (w ++ rest) ≡ w ∷ pieces_of rest
unfolding pieces_of
first_piece [] rest some h e = absurd (true≢false some)
first_piece (b ∷ []) rest some h e =
    let here = or_parts (is_blank b) (is_star b) (or_parts (ends_piece b) false h).0 in
    let blank : is_blank b ≡ false = here.0 in
    let star : is_star b ≡ false = here.1 in rw (blank, star, e) refl
first_piece (b ∷ c ∷ w) rest some h e =
    let parts = or_parts (ends_piece b) (list_any ends_piece (c ∷ w)) h in
    let here = or_parts (is_blank b) (is_star b) parts.0 in
    let blank : is_blank b ≡ false = here.0 in
    let star : is_star b ≡ false = here.1 in
    let on : ends_piece c ≡ false = (or_parts (ends_piece c) (list_any ends_piece w) parts.1).0 in
    rw (blank, star, on) (ap (onto_first b) (first_piece (c ∷ w) rest refl parts.1 e))
