-- Arguments cut off one by one, and blanks cut off behind.
use Rattle.std.proofs.Common.{◌≡◌, ℕ, suc, ◌+◌, ◌-◌, ◌==◌, ◌<◌, ◌≤◌, Bool, true, false, not, List, [], ◌∷◌, ◌++◌, length, take, drop, get_or, map, refl, ap, sym, ◌∙◌, inl, inr, arith, length-append}
use Rattle.std.specs.Prelude.{is_some, slice_get}
use Rattle.std.specs.List.{position_or_len, before_first, onto_first, slice_split, suffix_len}
use Rattle.std.proofs.lemmas.Bool.{both_ways, cases_Bool, eqb-true}
use Rattle.std.proofs.lemmas.List.{length-map, nil_from_length}
use Rattle.std.proofs.lemmas.List.Splits.{length-slice_split}
use Rattle.std.proofs.lemmas.List.Sums.{suffix_len_is}
use Rattle.stim_lexer.specs.Bytes.{after_blanks, from_first, is_blank, is_empty}
use Rattle.stim_parser.specs.Arguments.{arguments_in, before_blanks, is_comma, trimmed}

-- ---- blanks behind

pub before_blanks-is : (text : List ℕ) (n : ℕ) → n ≤ length text → ((k : ℕ) → n ≤ k → k < length text → is_blank (get_or text k 0) ≡ true)
    → (0 < n → is_blank (get_or text (n - 1) 0) ≡ false) → take n text ≡ before_blanks text
before_blanks-is text n le blanks stops =
    let behind : suffix_len is_blank text ≡ length text - n = suffix_len_is is_blank text n 0 le blanks stops in
    ap (λ k. take k text) (let e : n ≡ length text - suffix_len is_blank text = omega arith in e)

-- ---- commas

-- what follows the first part of a text, from its comma on
abbrev after_comma : List ℕ → List (List ℕ)
after_comma [] = []
after_comma (comma ∷ text) = slice_split is_comma text

split-first : (text : List ℕ) → slice_split is_comma text ≡ before_first is_comma text ∷ after_comma (from_first is_comma text)
split-first [] = refl
split-first (b ∷ text) =
    let here : 1 + position_or_len is_comma text ≡ suc (position_or_len is_comma text) = omega arith in
    elim (cases_Bool (is_comma b)) [ inl e ↦ rw e refl | inr e ↦ rw (e, here) (ap (onto_first b) (split-first text)) ]

after_comma-drop : (rest : List ℕ) → 0 < length rest → after_comma rest ≡ slice_split is_comma (drop 1 rest)
after_comma-drop [] h = absurd (omega arith)
after_comma-drop (b ∷ rest) h = refl

pub split-more : (text first rest after : List ℕ) → first ≡ before_first is_comma text → rest ≡ from_first is_comma text → 0 < length rest → after ≡ drop 1 rest → slice_split is_comma text ≡ first ∷ slice_split is_comma after
split-more text first rest after f r some a =
    rw (f, a) (split-first text ∙ ap (λ parts. before_first is_comma text ∷ parts) (ap after_comma (sym r) ∙ after_comma-drop rest some))

pub split-last : (text first rest : List ℕ) → first ≡ before_first is_comma text → rest ≡ from_first is_comma text → length rest ≡ 0 → slice_split is_comma text ≡ first ∷ []
split-last text first rest f r none =
    rw f (split-first text ∙ ap (λ parts. before_first is_comma text ∷ parts) (ap after_comma (sym r) ∙ ap after_comma (nil_from_length rest none)))

-- ---- all of a text's arguments

pub arguments_in-none : (text left : List ℕ) (b : Bool) → left ≡ after_blanks text → b ≡ (length left == 0) → b ≡ true → arguments_in text ≡ []
unfolding arguments_in
arguments_in-none text left b l e h =
    let none : after_blanks text ≡ [] = sym l ∙ nil_from_length left (eqb-true (length left) 0 (sym e ∙ h)) in rw none refl

is_empty-some : (left : List ℕ) (b : Bool) → b ≡ (length left == 0) → b ≡ false → is_empty left ≡ false
is_empty-some [] b e h = absurd (both_ways b h e)
is_empty-some (d ∷ left) b e h = refl

pub arguments_in-some : (text left : List ℕ) (b : Bool) → left ≡ after_blanks text → b ≡ (length left == 0) → b ≡ false → arguments_in text ≡ map trimmed (slice_split is_comma text)
unfolding arguments_in
arguments_in-some text left b l e h =
    let some : is_empty (after_blanks text) ≡ false = ap (λ (xs : List ℕ). is_empty xs) (sym l) ∙ is_empty-some left b e h in rw some refl

-- there is an argument where something is left that isn't blank
pub argument-told : (text left : List ℕ) (b : Bool) → left ≡ after_blanks text → b ≡ (length left == 0) → not b ≡ is_some (slice_get (arguments_in text) 0)
argument-told text left true l e = rw (arguments_in-none text left true l e refl) refl
argument-told text left false l e = rw (arguments_in-some text left false l e refl, split-first text) refl

-- of so many arguments that were read there is at least one more
pub one_more : (read : List (List ℕ)) (text : List ℕ) (all : List (List ℕ)) (n : ℕ) → length read ≡ n → read ++ map trimmed (slice_split is_comma text) ≡ all → n < length all
one_more read text all n len e =
    omega (arith, len, ap (λ (xs : List (List ℕ)). length xs) e, length-append read (map trimmed (slice_split is_comma text)), length-map (slice_split is_comma text) trimmed, length-slice_split is_comma text)
