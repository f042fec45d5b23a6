-- A line without special bytes has no bad byte, no brace and no comment, and what is cut from it has none either.
use Rattle.std.proofs.Common.{◌≡◌, ℕ, zero, suc, ◌≤◌, ◌==◌, Bool, true, false, not, List, [], ◌∷◌, take, refl, ap, arith}
use Rattle.std.specs.Int.{is_in_range}
use Rattle.std.specs.List.{list_any}
use Rattle.std.proofs.lemmas.Bool.{and_parts, eqb-true, false_from_ne_true, le-leb, leb-true, not-false, or_parts, or_right}
use Rattle.stim_lexer.specs.Bytes.{after_blanks, is_bad_byte, is_blank, is_brace, is_close_bracket, is_hash, is_open_bracket}
use Rattle.stim_lexer.specs.Cut.{after_brackets, after_name, body_of, has_bad_byte, name_of}
use Rattle.stim_lexer.specs.private.Special.{is_special}
use Rattle.stim_lexer.proofs.Nowhere.{none_after_brackets, none_after_name, none_behind}

-- ---- a byte

in_range : (b : ℕ) → is_special b ≡ false → is_in_range 32 122 b ≡ true
in_range b h = not-false _ (or_parts (not (is_in_range 32 122 b)) (is_hash b) h).0

at_least : (b : ℕ) → is_special b ≡ false → 32 ≤ b
at_least b h = leb-true 32 b (and_parts _ _ (in_range b h)).0

at_most : (b : ℕ) → is_special b ≡ false → b ≤ 122
at_most b h = leb-true b 122 (and_parts _ _ (in_range b h)).1

not_hash : (b : ℕ) → is_special b ≡ false → is_hash b ≡ false
not_hash b h = (or_parts (not (is_in_range 32 122 b)) (is_hash b) h).1

not_bad : (b : ℕ) → is_special b ≡ false → is_bad_byte b ≡ false
not_bad b h =
    let low : is_in_range 32 126 b ≡ true = rw (le-leb 32 b (at_least b h), le-leb b 126 (let m = at_most b h in omega arith)) refl in
    ap not (or_right (is_blank b) _ low)

not_equal : (b c : ℕ) → b ≤ 122 → 123 ≤ c → (b == c) ≡ false
not_equal b c h k = false_from_ne_true _ (λ e. let same = eqb-true b c e in absurd (omega arith))

not_brace : (b : ℕ) → is_special b ≡ false → is_brace b ≡ false
not_brace b h =
    let m = at_most b h in
    rw (not_equal b 123 m (omega arith), not_equal b 125 m (omega arith)) refl

-- ---- a text

none_of : (p : ℕ → Bool) (weaker : (b : ℕ) → is_special b ≡ false → p b ≡ false) (text : List ℕ) → list_any is_special text ≡ false → list_any p text ≡ false
none_of p weaker [] h = refl
none_of p weaker (b ∷ text) h =
    let parts = or_parts (is_special b) (list_any is_special text) h in rw (weaker b parts.0) (none_of p weaker text parts.1)

none_in_front : (p : ℕ → Bool) (n : ℕ) (text : List ℕ) → list_any p text ≡ false → list_any p (take n text) ≡ false
none_in_front p zero text h = refl
none_in_front p (suc n) [] h = refl
none_in_front p (suc n) (b ∷ text) h =
    let parts = or_parts (p b) (list_any p text) h in
    let here = parts.0 in
    rw here (none_in_front p n text parts.1)

-- ---- a line, and what is cut from it

pub no_hash : (line : List ℕ) → list_any is_special line ≡ false → list_any is_hash line ≡ false
no_hash line h = none_of is_hash not_hash line h

none_in_name : (p : ℕ → Bool) (line : List ℕ) → list_any p line ≡ false → list_any p (name_of line) ≡ false
none_in_name p line h = none_in_front p _ (after_blanks line) (none_behind p _ line h)

none_in_body : (p : ℕ → Bool) (line : List ℕ) → list_any p line ≡ false → list_any p (body_of line) ≡ false
none_in_body p line h =
    none_in_front p _ (after_brackets is_open_bracket is_close_bracket (after_name line))
    (none_after_brackets p is_open_bracket is_close_bracket (after_name line) (none_after_name p line h))

pub no_brace_in_body : (line : List ℕ) → list_any is_special line ≡ false → list_any is_brace (body_of line) ≡ false
no_brace_in_body line h = none_in_body is_brace line (none_of is_brace not_brace line h)

pub no_bad_byte : (line : List ℕ) → list_any is_special line ≡ false → has_bad_byte line ≡ false
unfolding has_bad_byte
no_bad_byte line h =
    let none = none_of is_bad_byte not_bad line h in
    rw (none_in_name is_bad_byte line none) (none_in_body is_bad_byte line none)
