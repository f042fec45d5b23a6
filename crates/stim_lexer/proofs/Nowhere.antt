-- A byte that stands nowhere in a text stands nowhere in what is cut from it.
use Rattle.std.proofs.Common.{◌≡◌, ℕ, zero, suc, ◌+◌, Bool, true, false, not, List, [], ◌∷◌, drop, refl, ap, sym, ◌∙◌, inl, inr, arith}
use Rattle.std.specs.Prelude.{if◌then◌else◌}
use Rattle.std.specs.List.{position_or_len, before_first, list_any}
use Rattle.std.proofs.lemmas.Bool.{cases_Bool, or_parts}
use Rattle.stim_lexer.specs.declared.line.Braces.TheVariants.{NoBrace, OpeningLast, Misplaced}
use Rattle.stim_lexer.specs.Bytes.{after_blanks, is_blank, is_brace, is_empty, is_hash, is_open_brace, from_first}
use Rattle.stim_lexer.specs.Cut.{after_brackets, after_name, after_opening, braces_in, has_opening, has_opening_last}
use Rattle.stim_lexer.proofs.ScanLemmas.{list_any-from_first}

pub none_behind : (p : ℕ → Bool) (n : ℕ) (text : List ℕ) → list_any p text ≡ false → list_any p (drop n text) ≡ false
none_behind p zero text h = h
none_behind p (suc n) [] h = refl
none_behind p (suc n) (b ∷ text) h = none_behind p n text (or_parts (p b) (list_any p text) h).1

pub all_before : (p : ℕ → Bool) (text : List ℕ) → list_any p text ≡ false → before_first p text ≡ text
all_before p [] h = refl
all_before p (b ∷ text) h =
    let parts = or_parts (p b) (list_any p text) h in
    let none = parts.0 in
    let here : 1 + position_or_len p text ≡ suc (position_or_len p text) = omega arith in
    rw (none, here) (ap (λ rest. b ∷ rest) (all_before p text parts.1))

empty_from : (rest : List ℕ) → not (is_empty rest) ≡ false → rest ≡ []
empty_from [] h = refl
empty_from (b ∷ rest) h = cc

pub nothing_from : (p : ℕ → Bool) (text : List ℕ) → list_any p text ≡ false → from_first p text ≡ []
nothing_from p text h = empty_from (from_first p text) (sym (list_any-from_first p text) ∙ h)

pub none_after_brackets : (p opening closing : ℕ → Bool) (text : List ℕ) → list_any p text ≡ false → list_any p (after_brackets opening closing text) ≡ false
none_after_brackets p opening closing text h =
    elim (cases_Bool (has_opening opening text)) [
      | inl e ↦ rw e (none_behind p _ (after_opening text) (none_behind p 1 (after_blanks text) (none_behind p _ text h)))
      | inr e ↦ rw e h
    ]

pub none_after_name : (p : ℕ → Bool) (line : List ℕ) → list_any p line ≡ false → list_any p (after_name line) ≡ false
none_after_name p line h = none_behind p _ (after_blanks line) (none_behind p _ line h)

pub open_nowhere : (body : List ℕ) → list_any is_brace body ≡ false → list_any is_open_brace body ≡ false
open_nowhere [] h = refl
open_nowhere (b ∷ body) h =
    let parts = or_parts (is_brace b) (list_any is_brace body) h in
    let here = (or_parts (is_open_brace b) _ parts.0).0 in
    rw here (open_nowhere body parts.1)

braces_told : (some last : Bool) → (if not some then NoBrace else (if last then OpeningLast else Misplaced)) ≡ NoBrace → some ≡ false
braces_told false last h = refl
braces_told true true h = cc
braces_told true false h = cc

pub brace_nowhere : (closes : Bool) (body : List ℕ) → braces_in closes body ≡ NoBrace → list_any is_brace body ≡ false
brace_nowhere true body h = cc
brace_nowhere false body h = braces_told (list_any is_brace body) (has_opening_last body) h

blank_is_no_hash : (b : ℕ) → is_blank b ≡ true → is_hash b ≡ false
blank_is_no_hash b h = grind arith

-- what stands before a comment is the same with the blanks in front cut first
pub content_from : (line : List ℕ) → before_first is_hash (after_blanks line) ≡ after_blanks (before_first is_hash line)
content_from [] = refl
content_from (b ∷ line) =
    let blanks : 1 + position_or_len (λ x. not (is_blank x)) line ≡ suc (position_or_len (λ x. not (is_blank x)) line) = omega arith in
    let bytes : 1 + position_or_len is_hash line ≡ suc (position_or_len is_hash line) = omega arith in
    let front = before_first is_hash line in
    let blanks_in_front : 1 + position_or_len (λ x. not (is_blank x)) front ≡ suc (position_or_len (λ x. not (is_blank x)) front) = omega arith in
    elim (cases_Bool (is_blank b)) [
      | inl e ↦
          let other = blank_is_no_hash b e in
          rw (e, blanks, other, bytes, e, blanks_in_front) (content_from line)
      | inr e ↦
          elim (cases_Bool (is_hash b)) [ inl f ↦ rw (e, f) refl | inr f ↦ rw (e, f, bytes, e) refl ]
    ]
