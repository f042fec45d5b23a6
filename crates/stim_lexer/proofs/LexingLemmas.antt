-- Lines cut from their parts, and lines passed over one by one.
use Rattle.std.proofs.Common.{◌≡◌, ℕ, ◌+◌, ◌==◌, Bool, true, false, not, ◌&&◌, ◌||◌, List, [], ◌∷◌, length, drop, refl, ap, sym, ◌∙◌, inl, inr, Err, arith}
use Rattle.std.specs.Prelude.{if◌then◌else◌}
use Rattle.std.specs.List.{before_first, list_all}
use Rattle.std.proofs.lemmas.Bool.{cases_Bool, ne_eqb}
use Rattle.step_model.specs.declared.fault.Cause.TheVariants as cause
use Rattle.stim_lexer.specs.declared.line.Braces.{Braces}
use Rattle.stim_lexer.specs.declared.line.Braces.TheVariants.{NoBrace, OpeningLast, Misplaced}
use Rattle.stim_lexer.specs.Bytes.{is_blank, is_brace, is_open_brace, is_open_parenthesis, is_close_parenthesis, is_empty, begins_with, from_first}
use Rattle.stim_lexer.specs.Lines.{content_of, is_closing, says_nothing}
use Rattle.stim_lexer.specs.Cut.{Cut, cut_of, name_of, body_of, leaves_tag_open, leaves_open, in_brackets, after_brackets, braces_in, has_bad_byte}
use Rattle.stim_lexer.specs.Lexing.{Unread, after_silent, first_found, next_found}
use Rattle.stim_lexer.proofs.ScanLemmas.{list_any-from_first}

-- ---- a line

pub is_empty-is : (text : List ℕ) → is_empty text ≡ (length text == 0)
is_empty-is [] = refl
is_empty-is (b ∷ text) = sym (ne_eqb (length (b ∷ text)) 0 (λ h. absurd (omega arith)))

braces_from : (rest : List ℕ) (none opens : Bool) → none ≡ (length rest == 0) → opens ≡ (begins_with is_open_brace rest && list_all is_blank (drop 1 rest))
    → (if not (not (is_empty rest)) then NoBrace else (if begins_with is_open_brace rest && list_all is_blank (drop 1 rest) then OpeningLast else Misplaced)) ≡ (if none then NoBrace else (if opens then OpeningLast else Misplaced))
braces_from [] none opens e f = rw e refl
braces_from (b ∷ rest) none opens e f = rw (e ∙ sym (is_empty-is (b ∷ rest)), f) refl

pub braces_in-from : (closes none opens : Bool) (body rest : List ℕ) → closes ≡ false → rest ≡ from_first is_brace body → none ≡ (length rest == 0)
    → opens ≡ (begins_with is_open_brace rest && list_all is_blank (drop 1 rest))
    → braces_in closes body ≡ (if none then NoBrace else (if opens then OpeningLast else Misplaced))
braces_in-from closes none opens body rest c r e f =
    rw (c, list_any-from_first is_brace body, ← r) (braces_from rest none opens e f)

pub cut_of-is : (line name body arguments targets : List ℕ) (stays_open : Bool) (braces : Braces)
    → name ≡ name_of line → body ≡ body_of line
    → stays_open ≡ (leaves_tag_open line || leaves_open is_open_parenthesis is_close_parenthesis body)
    → arguments ≡ in_brackets is_open_parenthesis is_close_parenthesis body
    → targets ≡ before_first is_open_brace (after_brackets is_open_parenthesis is_close_parenthesis body)
    → braces ≡ braces_in (is_closing line) body
    → (let cut : Cut = record { name = name; stays_open = stays_open; arguments = arguments; targets = targets; braces = braces } in cut ≡ cut_of line)
unfolding cut_of
cut_of-is line name body arguments targets stays_open braces n b s a t r = rw (n, s, a, t, r, b) refl

-- ---- lines passed over

pub silent-is : (line content : List ℕ) (b : Bool) → content ≡ content_of line → b ≡ (length content == 0) → says_nothing line ≡ b
unfolding says_nothing
silent-is line content b e f = is_empty-is (content_of line) ∙ (ap (λ (text : List ℕ). length text == 0) (sym e) ∙ sym f)

pub after_silent-passes : (read : ℕ) (line content : List ℕ) (all lines : List (List ℕ)) (b : Bool) → all ≡ line ∷ lines
    → content ≡ content_of line → b ≡ (length content == 0) → b ≡ true → after_silent read all ≡ after_silent (read + 1) lines
unfolding after_silent
after_silent-passes read line content all lines b at e f silent =
    let said = silent-is line content b e f ∙ silent in rw (at, said) refl

pub after_silent-stays : (read : ℕ) (line content : List ℕ) (all lines : List (List ℕ)) (b : Bool) → all ≡ line ∷ lines
    → content ≡ content_of line → b ≡ (length content == 0) → b ≡ false → after_silent read all ≡ record { read = read; lines = all }
unfolding after_silent
after_silent-stays read line content all lines b at e f speaks =
    let said = silent-is line content b e f ∙ speaks in rw (at, said) refl

pub after_silent-done : (read : ℕ) (all : List (List ℕ)) → all ≡ [] → after_silent read all ≡ record { read = read; lines = all }
unfolding after_silent
after_silent-done read all none = rw none refl

-- what was passed over once is not passed over again
after_silent-twice : (read : ℕ) (lines : List (List ℕ)) → after_silent (after_silent read lines).read (after_silent read lines).lines ≡ after_silent read lines
unfolding after_silent
after_silent-twice read [] = refl
after_silent-twice read (line ∷ lines) =
    elim (cases_Bool (says_nothing line)) [
      | inl e ↦ rw e (after_silent-twice (read + 1) lines)
      | inr e ↦ rw (e, e) refl
    ]

-- what is found where nothing silent stands first
pub next_found-first : (old new : Unread) → new ≡ after_silent old.read old.lines → next_found new ≡ first_found new.read new.lines
next_found-first old new e =
    let again : after_silent new.read new.lines ≡ new = rw e (after_silent-twice old.read old.lines) in
    ap (λ (u : Unread). first_found u.read u.lines) again

pub first_found-bad : (read : ℕ) (line : List ℕ) (lines all : List (List ℕ)) → all ≡ line ∷ lines → has_bad_byte line ≡ true → first_found read all ≡ Err (record { cause = cause.Byte; line = read + 1 })
first_found-bad read line lines all at bad = rw (at, bad) refl

-- nothing is left where nothing was found
