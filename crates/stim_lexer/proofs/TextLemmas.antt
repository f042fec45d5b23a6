-- A text read line by line. A reader has the items so far and the lines of the open blocks; its text is those items, and then
-- what the lines that are left make in those blocks.
use Rattle.std.proofs.Common.{◌≡◌, ℕ, ◌+◌, ◌<◌, List, [], ◌∷◌, ◌++◌, length, Option, None, Some, Result, Ok, Err, refl, ap, sym, ◌∙◌, append-nil, inl, inr, arith}
use Rattle.std.specs.Prelude.{IfOk, IfErr, ◌⊎◌}
use Rattle.std.proofs.lemmas.Bool.{cases_Bool}
use Rattle.step_model.specs.Faults.{memory_fault}
use Rattle.step_model.specs.declared.fault.Fault.{Fault}
use Rattle.step_model.specs.declared.fault.Cause.{Cause}
use Rattle.stim_lexer.specs.Cut.{has_bad_byte}
use Rattle.stim_lexer.specs.Lexing.{Unread, Numbered, after_silent, first_found, next_found, after_first_found, after_next}
use Rattle.stim_lexer.specs.Lines.{says_nothing}
use Rattle.stim_lexer.specs.Texts.{Format, Reading, Accepts, Opens, Closes, Refuses, items_in, items_from, at_end, before, followed, open_after, refused}
use Rattle.stim_lexer.specs.Judged.{left_open, IsRefusedBy}
use Rattle.stim_lexer.specs.Trees.{Item}
use Rattle.stim_lexer.specs.Unfinished.{Unfinished, reading_at, cause_in, line_items, after_line}

-- ---- items before what follows

abbrev pub after : {I : Type 0} → List (Item I) → Result (List (Item I)) Fault → Result (List (Item I)) Fault
after [] rest = rest
after (item ∷ items) rest = before item (after items rest)

pub after-append : {I : Type 0} (xs ys : List (Item I)) (rest : Result (List (Item I)) Fault) → after (xs ++ ys) rest ≡ after xs (after ys rest)
after-append [] ys rest = refl
after-append (x ∷ xs) ys rest = ap (before x) (after-append xs ys rest)

pub after-ok : {I : Type 0} (xs ys : List (Item I)) → after xs (Ok ys) ≡ Ok (xs ++ ys)
after-ok [] ys = refl
after-ok (x ∷ xs) ys = ap (before x) (after-ok xs ys)

pub after-err : {I : Type 0} (xs : List (Item I)) (fault : Fault) → after xs (Err fault) ≡ Err fault
after-err [] fault = refl
after-err (x ∷ xs) fault = ap (before x) (after-err xs fault)

followed-after : {I : Type 0} (number : ℕ) (r : Reading I) (rest : Result (List (Item I)) Fault) → cause_in r ≡ None → followed number r rest ≡ after (line_items number r) rest
followed-after number (Accepts i) rest h = refl
followed-after number (Opens turns) rest h = refl
followed-after number Closes rest h = refl
followed-after number (Refuses c) rest h = absurd (cc)

followed-refused : {I : Type 0} (number : ℕ) (r : Reading I) (rest : Result (List (Item I)) Fault) (c : Cause) → cause_in r ≡ Some c → followed number r rest ≡ Err (refused c number)
followed-refused number (Accepts i) rest c h = absurd (cc)
followed-refused number (Opens turns) rest c h = absurd (cc)
followed-refused number Closes rest c h = absurd (cc)
followed-refused number (Refuses d) rest c h =
    let same : d ≡ c = cc in ap (λ (x : Cause). Err (refused x number)) same

-- ---- the next line that says something

-- what the next line and those behind it make
abbrev found_items : {I : Type 0} → Format I → List ℕ → Result (Option Numbered) Fault → Unread → Result (List (Item I)) Fault
found_items format opened (Ok None) left = at_end format opened
found_items format opened (Ok (Some n)) left =
    followed n.number (format.reading_of (length opened) n.number n.cut)
    (items_from format (open_after n.number (format.reading_of (length opened) n.number n.cut) opened) left.read left.lines)
found_items format opened (Err fault) left = Err fault

abbrev found_at : {I : Type 0} → Format I → List ℕ → Unread → Result (List (Item I)) Fault
found_at format opened left = found_items format opened (first_found left.read left.lines) (after_first_found left.read left.lines)

items-found : {I : Type 0} (format : Format I) (opened : List ℕ) (read : ℕ) (lines : List (List ℕ)) → items_from format opened read lines ≡ found_at format opened (after_silent read lines)
unfolding items_from after_silent
items-found format opened read [] = refl
items-found format opened read (line ∷ lines) =
    elim (cases_Bool (says_nothing line)) [
      | inl silent ↦ rw silent (items-found format opened (read + 1) lines)
      | inr speaks ↦
          elim (cases_Bool (has_bad_byte line)) [
            | inl bad ↦ rw (speaks, bad) refl
            | inr good ↦ rw (speaks, good) refl
          ]
    ]

fewer-found : (read : ℕ) (lines : List (List ℕ)) (n : Numbered) → (let left = after_silent read lines in first_found left.read left.lines ≡ Ok (Some n))
    → (let left = after_silent read lines in length (after_first_found left.read left.lines).lines < length lines)
unfolding after_silent
fewer-found read [] n h = absurd (cc)
fewer-found read (line ∷ lines) n h =
    elim (cases_Bool (says_nothing line)) [
      | inl silent ↦
          let rest = fewer-found (read + 1) lines n (rw silent at h) in rw silent (omega (arith, rest))
      | inr speaks ↦
          elim (cases_Bool (has_bad_byte line)) [
            | inl bad ↦ absurd (let e = rw (speaks, bad) at h in cc)
            | inr good ↦ rw (speaks, good) (omega arith)
          ]
    ]

-- fewer lines are left behind the next one
pub fewer : (old new : Unread) (n : Numbered) → next_found old ≡ Ok (Some n) → new ≡ after_next old → length new.lines < length old.lines
fewer old new n h e = rw e (fewer-found old.read old.lines n h)

-- ---- a reader of a text

-- the text is these items, and then what is left
abbrev pub IsReading : {I : Type 0} → Format I → List ℕ → Unfinished I → Unread → Type 0
IsReading format text u left = items_in format text ≡ after u.items (items_from format u.opened left.read left.lines)

found : {I : Type 0} (format : Format I) (text : List ℕ) (u : Unfinished I) (left : Unread) (next : Result (Option Numbered) Fault) → IsReading format text u left → next ≡ next_found left
    → items_in format text ≡ after u.items (found_items format u.opened next (after_next left))
found format text u left next h e =
    h ∙ ap (after u.items) (items-found format u.opened left.read left.lines ∙ ap (λ (x : Result (Option Numbered) Fault). found_items format u.opened x (after_next left)) (sym e))

pub reads_on : {I : Type 0} (format : Format I) (text : List ℕ) (u new : Unfinished I) (left rest : Unread) (n : Numbered) → IsReading format text u left → Ok (Some n) ≡ next_found left → rest ≡ after_next left
    → None ≡ cause_in (reading_at format u n.number n.cut) → new ≡ after_line n.number (reading_at format u n.number n.cut) u → IsReading format text new rest
reads_on {I} format text u new left rest n h e r accepted made =
    let reading = reading_at format u n.number n.cut in
    let behind : Result (List (Item I)) Fault = items_from format (open_after n.number reading u.opened) (after_next left).read (after_next left).lines in
    rw (r, made)
    (found format text u left (Ok (Some n)) h e
    ∙ ap (after u.items) (followed-after n.number reading behind (sym accepted))
    ∙ sym (after-append u.items (line_items n.number reading) behind))

pub refused_by_line : {I : Type 0} (format : Format I) (text : List ℕ) (u : Unfinished I) (left : Unread) (n : Numbered) (c : Cause) → IsReading format text u left → Ok (Some n) ≡ next_found left
    → Some c ≡ cause_in (reading_at format u n.number n.cut) → IsRefusedBy format text (refused c n.number)
refused_by_line format text u left n c h e r =
    let reading = reading_at format u n.number n.cut in
    found format text u left (Ok (Some n)) h e
    ∙ ap (after u.items) (followed-refused n.number reading _ c (sym r))
    ∙ after-err u.items (refused c n.number)

pub refused_by_byte : {I : Type 0} (format : Format I) (text : List ℕ) (u : Unfinished I) (left : Unread) (fault : Fault) → IsReading format text u left → Err fault ≡ next_found left → IsRefusedBy format text fault
refused_by_byte format text u left fault h e = found format text u left (Err fault) h e ∙ after-err u.items fault

at_the_end : {I : Type 0} (format : Format I) (text : List ℕ) (u : Unfinished I) (left : Unread) → IsReading format text u left → Ok None ≡ next_found left → items_in format text ≡ after u.items (at_end format u.opened)
at_the_end format text u left h e = found format text u left (Ok None) h e

pub still_open : {I : Type 0} (format : Format I) (text : List ℕ) (u : Unfinished I) (left : Unread) (fault : Fault) → IsReading format text u left → Ok None ≡ next_found left → at_end format u.opened ≡ Err fault → IsRefusedBy format text fault
still_open format text u left fault h e opened = at_the_end format text u left h e ∙ ap (after u.items) opened ∙ after-err u.items fault

whole : {I : Type 0} (format : Format I) (text : List ℕ) (u : Unfinished I) (left : Unread) → IsReading format text u left → Ok None ≡ next_found left → u.opened ≡ [] → items_in format text ≡ Ok u.items
whole {I} format text u left h e none =
    at_the_end format text u left h e
    ∙ ap (λ (opened : List ℕ). after u.items (at_end format opened)) none
    ∙ after-ok u.items []
    ∙ ap (λ (is : List (Item I)). Ok is) (append-nil u.items)

-- ---- what a reader answers at the end

open_refused : {I : Type 0} (format : Format I) (opened : List ℕ) (fault : Fault) → left_open format.left_open opened ≡ Some fault → at_end format opened ≡ Err fault
open_refused format [] fault h = absurd (cc)
open_refused {I} format (line ∷ opened) fault h =
    let same : refused format.left_open line ≡ fault = cc in
    let refusal : Fault → Result (List (Item I)) Fault = λ f. Err f in
    ap refusal same

pub finished_refused : {I : Type 0} (format : Format I) (text : List ℕ) (u : Unfinished I) (left : Unread) → IsReading format text u left → Ok None ≡ next_found left
    → (made : Result (List (Item I)) Fault) → IfErr made (λ fault. left_open format.left_open u.opened ≡ Some fault) → IfErr made (λ fault. (fault ≡ memory_fault) ⊎ IsRefusedBy format text fault)
finished_refused format text u left h e (Ok items) open_is = tt
finished_refused format text u left h e (Err fault) open_is =
    inr (still_open format text u left fault h e (open_refused format u.opened fault open_is))

pub finished_reads : {I : Type 0} (format : Format I) (text : List ℕ) (u : Unfinished I) (left : Unread) → IsReading format text u left → Ok None ≡ next_found left
    → (made : Result (List (Item I)) Fault) → IfOk made (λ items. (u.opened ≡ []) × (items ≡ u.items)) → IfOk made (λ items. items_in format text ≡ Ok items)
finished_reads {I} format text u left h e (Ok items) made =
    whole format text u left h e made.0 ∙ ap (λ (is : List (Item I)). Ok is) (sym made.1)
finished_reads format text u left h e (Err fault) made = tt
