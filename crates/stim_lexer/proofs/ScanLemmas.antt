-- Places found by scans: where a first byte stands, what is cut there, and the lines that such cuts make.
use Rattle.std.proofs.Common.{◌≡◌, ℕ, suc, ◌+◌, ◌<◌, ◌≤◌, Bool, false, not, cond, ltb, List, [], ◌∷◌, ◌++◌, length, drop, Option, None, Some, refl, ap, ap₂, sym, ◌∙◌, inl, inr, arith}
use Rattle.std.specs.Prelude.{position, unwrap_or}
use Rattle.std.specs.List.{position_or_len, before_first, after_first, onto_first, list_any}
use Rattle.std.proofs.lemmas.Bool.{cases_Bool, false_from_ne_true, ltb-false}
use Rattle.std.proofs.lemmas.List.{drop-drop, length-drop, nil_from_length}
use Rattle.std.proofs.lemmas.List.Sums.{position_or_len_is, prefix_len-le-length}
use Rattle.memchr.specs.Find.{IsFirstByte}
use Rattle.stim_lexer.specs.Bytes.{is_line_feed, is_empty, from_first}
use Rattle.stim_lexer.specs.FirstLines.{IsFirstLine}
use Rattle.stim_lexer.specs.Lines.{lines_of}

-- ---- places

pub position_or_len-le-length : (p : ℕ → Bool) (text : List ℕ) → position_or_len p text ≤ length text
position_or_len-le-length p text = prefix_len-le-length (λ b. not (p b)) text

place_or : (n m : ℕ) → n ≤ m → unwrap_or (cond (ltb n m) (Some n) None) m ≡ n
place_or n m le = elim (cases_Bool (ltb n m)) [ inl e ↦ rw e refl | inr e ↦ rw e (let h = ltb-false n m e in omega arith) ]

pub unwrap_or-position : (p : ℕ → Bool) (text : List ℕ) (n : ℕ) → n ≡ length text → unwrap_or (position p text) n ≡ position_or_len p text
unwrap_or-position p text n h =
    rw h (place_or (position_or_len p text) (length text) (position_or_len-le-length p text))

pub ruleset places = (position_or_len-le-length, unwrap_or-position)

-- the first place that a search finds
pub unwrap_or-first_byte : (p : ℕ → Bool) (text : List ℕ) (found : Option ℕ) → IsFirstByte p text found → unwrap_or found (length text) ≡ position_or_len p text
unwrap_or-first_byte p text None h =
    sym (position_or_len_is p text (length text) 0 (omega arith) (λ k lt. false_from_ne_true _ (h k (omega arith) lt)) (λ lt. absurd (omega arith)))
unwrap_or-first_byte p text (Some n) h =
    let first = h.0 in
    sym (position_or_len_is p text n 0 (omega (arith, first.high)) (λ k lt. false_from_ne_true _ (first.before k (omega arith) lt)) (λ lt. h.1))

-- ---- cuts

pub is_empty-length : (text : List ℕ) → 0 < length text → is_empty text ≡ false
is_empty-length [] h = absurd (omega arith)
is_empty-length (b ∷ text) h = refl

-- a byte is nowhere where nothing begins with it
pub list_any-from_first : (p : ℕ → Bool) (text : List ℕ) → list_any p text ≡ not (is_empty (from_first p text))
list_any-from_first p [] = refl
list_any-from_first p (b ∷ text) =
    let here : 1 + position_or_len p text ≡ suc (position_or_len p text) = omega arith in
    elim (cases_Bool (p b)) [ inl e ↦ rw e refl | inr e ↦ rw (e, here) (list_any-from_first p text) ]

pub drop-from_first : (p : ℕ → Bool) (text : List ℕ) → drop 1 (from_first p text) ≡ after_first p text
drop-from_first p text = drop-drop 1 (position_or_len p text) text

-- a byte isn't among those before its first
pub none_before : (p : ℕ → Bool) (text : List ℕ) → list_any p (before_first p text) ≡ false
none_before p [] = refl
none_before p (b ∷ text) =
    let here : 1 + position_or_len p text ≡ suc (position_or_len p text) = omega arith in
    elim (cases_Bool (p b)) [ inl e ↦ rw e refl | inr e ↦ rw (e, here, e) (none_before p text) ]

-- ---- lines

lines_of-first : (text : List ℕ) → 0 < length text → lines_of text ≡ before_first is_line_feed text ∷ lines_of (after_first is_line_feed text)
unfolding lines_of
lines_of-first [] h = absurd (omega arith)
lines_of-first (b ∷ []) h = elim (cases_Bool (is_line_feed b)) [ inl e ↦ rw e refl | inr e ↦ rw e refl ]
lines_of-first (b ∷ c ∷ text) h =
    let n = position_or_len is_line_feed (c ∷ text) in
    let here : 1 + n ≡ suc n = omega arith in
    let next : suc n + 1 ≡ suc (n + 1) = omega arith in
    let rest = lines_of-first (c ∷ text) (omega arith) in
    elim (cases_Bool (is_line_feed b)) [ inl e ↦ rw e refl | inr e ↦ rw (e, here, next) (ap (onto_first b) rest) ]

-- the first line and what follows its line feed, from what stands before the line feed and from it on
pub lines_of-cut : (text line rest after : List ℕ) → 0 < length text → line ≡ before_first is_line_feed text → rest ≡ from_first is_line_feed text → after ≡ drop 1 rest → lines_of text ≡ line ∷ lines_of after
lines_of-cut text line rest after h line_is rest_is after_is =
    let e : after ≡ after_first is_line_feed text = after_is ∙ (ap (drop 1) rest_is ∙ drop-from_first is_line_feed text) in
    rw (line_is, e) (lines_of-first text h)

-- what stands before a line feed, and what follows it, are the whole
cut_whole : (text after : List ℕ) (b : ℕ) → from_first is_line_feed text ≡ b ∷ after → text ≡ before_first is_line_feed text ++ 10 ∷ after
cut_whole [] after b e = absurd cc
cut_whole (c ∷ text) after b e =
    let here : 1 + position_or_len is_line_feed text ≡ suc (position_or_len is_line_feed text) = omega arith in
    elim (cases_Bool (is_line_feed c)) [
      | inl feed ↦
          let whole : c ∷ text ≡ b ∷ after = rw feed at e in
          let tail : text ≡ after = ap (drop 1) whole in
          let byte : c ≡ 10 = grind arith in
          rw feed (ap₂ (λ x xs. x ∷ xs) byte tail)
      | inr other ↦ rw (other, here) (ap (λ xs. c ∷ xs) (cut_whole text after b (rw (other, here) at e)))
    ]

cut_rest : (text rest after : List ℕ) → rest ≡ from_first is_line_feed text → 0 < length rest → after ≡ drop 1 rest → text ≡ before_first is_line_feed text ++ 10 ∷ after
cut_rest text [] after e some is = absurd (omega (arith, some))
cut_rest text (b ∷ rest) after e some is = cut_whole text after b (sym e ∙ ap (λ xs. b ∷ xs) (sym is))

-- the first line of a text, from what stands before its line feed, and from there on
pub first_line-cut : (text line rest after : List ℕ) → 0 < length text → line ≡ before_first is_line_feed text → rest ≡ from_first is_line_feed text → after ≡ drop 1 rest → length line + length rest ≡ length text
    → IsFirstLine text line after
first_line-cut text line rest after some cut past is long =
    let shorter = ap length is ∙ length-drop 1 rest in
    record {
      lines = lines_of-cut text line rest after some cut past is;
      cut = cut;
      one = rw cut (none_before is_line_feed text);
      parts = λ more. rw cut (cut_rest text rest after past (omega (arith, more, shorter)) is);
      less = omega (arith, some, shorter, long);
    }

-- no lines are left where no text is
pub lines_of-none : (text : List ℕ) → length text ≡ 0 → lines_of text ≡ []
unfolding lines_of
lines_of-none text h = rw (nil_from_length text h) refl
