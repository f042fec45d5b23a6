-- A line without tag and comment, put together from a name and what follows it, is cut into these.
use Rattle.std.proofs.Common.{◌≡◌, ℕ, ◌==◌, Bool, true, false, not, ◌&&◌, List, [], ◌∷◌, ◌++◌, take, drop, refl, ap, ◌∙◌, append-nil, arith}
use Rattle.std.specs.Int.{is_in_range}
use Rattle.std.specs.List.{before_first, list_all, list_any, position_or_len}
use Rattle.std.proofs.lemmas.Bool.{and_parts, or_from, or_right, true≢false}
use Rattle.std.proofs.lemmas.List.Folds.{list_any-append}
use Rattle.stim_lexer.specs.declared.line.Braces.{Braces}
use Rattle.stim_lexer.specs.declared.line.Braces.TheVariants.{NoBrace, OpeningLast}
use Rattle.stim_lexer.specs.Bytes.{after_blanks, ends_name, from_first, is_bad_byte, is_blank, is_brace, is_close_brace, is_close_parenthesis, is_empty, is_hash, is_line_feed, is_open_brace, is_open_bracket, is_open_parenthesis}
use Rattle.stim_lexer.specs.Cut.{Cut, after_brackets, after_name, body_of, braces_in, cut_of, has_bad_byte, has_opening, in_brackets, leaves_open, name_of}
use Rattle.stim_lexer.specs.Lines.{content_of, is_closing, says_nothing}
use Rattle.stim_parser.proofs.ByteLemmas.{all-where, both_all, none-where, other_byte}
use Rattle.stim_parser.proofs.CutLemmas.{after_first-append, before_first-append, before_first-none, from_first-append}

-- ---- bytes

-- the bytes from the space to `}` but `#`: none ends a line or begins a comment
abbrev pub is_clean : ℕ → Bool
is_clean b = is_in_range 32 125 b && not (b == 35)

-- those up to `z`: none is a brace either
abbrev pub is_plain_byte : ℕ → Bool
is_plain_byte b = is_in_range 32 122 b && not (b == 35)

-- the bytes from `0` to `z` but `[`: letters, digits, `_` and others
abbrev pub is_name_byte : ℕ → Bool
is_name_byte b = is_in_range 48 122 b && not (b == 91)

clean_not_bad : (b : ℕ) → is_clean b ≡ true → is_bad_byte b ≡ false
clean_not_bad b h = grind arith

pub plain_is_clean : (b : ℕ) → is_plain_byte b ≡ true → is_clean b ≡ true
plain_is_clean b h = grind arith

plain_no_brace : (b : ℕ) → is_plain_byte b ≡ true → is_brace b ≡ false
plain_no_brace b h = or_from (b == 123) (b == 125) (other_byte is_plain_byte 123 b refl h) (other_byte is_plain_byte 125 b refl h)

name_is_clean : (b : ℕ) → is_name_byte b ≡ true → is_clean b ≡ true
name_is_clean b h = grind arith

name_not_blank : (b : ℕ) → is_name_byte b ≡ true → is_blank b ≡ false
name_not_blank b h = grind arith

name_goes_on : (b : ℕ) → is_name_byte b ≡ true → ends_name b ≡ false
name_goes_on b h = grind arith

-- ---- a name and what follows it

abbrev pub IsName : List ℕ → Type 0
IsName name = (is_empty name ≡ false) × (list_all is_name_byte name ≡ true)

-- what may follow a name: nothing of it belongs to the name, and it has no tag
pub record Follows (rest : List ℕ) : Type 0 where
  pub clean : list_all is_clean rest ≡ true
  pub apart : position_or_len ends_name rest ≡ 0
  pub no_tag : has_opening is_open_bracket rest ≡ false

name_first : (name text : List ℕ) → IsName name → after_blanks (name ++ text) ≡ name ++ text
name_first [] text h = absurd (true≢false h.0)
name_first (b ∷ name) text h =
    let blank : is_blank b ≡ false = name_not_blank b (and_parts (is_name_byte b) (list_all is_name_byte name) h.1).0 in rw blank refl

name_found : (name rest : List ℕ) → IsName name → Follows rest → name_of (name ++ rest) ≡ name
name_found name rest h f =
    ap (before_first ends_name) (name_first name rest h)
    ∙ before_first-append ends_name name rest (none-where ends_name is_name_byte name name_goes_on h.1)
    ∙ ap (λ n. name ++ take n rest) f.apart
    ∙ append-nil name

name_passed : (name rest : List ℕ) → IsName name → Follows rest → after_name (name ++ rest) ≡ rest
name_passed name rest h f =
    ap (from_first ends_name) (name_first name rest h)
    ∙ from_first-append ends_name name rest (none-where ends_name is_name_byte name name_goes_on h.1)
    ∙ ap (λ n. drop n rest) f.apart

body_found : (name rest : List ℕ) → IsName name → Follows rest → body_of (name ++ rest) ≡ rest
body_found name rest h f =
    let no_tag = f.no_tag in
    rw (name_passed name rest h f, no_tag)
    (before_first-none is_hash rest (none-where is_hash is_clean rest (λ b c. other_byte is_clean 35 b refl c) f.clean))

all_clean : (name rest : List ℕ) → IsName name → Follows rest → list_all is_clean (name ++ rest) ≡ true
all_clean name rest h f = both_all is_clean name rest (all-where is_clean is_name_byte name name_is_clean h.1) f.clean

content_found : (name rest : List ℕ) → IsName name → Follows rest → content_of (name ++ rest) ≡ name ++ rest
content_found name rest h f =
    ap after_blanks (before_first-none is_hash (name ++ rest) (none-where is_hash is_clean (name ++ rest) (λ b c. other_byte is_clean 35 b refl c) (all_clean name rest h f)))
    ∙ name_first name rest h

not_closing : (name rest : List ℕ) → IsName name → Follows rest → is_closing (name ++ rest) ≡ false
not_closing [] rest h f = absurd (true≢false h.0)
not_closing (b ∷ name) rest h f =
    let other : is_close_brace b ≡ false = other_byte is_name_byte 125 b refl (and_parts (is_name_byte b) (list_all is_name_byte name) h.1).0 in
    rw (content_found (b ∷ name) rest h f, other) refl

speaks : (name rest : List ℕ) → IsName name → Follows rest → says_nothing (name ++ rest) ≡ false
unfolding says_nothing
speaks [] rest h f = absurd (true≢false h.0)
speaks (b ∷ name) rest h f = ap (λ (text : List ℕ). is_empty text) (content_found (b ∷ name) rest h f)

good : (name rest : List ℕ) → IsName name → Follows rest → has_bad_byte (name ++ rest) ≡ false
unfolding has_bad_byte
good name rest h f =
    rw (name_found name rest h f, body_found name rest h f)
    (or_from (list_any is_bad_byte name) (list_any is_bad_byte rest)
    (none-where is_bad_byte is_clean name clean_not_bad (all-where is_clean is_name_byte name name_is_clean h.1))
    (none-where is_bad_byte is_clean rest clean_not_bad f.clean))

-- ---- the line

-- a line that says something and is cut so
pub record IsCut (line : List ℕ) (cut : Cut) : Type 0 where
  pub speaks : says_nothing line ≡ false
  pub good : has_bad_byte line ≡ false
  pub one : list_any is_line_feed line ≡ false
  pub cut_is : cut_of line ≡ cut

abbrev pub cut_parts : List ℕ → Bool → List ℕ → List ℕ → Braces → Cut
cut_parts name stays_open arguments targets braces =
    record { name = name; stays_open = stays_open; arguments = arguments; targets = targets; braces = braces }

-- the same without braces
abbrev pub cut_with : List ℕ → Bool → List ℕ → List ℕ → Cut
cut_with name stays_open arguments targets = cut_parts name stays_open arguments targets NoBrace

-- the parts of what follows a name
pub record HasParts (rest arguments targets : List ℕ) (braces : Braces) : Type 0 where
  pub closed : leaves_open is_open_parenthesis is_close_parenthesis rest ≡ false
  pub inside : in_brackets is_open_parenthesis is_close_parenthesis rest ≡ arguments
  pub behind : before_first is_open_brace (after_brackets is_open_parenthesis is_close_parenthesis rest) ≡ targets
  pub braces_are : braces_in false rest ≡ braces

parts_found : (name rest arguments targets : List ℕ) (braces : Braces) → IsName name → Follows rest → HasParts rest arguments targets braces
    → cut_of (name ++ rest) ≡ cut_parts name false arguments targets braces
unfolding cut_of
parts_found name rest arguments targets braces h f p =
    let no_tag = f.no_tag in
    let closed = p.closed in
    let inside = p.inside in
    let behind = p.behind in
    let braces_are = p.braces_are in
    rw (not_closing name rest h f, name_found name rest h f, body_found name rest h f, name_passed name rest h f, no_tag, closed, inside, behind, braces_are) refl

pub is_cut : (name rest arguments targets : List ℕ) (braces : Braces) → IsName name → Follows rest → HasParts rest arguments targets braces
    → IsCut (name ++ rest) (cut_parts name false arguments targets braces)
is_cut name rest arguments targets braces h f p =
    record {
      speaks = speaks name rest h f;
      good = good name rest h f;
      one = none-where is_line_feed is_clean (name ++ rest) (λ b c. other_byte is_clean 10 b refl c) (all_clean name rest h f);
      cut_is = parts_found name rest arguments targets braces h f p;
    }

-- ---- a name and targets

no_braces : (rest : List ℕ) → list_all is_plain_byte rest ≡ true → braces_in false rest ≡ NoBrace
no_braces rest plain =
    let none : list_any is_brace rest ≡ false = none-where is_brace is_plain_byte rest plain_no_brace plain in rw none refl

all_targets : (targets : List ℕ) → list_all is_plain_byte targets ≡ true → before_first is_open_brace targets ≡ targets
all_targets targets plain =
    before_first-none is_open_brace targets (none-where is_open_brace is_plain_byte targets (λ b q. other_byte is_plain_byte 123 b refl q) plain)

pub targets_cut : (name targets : List ℕ) → IsName name → list_all is_plain_byte targets ≡ true → position_or_len ends_name targets ≡ 0
    → has_opening is_open_bracket targets ≡ false → has_opening is_open_parenthesis targets ≡ false → IsCut (name ++ targets) (cut_with name false [] targets)
targets_cut name targets h plain apart no_tag none =
    is_cut name targets [] targets NoBrace h
    (record { clean = all-where is_clean is_plain_byte targets plain_is_clean plain; apart = apart; no_tag = no_tag })
    (record {
      closed = rw none refl;
      inside = rw none refl;
      behind = rw none (all_targets targets plain);
      braces_are = no_braces targets plain;
    })

-- ---- a name, arguments in parentheses and targets

closes : (xs ys : List ℕ) → list_any is_close_parenthesis (xs ++ 41 ∷ ys) ≡ true
closes xs ys = list_any-append is_close_parenthesis xs (41 ∷ ys) ∙ or_right (list_any is_close_parenthesis xs) true refl

pub arguments_cut : (name arguments targets : List ℕ) → IsName name → list_all is_plain_byte arguments ≡ true → list_any is_close_parenthesis arguments ≡ false
    → list_all is_plain_byte targets ≡ true → IsCut (name ++ 40 ∷ (arguments ++ 41 ∷ targets)) (cut_with name false arguments targets)
arguments_cut name arguments targets h inner none plain =
    let all : list_all is_plain_byte (40 ∷ (arguments ++ 41 ∷ targets)) ≡ true = both_all is_plain_byte arguments (41 ∷ targets) inner plain in
    is_cut name (40 ∷ (arguments ++ 41 ∷ targets)) arguments targets NoBrace h
    (record { clean = all-where is_clean is_plain_byte (40 ∷ (arguments ++ 41 ∷ targets)) plain_is_clean all; apart = refl; no_tag = refl })
    (record {
      closed = ap not (closes arguments targets);
      inside = before_first-append is_close_parenthesis arguments (41 ∷ targets) none ∙ append-nil arguments;
      behind = ap (before_first is_open_brace) (after_first-append is_close_parenthesis arguments (41 ∷ targets) none) ∙ all_targets targets plain;
      braces_are = no_braces (40 ∷ (arguments ++ 41 ∷ targets)) all;
    })

-- ---- a name, targets and a brace

opens_last : (targets : List ℕ) → list_any is_brace targets ≡ false → braces_in false (targets ++ 123 ∷ []) ≡ OpeningLast
opens_last targets none =
    let some : list_any is_brace (targets ++ 123 ∷ []) ≡ true = list_any-append is_brace targets (123 ∷ []) ∙ or_right (list_any is_brace targets) true refl in
    let brace : from_first is_brace (targets ++ 123 ∷ []) ≡ 123 ∷ [] = from_first-append is_brace targets (123 ∷ []) none in rw (some, brace) refl

pub opening_cut : (name targets : List ℕ) → IsName name → list_all is_plain_byte targets ≡ true → position_or_len ends_name (targets ++ 123 ∷ []) ≡ 0
    → has_opening is_open_bracket (targets ++ 123 ∷ []) ≡ false → has_opening is_open_parenthesis (targets ++ 123 ∷ []) ≡ false
    → IsCut (name ++ (targets ++ 123 ∷ [])) (cut_parts name false [] targets OpeningLast)
opening_cut name targets h plain apart no_tag none =
    let clean : list_all is_clean (targets ++ 123 ∷ []) ≡ true = both_all is_clean targets (123 ∷ []) (all-where is_clean is_plain_byte targets plain_is_clean plain) refl in
    let no_brace : list_any is_open_brace targets ≡ false = none-where is_open_brace is_plain_byte targets (λ b q. other_byte is_plain_byte 123 b refl q) plain in
    is_cut name (targets ++ 123 ∷ []) [] targets OpeningLast h
    (record { clean = clean; apart = apart; no_tag = no_tag })
    (record {
      closed = rw none refl;
      inside = rw none refl;
      behind = rw none (before_first-append is_open_brace targets (123 ∷ []) no_brace ∙ append-nil targets);
      braces_are = opens_last targets (none-where is_brace is_plain_byte targets plain_no_brace plain);
    })
