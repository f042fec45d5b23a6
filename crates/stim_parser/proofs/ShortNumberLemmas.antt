-- Short whole numbers one after another are the arguments of a text, and within every limit.
use Rattle.std.proofs.Common.{◌≡◌, ℕ, ◌+◌, ◌==◌, ◌<◌, ◌≤◌, Bool, true, false, not, ◌&&◌, ◌||◌, List, [], ◌∷◌, ◌++◌, length, map, refl, ap, ap₂, subst, ◌∙◌, append-nil, inl, inr, arith}
use Rattle.std.specs.Prelude.{◌⊎◌, is_some, nat_lt, slice_get}
use Rattle.std.specs.Char.{is_ascii_digit}
use Rattle.std.specs.List.{list_all, list_any, slice_split}
use Rattle.std.proofs.lemmas.Bool.{and_parts, cases_Bool, false≢true, or_from}
use Rattle.stim_lexer.specs.Bytes.{after_blanks, is_empty}
use Rattle.stim_parser.specs.declared.forms.ArgumentForm.TheVariants.{WholeNumbers}
use Rattle.stim_parser.specs.Arguments.{arguments_in, is_comma, trimmed}
use Rattle.stim_parser.specs.Coordinates.{is_whole_number}
use Rattle.stim_parser.specs.Limits.{has_argument_beyond, has_wrong_arguments, is_argument}
use Rattle.stim_parser.specs.Numbers.{is_number, magnitude_of, without_minus}
use Rattle.stim_parser.specs.private.ShortNumbers.{AreShort, BeginsShort, IsShort}
use Rattle.stim_parser.proofs.ArgumentTexts.{no_comma, whole_is_word}
use Rattle.stim_parser.proofs.CutLemmas.{slice_split-alone, slice_split-first}
use Rattle.stim_parser.proofs.DigitLemmas.{digits_value-below, power_at_most}
use Rattle.stim_parser.proofs.WordLemmas.{trimmed-space, trimmed-word}

-- ---- one at the front

-- digits behind a minus or not, with it
record HasNumber (text digits rest : List ℕ) : Type 0 where
  pub number : List ℕ
  pub digits_are : without_minus number ≡ digits
  pub text_is : text ≡ number ++ rest

no_minus : (d : ℕ) → is_ascii_digit d ≡ true → (d == 45) ≡ false
no_minus d h = grind arith

-- digits alone
bare : (digits rest text : List ℕ) → text ≡ digits ++ rest → list_all is_ascii_digit digits ≡ true → HasNumber text digits rest
bare [] rest text t h = record { number = []; digits_are = refl; text_is = t }
bare (d ∷ digits) rest text t h =
    let parts = and_parts (is_ascii_digit d) (list_all is_ascii_digit digits) h in
    record { number = d ∷ digits; digits_are = rw (no_minus d parts.0) refl; text_is = t }

with_sign : (text digits rest : List ℕ) → without_minus text ≡ digits ++ rest → list_all is_ascii_digit digits ≡ true → HasNumber text digits rest
with_sign [] digits rest t h = bare digits rest [] t h
with_sign (b ∷ text) digits rest t h =
    elim (cases_Bool (b == 45)) [
      | inl minus ↦
          let behind : text ≡ digits ++ rest = rw minus at t in
          record { number = b ∷ digits; digits_are = rw minus refl; text_is = ap (λ (xs : List ℕ). b ∷ xs) behind }
      | inr other ↦
          let same : b ∷ text ≡ digits ++ rest = rw other at t in
          bare digits rest (b ∷ text) same h
    ]

some_digits : (digits : List ℕ) → list_all is_ascii_digit digits ≡ true → 0 < length digits → is_number digits ≡ true
some_digits [] h some = absurd (omega (arith, some))
some_digits (d ∷ digits) h some = h

few_digits : (digits : List ℕ) (number : List ℕ) → without_minus number ≡ digits → list_all is_ascii_digit digits ≡ true → length digits ≤ 9 → magnitude_of number < 1_000_000_000
few_digits digits number is h few =
    rw is (omega (arith, digits_value-below digits h, power_at_most (length digits) 9 few))

spaced : (text inner number rest : List ℕ) → (text ≡ inner) ⊎ (text ≡ 32 ∷ inner) → inner ≡ number ++ rest → (text ≡ number ++ rest) ⊎ (text ≡ 32 ∷ (number ++ rest))
spaced text inner number rest (inl bare) e = inl (bare ∙ e)
spaced text inner number rest (inr space) e = inr (space ∙ ap (λ (xs : List ℕ). 32 ∷ xs) e)

pub begins-short : (text inner digits rest : List ℕ) → (text ≡ inner) ⊎ (text ≡ 32 ∷ inner) → without_minus inner ≡ digits ++ rest
    → list_all is_ascii_digit digits ≡ true → 0 < length digits → length digits ≤ 9 → BeginsShort text rest
begins-short text inner digits rest space t h some few =
    let has = with_sign inner digits rest t h in
    record {
      number = has.number;
      short = (ap is_number has.digits_are ∙ some_digits digits h some, few_digits digits has.number has.digits_are h few);
      text_is = spaced text inner has.number rest space has.text_is;
    }

-- ---- one after another

-- the first argument of a text is short, and these are the others
pub record CutsShort (text : List ℕ) (others : List (List ℕ)) : Type 0 where
  pub first : List ℕ
  pub short : IsShort first
  pub cut : map trimmed (slice_split is_comma text) ≡ first ∷ others

spaced_no_comma : (number : List ℕ) → is_whole_number number ≡ true → list_any is_comma (32 ∷ number) ≡ false
spaced_no_comma number whole = or_from (is_comma 32) (list_any is_comma number) refl (no_comma number (whole_is_word number whole))

pub cuts-first : (text rest after : List ℕ) → BeginsShort text rest → rest ≡ 44 ∷ after → CutsShort text (map trimmed (slice_split is_comma after))
cuts-first text rest after h e =
    let word = whole_is_word h.number h.short.0 in
    let others = map trimmed (slice_split is_comma after) in
    record {
      first = h.number;
      short = h.short;
      cut =
          elim h.text_is [
            | inl bare ↦
                ap (λ (t : List ℕ). map trimmed (slice_split is_comma t)) (bare ∙ ap (λ (r : List ℕ). h.number ++ r) e)
                ∙ ap (map trimmed) (slice_split-first is_comma h.number 44 after (no_comma h.number word) refl)
                ∙ ap (λ (x : List ℕ). x ∷ others) (trimmed-word h.number word)
            | inr space ↦
                ap (λ (t : List ℕ). map trimmed (slice_split is_comma t)) (space ∙ ap (λ (r : List ℕ). 32 ∷ (h.number ++ r)) e)
                ∙ ap (map trimmed) (slice_split-first is_comma (32 ∷ h.number) 44 after (spaced_no_comma h.number h.short.0) refl)
                ∙ ap (λ (x : List ℕ). x ∷ others) (trimmed-space h.number word)
          ];
    }

pub cuts-last : (text rest : List ℕ) → BeginsShort text rest → rest ≡ [] → CutsShort text []
cuts-last text rest h e =
    let word = whole_is_word h.number h.short.0 in
    let none : List (List ℕ) = [] in
    record {
      first = h.number;
      short = h.short;
      cut =
          elim h.text_is [
            | inl bare ↦
                ap (λ (t : List ℕ). map trimmed (slice_split is_comma t)) (bare ∙ ap (λ (r : List ℕ). h.number ++ r) e ∙ append-nil h.number)
                ∙ ap (map trimmed) (slice_split-alone is_comma h.number (no_comma h.number word))
                ∙ ap (λ (x : List ℕ). x ∷ none) (trimmed-word h.number word)
            | inr space ↦
                ap (λ (t : List ℕ). map trimmed (slice_split is_comma t)) (space ∙ ap (λ (r : List ℕ). 32 ∷ (h.number ++ r)) e ∙ ap (λ (r : List ℕ). 32 ∷ r) (append-nil h.number))
                ∙ ap (map trimmed) (slice_split-alone is_comma (32 ∷ h.number) (spaced_no_comma h.number h.short.0))
                ∙ ap (λ (x : List ℕ). x ∷ none) (trimmed-space h.number word)
          ];
    }

-- so many arguments were short, and these are left
pub record AreShortSoFar (all left : List (List ℕ)) (read : ℕ) : Type 0 where
  pub short : AreShort left → AreShort all
  pub count : length all ≡ read + length left

pub short-first : (all : List (List ℕ)) → AreShortSoFar all all 0
short-first all = record { short = λ h. h; count = omega arith }

pub short-more : (all others : List (List ℕ)) (text : List ℕ) (read : ℕ) → AreShortSoFar all (map trimmed (slice_split is_comma text)) read → CutsShort text others → AreShortSoFar all others (read + 1)
short-more all others text read h cut =
    let here : AreShortSoFar all (cut.first ∷ others) read = subst (λ (left : List (List ℕ)). AreShortSoFar all left read) cut.cut h in
    record { short = λ rest. here.short (cut.short, rest); count = omega (arith, here.count) }

pub short-last : (all : List (List ℕ)) (text : List ℕ) (read : ℕ) → AreShortSoFar all (map trimmed (slice_split is_comma text)) read → CutsShort text [] → read < 16 → AreShort all × (length all ≤ 16)
short-last all text read h cut few =
    let done = short-more all [] text read h cut in (done.short tt, omega (arith, done.count, few))

-- ---- the arguments of a text

pub arguments-none : (text : List ℕ) → is_some (slice_get (arguments_in text) 0) ≡ false → arguments_in text ≡ []
arguments-none text h = by (arguments_in text) h
  where
    by : (arguments : List (List ℕ)) → is_some (slice_get arguments 0) ≡ false → arguments ≡ []
    by [] h = refl
    by (a ∷ arguments) h = absurd cc

pub arguments-some : (text : List ℕ) → is_some (slice_get (arguments_in text) 0) ≡ true → arguments_in text ≡ map trimmed (slice_split is_comma text)
unfolding arguments_in
arguments-some text h =
    elim (cases_Bool (is_empty (after_blanks text))) [ inl e ↦ absurd (false≢true (rw e at h)) | inr e ↦ rw e refl ]

-- ---- what is asked of them

all_whole : (texts : List (List ℕ)) → AreShort texts → list_all (is_argument WholeNumbers) texts ≡ true
all_whole [] h = refl
all_whole (text ∷ texts) h = ap₂ (λ (a b : Bool). a && b) h.0.0 (all_whole texts h.1)

is_few : (n : ℕ) → n ≤ 16 → nat_lt 16 n ≡ false
is_few n h = grind arith

pub short-right : (texts : List (List ℕ)) → AreShort texts → length texts ≤ 16 → has_wrong_arguments WholeNumbers texts ≡ false
unfolding has_wrong_arguments
short-right texts h few = ap₂ (λ (a b : Bool). a || not b) (is_few (length texts) few) (all_whole texts h)

not_beyond : (greatest n : ℕ) → 999_999_999 ≤ greatest → n < 1_000_000_000 → nat_lt greatest n ≡ false
not_beyond greatest n h k = grind arith

pub short-within : (greatest : ℕ) (texts : List (List ℕ)) → AreShort texts → 999_999_999 ≤ greatest → has_argument_beyond greatest WholeNumbers texts ≡ false
short-within greatest [] h least = refl
short-within greatest (text ∷ texts) h least =
    ap₂ (λ (a b : Bool). a || b) (not_beyond greatest (magnitude_of text) least h.0.1) (short-within greatest texts h.1 least)
