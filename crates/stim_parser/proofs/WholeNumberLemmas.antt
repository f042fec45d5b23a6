-- Arguments read as whole numbers, one after another, and coordinates among them.
use Rattle.std.proofs.Common.{◌≡◌, ℕ, zero, suc, ◌+◌, ◌<◌, ◌≤◌, ℤ, pos, neg_ℤ, Bool, true, false, not, ◌&&◌, ◌||◌, List, [], ◌∷◌, ◌++◌, length, map, Option, None, Some, refl, sym, ap, ap₂, ◌∙◌, inl, inr, arith, length-append}
use Rattle.std.specs.Prelude.{nat_abs, nat_le, nat_lt, if◌then◌else◌, MatchBool}
use Rattle.std.specs.List.{list_all, list_any}
use Rattle.std.proofs.lemmas.Bool.{and_parts, cases_Bool}
use Rattle.std.proofs.lemmas.List.{append-nil, length-map}
use Rattle.stim_parser.specs.declared.forms.ArgumentForm.TheVariants.{WholeNumbers}
use Rattle.stim_parser.specs.Coordinates.{coordinates_in, is_coordinate, is_coordinate_beyond, is_whole_number}
use Rattle.stim_parser.specs.Limits.{has_argument_beyond, has_wrong_arguments, is_argument}
use Rattle.stim_parser.specs.Numbers.{greatest_coordinate, has_minus, magnitude_of, number_of, whole_value, without_minus}

-- ---- one of them

some_injective : (j k : ℕ) → ◌≡◌ {A = Option ℕ} (Some j) (Some k) → j ≡ k
some_injective j k h = cc

pub not_whole : (text : List ℕ) → None ≡ number_of (without_minus text) → is_whole_number text ≡ false
not_whole text h =
    elim (cases_Bool (is_whole_number text)) [
      | inl e ↦
          let no : ◌≡◌ {A = Option ℕ} None (Some (magnitude_of text)) = h ∙ ap (λ (b : Bool). if b then Some (magnitude_of text) else None) e in
          absurd cc
      | inr e ↦ e
    ]

pub whole : (text : List ℕ) (m : ℕ) → Some m ≡ number_of (without_minus text) → (is_whole_number text ≡ true) × (m ≡ magnitude_of text)
whole text m h =
    elim (cases_Bool (is_whole_number text)) [
      | inl e ↦ (e, some_injective m (magnitude_of text) (h ∙ ap (λ (b : Bool). if b then Some (magnitude_of text) else None) e))
      | inr e ↦
          let no : ◌≡◌ {A = Option ℕ} (Some m) None = h ∙ ap (λ (b : Bool). if b then Some (magnitude_of text) else None) e in
          absurd cc
    ]

pub whole-small : (text : List ℕ) (m : ℕ) → Some m ≡ number_of (without_minus text) → m ≤ 1_000_000_000_000_000_000
whole-small text m h = omega (arith, (whole text m h).1)

pub whole-value : (text : List ℕ) (m : ℕ) → Some m ≡ number_of (without_minus text) → (if has_minus text then neg_ℤ (pos m) else pos m) ≡ whole_value text
whole-value text m h = ap (λ (n : ℕ). if has_minus text then neg_ℤ (pos n) else pos n) (whole text m h).1

-- ---- one after another

-- the values of the first of all arguments, each a whole number, where these are left
pub record Reads (all left : List (List ℕ)) (read : List ℤ) : Type 0 where
  pub values : read ++ map whole_value left ≡ map whole_value all
  pub same : list_all (is_argument WholeNumbers) left ≡ list_all (is_argument WholeNumbers) all
  pub few : length read ≤ 16

pub reads-first : (all : List (List ℕ)) → Reads all all []
reads-first all = record { values = refl; same = refl; few = omega arith }

wrong-at : (all : List (List ℕ)) (many every : Bool) → nat_lt 16 (length all) ≡ many → list_all (is_argument WholeNumbers) all ≡ every
    → has_wrong_arguments WholeNumbers all ≡ (many || not every)
unfolding has_wrong_arguments
wrong-at all many every m e = ap₂ (λ (a b : Bool). a || not b) m e

or-true : (b : Bool) → (b || true) ≡ true
or-true true = refl
or-true false = refl

pub reads-wrong : (all left : List (List ℕ)) (text : List ℕ) (read : List ℤ) → Reads all (text ∷ left) read → is_whole_number text ≡ false → has_wrong_arguments WholeNumbers all ≡ true
reads-wrong all left text read h e =
    let none : list_all (is_argument WholeNumbers) all ≡ false = sym h.same ∙ ap (λ (b : Bool). b && list_all (is_argument WholeNumbers) left) e in
    wrong-at all (nat_lt 16 (length all)) false refl none ∙ or-true (nat_lt 16 (length all))

-- how many arguments there are
counted : (all left : List (List ℕ)) (read : List ℤ) → Reads all left read → length all ≡ length read + length left
counted all left read h =
    omega (arith, ap (λ (zs : List ℤ). length zs) h.values, length-append read (map whole_value left), length-map left whole_value, length-map all whole_value)

is_many : (n : ℕ) → 16 < n → nat_lt 16 n ≡ true
is_many n h = grind arith

is_few : (n : ℕ) → n ≤ 16 → nat_lt 16 n ≡ false
is_few n h = grind arith

pub reads-many : (all left : List (List ℕ)) (read : List ℤ) → Reads all left read → 0 < length left → length read ≡ 16 → has_wrong_arguments WholeNumbers all ≡ true
reads-many all left read h more full =
    let n = counted all left read h in
    wrong-at all true (list_all (is_argument WholeNumbers) all) (is_many (length all) (omega (arith, n, more, full))) refl

pub reads-done : (all : List (List ℕ)) (read : List ℤ) → Reads all [] read → (has_wrong_arguments WholeNumbers all ≡ false) × (read ≡ map whole_value all)
reads-done all read h =
    let n = counted all [] read h in (
      wrong-at all false true (is_few (length all) (omega (arith, n, h.few))) (sym h.same),
      sym (append-nil read) ∙ h.values,
    )

-- ---- their limit

-- the magnitude of a whole number
pub magnitude_kept : (text : List ℕ) → nat_abs (whole_value text) ≡ magnitude_of text
magnitude_kept text = by (has_minus text) (magnitude_of text)
  where
    by : (b : Bool) (m : ℕ) → nat_abs (if b then neg_ℤ (pos m) else pos m) ≡ m
    by true zero = refl
    by true (suc m) = refl
    by false m = refl

pub any-beyond : (greatest : ℕ) (all : List (List ℕ)) → list_any (λ number. nat_lt greatest (nat_abs number)) (map whole_value all) ≡ has_argument_beyond greatest WholeNumbers all
any-beyond greatest [] = refl
any-beyond greatest (text ∷ all) =
    ap₂ (λ (a b : Bool). a || b) (ap (λ (n : ℕ). nat_lt greatest n) (magnitude_kept text)) (any-beyond greatest all)

or_not : (a b : Bool) → (not a && not b) ≡ not (a || b)
or_not true b = refl
or_not false b = refl

-- of whole numbers, each is a coordinate where none is beyond the limit
each : (all : List (List ℕ)) → list_all (is_argument WholeNumbers) all ≡ true → list_all is_coordinate all ≡ not (has_argument_beyond greatest_coordinate WholeNumbers all)
each [] h = refl
each (text ∷ all) h =
    let parts = and_parts (is_whole_number text) (list_all (is_argument WholeNumbers) all) h in
    ap₂ (λ (a b : Bool). (a && not (is_coordinate_beyond text)) && b) parts.0 (each all parts.1)
    ∙ or_not (is_coordinate_beyond text) (has_argument_beyond greatest_coordinate WholeNumbers all)

not_or : (a b : Bool) → (a || not b) ≡ false → (a ≡ false) × (b ≡ true)
not_or true b h = absurd cc
not_or false true h = (refl, refl)
not_or false false h = absurd cc

le_of : (n : ℕ) → nat_lt 16 n ≡ false → nat_le n 16 ≡ true
le_of n h = grind arith

pub coordinates-at : (all : List (List ℕ)) (beyond : Bool) → has_wrong_arguments WholeNumbers all ≡ false → has_argument_beyond greatest_coordinate WholeNumbers all ≡ beyond
    → (if not beyond then Some (map whole_value all) else None) ≡ coordinates_in all
unfolding coordinates_in has_wrong_arguments
coordinates-at all beyond right is =
    let parts = not_or (nat_lt 16 (length all)) (list_all (is_argument WholeNumbers) all) right in
    sym (ap₂ (λ (a b : Bool). if a && b then Some (map whole_value all) else None) (le_of (length all) parts.0) (each all parts.1 ∙ ap not is))

and-false : (b : Bool) → (b && false) ≡ false
and-false true = refl
and-false false = refl

-- a coordinate is a whole number
all_whole : (all : List (List ℕ)) → list_all is_coordinate all ≡ true → list_all (is_argument WholeNumbers) all ≡ true
all_whole [] h = refl
all_whole (text ∷ all) h =
    let parts = and_parts (is_coordinate text) (list_all is_coordinate all) h in
    let is = and_parts (is_whole_number text) (not (is_coordinate_beyond text)) parts.0 in
    ap₂ (λ (a b : Bool). a && b) is.0 (all_whole all parts.1)

lt_of : (n : ℕ) → nat_le n 16 ≡ true → nat_lt 16 n ≡ false
lt_of n h = grind arith

pub coordinates-none : (all : List (List ℕ)) → has_wrong_arguments WholeNumbers all ≡ true → None ≡ coordinates_in all
unfolding coordinates_in
coordinates-none all wrong =
    elim (cases_Bool (nat_le (length all) 16 && list_all is_coordinate all)) [
      | inl e ↦
          let parts = and_parts (nat_le (length all) 16) (list_all is_coordinate all) e in
          let right : has_wrong_arguments WholeNumbers all ≡ false = wrong-at all false true (lt_of (length all) parts.0) (all_whole all parts.1) in
          absurd cc
      | inr e ↦ sym (ap (λ (b : Bool). if b then Some (map whole_value all) else None) e)
    ]

pub told : (all : List (List ℕ)) (read : List ℤ) (beyond : Bool) → read ≡ map whole_value all → has_wrong_arguments WholeNumbers all ≡ false
    → has_argument_beyond greatest_coordinate WholeNumbers all ≡ beyond → MatchBool (not beyond) (coordinates_in all ≡ Some read) (coordinates_in all ≡ None)
told all read true values right is = sym (coordinates-at all true right is)
told all read false values right is = sym (coordinates-at all false right is) ∙ ap (λ (zs : List ℤ). Some zs) (sym values)
