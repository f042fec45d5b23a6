-- Offsets added number by number, coordinates moved by them, and what there is room for.
use Rattle.std.proofs.Common.{◌≡◌, ℕ, zero, suc, ◌+◌, ◌-◌, ◌*◌, ◌^◌, ◌<◌, ◌≤◌, ℤ, pos, ◌+ℤ◌, List, [], ◌∷◌, ◌++◌, append_assoc, append-nil, length, length-append, take, drop, get_or, set, replicate, map, Bool, true, false, ◌||◌, refl, subst, ap, ap₂, sym, ◌∙◌, inl, inr, arith}
use Rattle.std.specs.Prelude.{All, max, min, nat_abs, nat_lt}
use Rattle.std.specs.List.{list_any}
use Rattle.stim_lexer.specs.Reached.{greatest_by}
use Rattle.dem_text.specs.Models.{is_coordinate_beyond}
use Rattle.std.proofs.lemmas.Bool.{cases_lt, le-ltb, ltb-false, or_from}
use Rattle.std.proofs.Math.IntN.{+ℤ_idl, +ℤ_idr}
use Rattle.std.proofs.lemmas.Int.{ints}
use Rattle.std.proofs.lemmas.List.{drop_all, get_or_past, length-replicate, length-take}
use Rattle.std.proofs.lemmas.List.Elements.{All-append, All-cons, All-replicate}
use Rattle.stim_parser.specs.declared.forms.ArgumentForm.{ArgumentForm}
use Rattle.stim_parser.specs.declared.forms.ArgumentForm.TheVariants.{NoArguments, ProbabilityAtWill, OneProbability, WholeNumbers, Decimals, OneNumber}
use Rattle.stim_parser.specs.Limits.{has_argument_beyond, has_wrong_arguments, is_wrong_count}
use Rattle.stim_parser.proofs.WholeNumberLemmas.{magnitude_kept}
use Rattle.stim_parser.specs.Numbers.{greatest_number, magnitude_of, whole_value}
use Rattle.stim_parser.specs.declared.table.Keyword.TheVariants.{Does}
use Rattle.dem_text.specs.declared.operation.Operation.{Operation}
use Rattle.dem_text.specs.declared.operation.Operation.TheVariants.{PauliError, DetectorDeclaration, ObservableInclude, Shifts}
use Rattle.dem_text.specs.declared.target.Target.{Target}
use Rattle.dem_text.specs.declared.target.Target.TheVariants.{Plain, Detector, Observable, Separator}
use Rattle.dem_text.specs.Fitting.{Fits}
use Rattle.dem_text.specs.Instructions.{argument_form}
use Rattle.dem_text.specs.Limits.{has_target_beyond, is_target_beyond}
use Rattle.dem_text.specs.Verdicts.{Instruction, number_in}
use Rattle.dem_text.specs.declared.brief.Extent.{Extent}
use Rattle.dem_text.specs.private.Offsets.{AreSmall, HasRoom, beyond_stated, number_at, padded}
use Rattle.dem_text.specs.Shifts.{Shift, shift_after, shifted_by}
use Rattle.stim_parser.specs.Offsets.{shifted, moved}
use Rattle.dem_text.specs.private.Tables.{IsKnown, numbers_stated}

-- ---- offsets

-- number by number
pub both-at : (offset more : List ℤ) (j : ℕ) → number_at offset j +ℤ number_at more j ≡ number_at (shifted offset more) j
both-at [] more j = +ℤ_idl (number_at more j)
both-at (o ∷ offset) [] j = +ℤ_idr (number_at (o ∷ offset) j)
both-at (o ∷ offset) (m ∷ more) zero = refl
both-at (o ∷ offset) (m ∷ more) (suc j) = both-at offset more j

pub length-both : (offset more : List ℤ) → length (shifted offset more) ≡ max (length offset) (length more)
length-both [] more = omega arith
length-both (o ∷ offset) [] = omega arith
length-both (o ∷ offset) (m ∷ more) = let rest = length-both offset more in omega (arith, rest)

-- ---- an offset that is lengthened and then added to

pub padded-push : (axes : ℕ) (offset : List ℤ) → length offset < axes → padded axes (offset ++ pos 0 ∷ []) ≡ padded axes offset
padded-push axes offset h =
    let long = length-append offset (pos 0 ∷ []) in
    let fewer : axes - length offset ≡ suc (axes - length (offset ++ pos 0 ∷ [])) = omega (arith, long, h) in
    append_assoc offset (pos 0 ∷ []) (replicate (axes - length (offset ++ pos 0 ∷ [])) (pos 0))
    ∙ ap (λ n. offset ++ replicate n (pos 0)) (sym fewer)

pub padded-done : (axes : ℕ) (offset : List ℤ) → axes ≤ length offset → padded axes offset ≡ offset
padded-done axes offset h =
    let none : axes - length offset ≡ 0 = omega (arith, h) in
    ap (λ n. offset ++ replicate n (pos 0)) none ∙ append-nil offset

pub long-padded : (axes : ℕ) (offset : List ℤ) → axes ≤ length (padded axes offset)
long-padded axes offset =
    let long = length-append offset (replicate (axes - length offset) (pos 0)) in
    omega (arith, long, length-replicate (axes - length offset) (pos 0))

shifted-zeros : (more : List ℤ) → shifted (replicate (length more) (pos 0)) more ≡ more
shifted-zeros [] = refl
shifted-zeros (m ∷ more) = ap₂ (λ (x : ℤ) (xs : List ℤ). x ∷ xs) (+ℤ_idl m) (shifted-zeros more)

pub shifted-padded : (offset more : List ℤ) → shifted (padded (length more) offset) more ≡ shifted offset more
shifted-padded [] more =
    let all : length more - 0 ≡ length more = omega arith in
    ap (λ n. shifted (replicate n (pos 0)) more) all ∙ shifted-zeros more
shifted-padded (o ∷ offset) [] = ap (λ xs. shifted xs []) (padded-done 0 (o ∷ offset) (omega arith))
shifted-padded (o ∷ offset) (m ∷ more) =
    let fewer : length (m ∷ more) - length (o ∷ offset) ≡ length more - length offset = omega arith in
    ap (λ n. (o +ℤ m) ∷ shifted (offset ++ replicate n (pos 0)) more) fewer ∙ ap (λ xs. (o +ℤ m) ∷ xs) (shifted-padded offset more)

pub shifted-none : (offset : List ℤ) → shifted offset [] ≡ offset
shifted-none [] = refl
shifted-none (o ∷ offset) = refl

-- a place that nothing was added to yet
pub still-at : (offset more : List ℤ) (j : ℕ) → number_at (shifted offset (take j more)) j ≡ number_at offset j
still-at offset more j =
    let long = length-take j more in
    sym (both-at offset (take j more) j)
    ∙ ap (λ n. number_at offset j +ℤ n) (get_or_past (take j more) j (pos 0) (omega (arith, long)))
    ∙ +ℤ_idr (number_at offset j)

pub shifted-next : (offset more : List ℤ) (j : ℕ) → j < length more → length more ≤ length offset
    → set (shifted offset (take j more)) j (number_at offset j +ℤ number_at more j) ≡ shifted offset (take (j + 1) more)
shifted-next offset more j h few =
    let later : suc j ≡ j + 1 = omega arith in
    at_next offset more j h few ∙ ap (λ k. shifted offset (take k more)) later
  where
    at_next : (offset more : List ℤ) (j : ℕ) → j < length more → length more ≤ length offset
        → set (shifted offset (take j more)) j (number_at offset j +ℤ number_at more j) ≡ shifted offset (take (suc j) more)
    at_next offset [] j h few = absurd (omega (arith, h))
    at_next [] (m ∷ more) j h few = absurd (omega (arith, few))
    at_next (o ∷ offset) (m ∷ more) zero h few = ap (λ xs. (o +ℤ m) ∷ xs) (sym (shifted-none offset))
    at_next (o ∷ offset) (m ∷ more) (suc j) h few = ap (λ xs. (o +ℤ m) ∷ xs) (at_next offset more j (omega (arith, h)) (omega (arith, few)))

-- ---- coordinates

pub moved-none : (stated : List ℤ) → moved [] stated ≡ stated
moved-none [] = refl
moved-none (c ∷ stated) = refl

pub moved-past : (offset : List ℤ) → moved offset [] ≡ []
moved-past [] = refl
moved-past (o ∷ offset) = refl

moved-step : (offset stated : List ℤ) (j : ℕ) (e : ℤ) → j < length stated
    → moved (drop j offset) (drop j stated) ≡ (get_or offset j (pos 0) +ℤ get_or stated j e) ∷ moved (drop (suc j) offset) (drop (suc j) stated)
moved-step offset [] j e h = absurd (omega (arith, h))
moved-step [] (c ∷ stated) zero e h = ap₂ (λ (x : ℤ) (xs : List ℤ). x ∷ xs) (sym (+ℤ_idl c)) (sym (moved-none stated))
moved-step [] (c ∷ stated) (suc j) e h =
    ap (λ (xs : List ℤ). moved xs (drop j stated)) (sym (drop_all j [] (omega arith)))
    ∙ moved-step [] stated j e (omega (arith, h))
moved-step (o ∷ offset) (c ∷ stated) zero e h = refl
moved-step (o ∷ offset) (c ∷ stated) (suc j) e h = moved-step offset stated j e (omega (arith, h))

pub moved-next : (offset stated : List ℤ) (j : ℕ) (e : ℤ) → j < length stated
    → moved (drop j offset) (drop j stated) ≡ (get_or offset j (pos 0) +ℤ get_or stated j e) ∷ moved (drop (j + 1) offset) (drop (j + 1) stated)
moved-next offset stated j e h =
    let later : suc j ≡ j + 1 = omega arith in
    moved-step offset stated j e h
    ∙ ap (λ k. (get_or offset j (pos 0) +ℤ get_or stated j e) ∷ moved (drop k offset) (drop k stated)) later

-- ---- arguments

few : (form : ArgumentForm) (n : ℕ) → is_wrong_count form n ≡ false → n ≤ 16
few NoArguments n h = grind arith
few ProbabilityAtWill n h = grind arith
few OneProbability n h = grind arith
few WholeNumbers n h = grind arith
few Decimals n h = grind arith
few OneNumber n h = grind arith

pub left : (a b : Bool) → a || b ≡ false → a ≡ false
left false b h = refl
left true b h = cc

pub right : (a b : Bool) → a || b ≡ false → b ≡ false
right false b h = h
right true b h = cc

pub few_arguments : (i : Instruction) → Fits i → length i.arguments ≤ 16
unfolding has_wrong_arguments
few_arguments i fits =
    few (argument_form (Does i.operation)) (length i.arguments) (left _ _ fits.arguments)

-- the values of arguments within their limit
pub small_values : (arguments : List (List ℕ)) → has_argument_beyond greatest_number WholeNumbers arguments ≡ false → AreSmall (map whole_value arguments)
small_values [] h = λ k d below. absurd (omega (arith, below))
small_values (a ∷ arguments) h =
    let low = ltb-false greatest_number (magnitude_of a) (left (nat_lt greatest_number (magnitude_of a)) _ h) in
    All-cons (λ n. nat_abs n < beyond_stated) (whole_value a) (map whole_value arguments)
    (omega (arith, low, magnitude_kept a))
    (small_values arguments (right (nat_lt greatest_number (magnitude_of a)) _ h))

-- ---- room for shifts

number-few : (ts : List Target) → has_target_beyond ts ≡ false → number_in ts < 1_000_000_000_000_000_000
unfolding has_target_beyond
number-few [] h = omega arith
number-few (Plain n ∷ ts) h =
    let low = ltb-false 999_999_999_999_999_999 n (left (is_target_beyond (Plain n)) _ h) in omega (arith, low)
number-few (Detector d ∷ ts) h = omega arith
number-few (Observable k ∷ ts) h = omega arith
number-few (Separator ∷ ts) h = omega arith

-- room for some lines is room for fewer
room-less : (s : Shift) (m n : ℕ) → HasRoom s m → n ≤ m → HasRoom s n
room-less s m n room h =
    record { detectors = omega (arith, room.detectors, h); offset = λ k d below. let one = room.offset k d below in omega (arith, one, h) }

pub room-one : (s : Shift) (n : ℕ) → HasRoom s n → 1 ≤ n → HasRoom s 1
room-one s n = room-less s n 1

-- at a place of an offset, or past its end
pub room-at : (offset : List ℤ) (k : ℕ) → All (λ o. nat_abs o + beyond_stated < 2 ^ 127) offset → nat_abs (number_at offset k) + beyond_stated < 2 ^ 127
room-at offset k room =
    elim (cases_lt k (length offset)) [
      | inl below ↦ room k (pos 0) below
      | inr past ↦ let none = ap nat_abs (get_or_past offset k (pos 0) past) in omega (arith, none)
    ]

pub small-at : (numbers : List ℤ) (k : ℕ) → AreSmall numbers → nat_abs (number_at numbers k) < beyond_stated
small-at numbers k small =
    elim (cases_lt k (length numbers)) [
      | inl below ↦ small k (pos 0) below
      | inr past ↦ let none = ap nat_abs (get_or_past numbers k (pos 0) past) in omega (arith, none)
    ]

abs-sum : (a b : ℤ) → nat_abs (a +ℤ b) ≤ nat_abs a + nat_abs b
abs-sum a b = grind (arith, ints)

room-both : (offset more : List ℤ) (n x : ℕ) → x + beyond_stated * suc n < 2 ^ 127 → All (λ o. nat_abs o + beyond_stated * suc n < 2 ^ 127) offset → AreSmall more
    → All (λ o. nat_abs o + beyond_stated * n < 2 ^ 127) (shifted offset more)
room-both [] more n x few room small = λ k d below. let one = small k d below in omega (arith, one, few)
room-both (o ∷ offset) [] n x few room small = λ k d below. let one = room k d below in omega (arith, one)
room-both (o ∷ offset) (m ∷ more) n x few room small =
    let here = room 0 (pos 0) (omega arith) in
    let one = small 0 (pos 0) (omega arith) in
    let sum = abs-sum o m in
    All-cons (λ o. nat_abs o + beyond_stated * n < 2 ^ 127) (o +ℤ m) (shifted offset more)
    (omega (arith, here, one, sum))
    (room-both offset more n x few (λ k d below. room (suc k) d (omega (arith, below))) (λ k d below. small (suc k) d (omega (arith, below))))

-- what is left of the room after a line
pub room-next : (i : Instruction) (e : Extent) (ns : List ℤ) (s : Shift) (n : ℕ) → IsKnown i e ns → HasRoom s (suc n) → HasRoom (shift_after i s) n
room-next i e ns s n known room = after i.operation i.arguments i.targets (number-few i.targets known.within) (subst AreSmall known.numbers_are known.small)
  where
    stays : HasRoom s n
    stays = room-less s (suc n) n room (omega arith)

    after : (operation : Operation) (arguments : List (List ℕ)) (ts : List Target) → number_in ts < beyond_stated → AreSmall (numbers_stated operation arguments) → HasRoom (shifted_by operation arguments ts s) n
    after PauliError arguments ts few small = stays
    after DetectorDeclaration arguments ts few small = stays
    after ObservableInclude arguments ts few small = stays
    after Shifts arguments ts few small =
        record {
          detectors = let now = room.detectors in omega (arith, now, few);
          offset = room-both s.offset (map whole_value arguments) n (s.detectors) room.detectors room.offset small;
        }

pub room-padded : (axes : ℕ) (offset : List ℤ) → All (λ o. nat_abs o + beyond_stated < 2 ^ 127) offset → All (λ o. nat_abs o + beyond_stated < 2 ^ 127) (padded axes offset)
room-padded axes offset room =
    All-append (λ o. nat_abs o + beyond_stated < 2 ^ 127) offset _ room (All-replicate (λ o. nat_abs o + beyond_stated < 2 ^ 127) (axes - length offset) (pos 0) (omega arith))

-- ---- how far an offset reaches

small-near : (stated : List ℤ) (q : ℕ) → greatest_by nat_abs stated ≤ q → q ≤ 999_999_999_999_999_999 → list_any is_coordinate_beyond stated ≡ false
small-near [] q h few = refl
small-near (c ∷ stated) q h few =
    or_from (is_coordinate_beyond c) (list_any is_coordinate_beyond stated)
    (le-ltb 999_999_999_999_999_999 (nat_abs c) (omega (arith, h, few))) (small-near stated q (omega (arith, h)) few)

pub near-moved : (offset stated : List ℤ) (r q : ℕ) → All (λ o. nat_abs o ≤ r) offset → greatest_by nat_abs stated ≤ q → r + q ≤ 999_999_999_999_999_999 → list_any is_coordinate_beyond (moved offset stated) ≡ false
near-moved offset [] r q reach h few = ap (list_any is_coordinate_beyond) (moved-past offset)
near-moved [] (c ∷ stated) r q reach h few = small-near (c ∷ stated) q h (omega (arith, few))
near-moved (o ∷ offset) (c ∷ stated) r q reach h few =
    let here = reach 0 (pos 0) (omega arith) in
    let sum = abs-sum o c in
    or_from (is_coordinate_beyond (o +ℤ c)) (list_any is_coordinate_beyond (moved offset stated))
    (le-ltb 999_999_999_999_999_999 (nat_abs (o +ℤ c)) (omega (arith, here, sum, h, few)))
    (near-moved offset stated r q (λ k d below. reach (suc k) d (omega (arith, below))) (omega (arith, h)) few)

pub reach-both : (offset more : List ℤ) (r q : ℕ) → All (λ o. nat_abs o ≤ r) offset → greatest_by nat_abs more ≤ q → All (λ o. nat_abs o ≤ r + q) (shifted offset more)
reach-both [] [] r q reach h = λ k d below. absurd (omega (arith, below))
reach-both [] (m ∷ more) r q reach h =
    All-cons (λ o. nat_abs o ≤ r + q) m more (omega (arith, h)) (reach-both [] more r q reach (omega (arith, h)))
reach-both (o ∷ offset) [] r q reach h = λ k d below. let one = reach k d below in omega (arith, one)
reach-both (o ∷ offset) (m ∷ more) r q reach h =
    let here = reach 0 (pos 0) (omega arith) in
    let sum = abs-sum o m in
    All-cons (λ o. nat_abs o ≤ r + q) (o +ℤ m) (shifted offset more) (omega (arith, here, sum, h))
    (reach-both offset more r q (λ k d below. reach (suc k) d (omega (arith, below))) (omega (arith, h)))

-- it is no more than 128 bits hold
pub reach-held : (offset more : List ℤ) (r q x : ℕ) → All (λ o. nat_abs o + beyond_stated < 2 ^ 127) offset → AreSmall more → All (λ o. nat_abs o ≤ r) offset → greatest_by nat_abs more ≤ q
    → x ≡ min (r + q) (2 ^ 128 - 1) → All (λ o. nat_abs o ≤ x) (shifted offset more)
reach-held offset more r q x room small reach h e = λ k d below.
    let low = reach-both offset more r q reach h k d below in
    let held = within offset more room small k d below in
    omega (arith, low, held, e)
  where
    within : (offset more : List ℤ) → All (λ o. nat_abs o + beyond_stated < 2 ^ 127) offset → AreSmall more → All (λ o. nat_abs o < 2 ^ 127) (shifted offset more)
    within [] more room small = λ k d below. let one = small k d below in omega (arith, one)
    within (o ∷ offset) [] room small = λ k d below. let one = room k d below in omega (arith, one)
    within (o ∷ offset) (m ∷ more) room small =
        let here = room 0 (pos 0) (omega arith) in
        let one = small 0 (pos 0) (omega arith) in
        let sum = abs-sum o m in
        All-cons (λ o. nat_abs o < 2 ^ 127) (o +ℤ m) (shifted offset more) (omega (arith, here, one, sum))
        (within offset more (λ k d below. room (suc k) d (omega (arith, below))) (λ k d below. small (suc k) d (omega (arith, below))))
