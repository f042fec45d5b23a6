-- Targets of some turns earlier: what their lists name, and the words that they stand for.
use Rattle.std.proofs.Common.{◌≡◌, ℕ, zero, suc, ◌+◌, ◌-◌, ◌*◌, ◌<◌, ◌≤◌, nat_lt, Bool, true, false, List, [], ◌∷◌, ◌++◌, length, get_or, map, take, eqb, refl, ap, ap₂, sym, ◌∙◌, append_assoc, arith}
use Rattle.std.specs.Prelude.{All, ◌||◌, if◌then◌else◌}
use Rattle.std.proofs.lemmas.Bool.{ltb-true, ltb-false, ne_eqb}
use Rattle.std.proofs.lemmas.Bool.Decides.{nat_tests}
use Rattle.std.proofs.lemmas.List.{take_more}
use Rattle.std.proofs.lemmas.List.Elements.{All-cons, All-head, All-tail}
use Rattle.pauli_word.specs.Bits.{letter_of}
use Rattle.pauli_word.specs.Parity.{exclusive_or}
use Rattle.pauli_word.specs.Words.{no_letters}
use Rattle.step_model.specs.Targets.{is_listed}
use Rattle.trackers.specs.Tracked.{is_among, listed_word}
use Rattle.backward.specs.declared.moved.Shift.{Shift}
use Rattle.backward.specs.private.MovedTargets.{earlier_list, grown_list, grown_lists, is_within, later_target, later_turns, moved_list, picked}
use Rattle.backward.proofs.GrownLists.{earlier_test, grown_test, is_in}

-- ---- what a moved list names
-- what holds where a target goes away, where it is moved and where it stays, holds by the tests of `moved_list`
moved_cases : (P : List ℕ → Type 0) (detectors by t : ℕ) (rest : List ℕ) → (t < detectors → t < by → P rest) → (t < detectors → by ≤ t → P ((t - by) ∷ rest)) → (detectors ≤ t → P (t ∷ rest))
    → P (if nat_lt t detectors then (if nat_lt t by then rest else (t - by) ∷ rest) else t ∷ rest)
moved_cases P detectors by t rest gone moved stays = by_tests (nat_lt t detectors) (nat_lt t by) refl refl
  where
    by_tests : (b c : Bool) → nat_lt t detectors ≡ b → nat_lt t by ≡ c → P (if b then (if c then rest else (t - by) ∷ rest) else t ∷ rest)
    by_tests true true p q = gone (ltb-true t detectors p) (ltb-true t by q)
    by_tests true false p q = moved (ltb-true t detectors p) (ltb-false t by q)
    by_tests false c p q = stays (ltb-false t detectors p)

eqb-sym : (a b : ℕ) → eqb a b ≡ eqb b a
eqb-sym a b = grind (arith, nat_tests)

-- ---- what lists some turns earlier name
same_or : (a b c : Bool) → ((a || b) || c) ≡ (a || (b || c))
same_or true b c = refl
same_or false b c = refl

or_false : (b : Bool) → (b || false) ≡ b
or_false true = refl
or_false false = refl

xor_false : (b : Bool) → exclusive_or b false ≡ b
xor_false true = refl
xor_false false = refl

same_xor : (a b c : Bool) → exclusive_or (exclusive_or a b) c ≡ exclusive_or a (exclusive_or b c)
same_xor true true true = refl
same_xor true true false = refl
same_xor true false true = refl
same_xor true false false = refl
same_xor false true c = refl
same_xor false false c = refl

module _ (s : Shift) (within : s.staying ≤ s.detectors) (few : s.detectors ≤ s.targets) where
  pub is_among-earlier : (d : ℕ) (ts : List ℕ) → All (λ t. t < s.targets) ts → is_among (earlier_list s ts) d ≡ is_among ts (later_target s d)
  is_among-earlier d ts below =
      earlier_test s within few (λ a b. a || b) is_among (λ d. refl) (λ t ts d. ap (λ b. b || is_among ts d) (eqb-sym d t)) (λ b. refl) or_false same_or ts below d

  is_listed-earlier : (d : ℕ) (ts : List ℕ) → All (λ t. t < s.targets) ts → is_listed (earlier_list s ts) d ≡ is_listed ts (later_target s d)
  is_listed-earlier d ts below = earlier_test s within few exclusive_or is_listed (λ d. refl) (λ t ts d. refl) (λ b. refl) xor_false same_xor ts below d

  is_listed-grown : (n d : ℕ) (ts : List ℕ) → All (λ t. t < s.targets) ts → is_listed (grown_list s n ts) d ≡ is_listed ts (later_turns s n d)
  is_listed-grown n d ts below = grown_test s within few exclusive_or is_listed (λ d. refl) (λ t ts d. refl) (λ b. refl) xor_false same_xor ts below n d

  -- ---- the words that they stand for
  listed_word-as : (g : List ℕ → List ℕ) (d e : ℕ) → ((ts : List ℕ) → All (λ t. t < s.targets) ts → is_listed (g ts) d ≡ is_listed ts e) → (lists : List (List ℕ)) → All (All (λ t. t < s.targets)) lists
      → listed_word (map g lists) d ≡ listed_word lists e
  listed_word-as g d e same [] below = refl
  listed_word-as g d e same (x ∷ []) below = refl
  listed_word-as g d e same (x ∷ z ∷ lists) below =
      let P : List ℕ → Type 0 = All (λ t. t < s.targets) in
      let rest = All-tail P x (z ∷ lists) below in
      ap₂ (λ a w. a ∷ w) (ap₂ letter_of (same x (All-head P x (z ∷ lists) below)) (same z (All-head P z lists rest))) (listed_word-as g d e same lists (All-tail P z lists rest))

  pub listed_word-earlier : (d : ℕ) (lists : List (List ℕ)) → All (All (λ t. t < s.targets)) lists → listed_word (map (earlier_list s) lists) d ≡ listed_word lists (later_target s d)
  listed_word-earlier d = listed_word-as (earlier_list s) d (later_target s d) (is_listed-earlier d)

  pub listed_word-grown : (n d : ℕ) (lists : List (List ℕ)) → All (All (λ t. t < s.targets)) lists → listed_word (grown_lists s n lists) d ≡ listed_word lists (later_turns s n d)
  listed_word-grown n d = listed_word-as (grown_list s n) d (later_turns s n d) (is_listed-grown n d)

-- no list has a number beyond the targets
pub not_listed : (targets d : ℕ) (ts : List ℕ) → targets ≤ d → All (λ t. t < targets) ts → is_listed ts d ≡ false
not_listed targets d [] beyond below = refl
not_listed targets d (t ∷ ts) beyond below =
    let within : t < targets = All-head (λ t. t < targets) t ts below in
    ap₂ exclusive_or (ne_eqb t d (λ e. omega (arith, e, beyond, within))) (not_listed targets d ts beyond (All-tail (λ t. t < targets) t ts below))

pub not_among : (targets d : ℕ) (ts : List ℕ) → targets ≤ d → All (λ t. t < targets) ts → is_among ts d ≡ false
not_among targets d [] beyond below = refl
not_among targets d (t ∷ ts) beyond below =
    let within : t < targets = All-head (λ t. t < targets) t ts below in
    ap₂ (λ a b. a || b) (ne_eqb d t (λ e. omega (arith, e, beyond, within))) (not_among targets d ts beyond (All-tail (λ t. t < targets) t ts below))

pub listed_word-beyond : (targets d qubits : ℕ) (lists : List (List ℕ)) → targets ≤ d → length lists ≡ 2 * qubits → All (All (λ t. t < targets)) lists → listed_word lists d ≡ no_letters qubits
listed_word-beyond targets d zero [] beyond two_each below = refl
listed_word-beyond targets d zero (x ∷ lists) beyond two_each below = absurd (omega (arith, two_each))
listed_word-beyond targets d (suc qubits) [] beyond two_each below = absurd (omega (arith, two_each))
listed_word-beyond targets d (suc qubits) (x ∷ []) beyond two_each below = absurd (omega (arith, two_each))
listed_word-beyond targets d (suc qubits) (x ∷ z ∷ lists) beyond two_each below =
    let P : List ℕ → Type 0 = All (λ t. t < targets) in
    let rest = All-tail P x (z ∷ lists) below in
    let letter =
    ap₂ letter_of
    (not_listed targets d x beyond (All-head P x (z ∷ lists) below))
    (not_listed targets d z beyond (All-head P z lists rest)) in
    ap₂ (λ a w. a ∷ w) letter (listed_word-beyond targets d qubits lists beyond (omega (arith, two_each)) (All-tail P z lists rest))

-- ---- moved lists
pub below-moved_list : (detectors targets by : ℕ) (ts : List ℕ) → All (λ t. t < targets) ts → All (λ t. t < targets) (moved_list detectors by ts)
below-moved_list detectors targets by [] below = below
below-moved_list detectors targets by (t ∷ ts) below =
    let P : ℕ → Type 0 = λ t. t < targets in
    let rest = moved_list detectors by ts in
    let within : t < targets = All-head P t ts below in
    let next = below-moved_list detectors targets by ts (All-tail P t ts below) in
    moved_cases (All P) detectors by t rest
    (λ here gone. next)
    (λ here stays. All-cons P (t - by) rest (omega (arith, within)) next)
    (λ here. All-cons P t rest within next)

-- lists picked from, one target more
picked-append : (low high by : ℕ) (xs ys : List ℕ) → picked low high by (xs ++ ys) ≡ picked low high by xs ++ picked low high by ys
picked-append low high by [] ys = refl
picked-append low high by (t ∷ ts) ys = by_test (picked-append low high by ts ys) (is_within low high t)
  where
    by_test : picked low high by (ts ++ ys) ≡ picked low high by ts ++ picked low high by ys → (b : Bool)
        → (if b then (t - by) ∷ picked low high by (ts ++ ys) else picked low high by (ts ++ ys)) ≡ (if b then (t - by) ∷ picked low high by ts else picked low high by ts) ++ picked low high by ys
    by_test next true = ap (λ l. (t - by) ∷ l) next
    by_test next false = next

pub picked_more : (low high by i : ℕ) (ts us base : List ℕ) → i < length ts → us ≡ base ++ picked low high by (take i ts) → (vs : List ℕ) → vs ≡ picked low high by (get_or ts i 0 ∷ [])
    → us ++ vs ≡ base ++ picked low high by (take (i + 1) ts)
picked_more low high by i ts us base within so_far vs one =
    ap₂ (λ a b. a ++ b) so_far one
    ∙ (append_assoc base (picked low high by (take i ts)) (picked low high by (get_or ts i 0 ∷ []))
    ∙ ap (λ l. base ++ l) (sym (picked-append low high by (take i ts) (get_or ts i 0 ∷ [])) ∙ ap (picked low high by) (sym (take_more ts i 0 within))))

pub picked_one : (low high by t : ℕ) → low ≤ t → t < high → (t - by) ∷ [] ≡ picked low high by (t ∷ [])
picked_one low high by t le lt = sym (ap (λ b. if b then (t - by) ∷ [] else []) (is_in low high t le lt))

pub picked_none : (low high by t : ℕ) → is_within low high t ≡ false → [] ≡ picked low high by (t ∷ [])
picked_none low high by t out = sym (ap (λ b. if b then (t - by) ∷ [] else []) out)

-- lists joined
pub moved_list-append : (detectors by : ℕ) (xs ys : List ℕ) → moved_list detectors by (xs ++ ys) ≡ moved_list detectors by xs ++ moved_list detectors by ys
moved_list-append detectors by [] ys = refl
moved_list-append detectors by (t ∷ ts) ys = by_tests (moved_list-append detectors by ts ys) (nat_lt t detectors) (nat_lt t by)
  where
    by_tests : moved_list detectors by (ts ++ ys) ≡ moved_list detectors by ts ++ moved_list detectors by ys → (b c : Bool)
        → (if b then (if c then moved_list detectors by (ts ++ ys) else (t - by) ∷ moved_list detectors by (ts ++ ys)) else t ∷ moved_list detectors by (ts ++ ys))
        ≡ (if b then (if c then moved_list detectors by ts else (t - by) ∷ moved_list detectors by ts) else t ∷ moved_list detectors by ts) ++ moved_list detectors by ys
    by_tests next true true = next
    by_tests next true false = ap (λ l. (t - by) ∷ l) next
    by_tests next false c = ap (λ l. t ∷ l) next

-- one more of a list
pub moved_more : (detectors by i : ℕ) (ts us : List ℕ) → i < length ts → us ≡ moved_list detectors by (take i ts) → (vs : List ℕ) → vs ≡ moved_list detectors by (get_or ts i 0 ∷ [])
    → us ++ vs ≡ moved_list detectors by (take (i + 1) ts)
moved_more detectors by i ts us within so_far vs one =
    ap₂ (λ a b. a ++ b) so_far one
    ∙ (sym (moved_list-append detectors by (take i ts) (get_or ts i 0 ∷ [])) ∙ ap (moved_list detectors by) (sym (take_more ts i 0 within)))
