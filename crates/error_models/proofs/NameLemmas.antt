-- The texts of targets, one after another, and how long each is.
use Rattle.std.proofs.Common.{◌≡◌, ◌≢◌, ℕ, zero, suc, ◌+◌, ◌-◌, ◌<◌, ◌≤◌, nat_lt, Bool, true, false, if◌then◌else◌, List, [], ◌∷◌, ◌++◌, length, get_or, set, take, drop, ltb-true, ltb-false, refl, ap, ap₂, sym, ◌∙◌, arith, append_assoc}
use Rattle.std.specs.Prelude.{codes, decimal, reverse}
use Rattle.std.proofs.Math.Seq.{take-suc}
use Rattle.std.proofs.lemmas.Fmt.{length-decimal-le}
use Rattle.std.proofs.lemmas.List.{drop_more, reverse-append}
use Rattle.error_models.specs.ErrorLines.{text_at}
use Rattle.error_models.specs.ModelText.{target_text, targets_text}
use Rattle.error_models.proofs.ErrorLineLemmas.{text_at-get_or}
use Rattle.step_model.proofs.LastDigits.{rises_at_end}

six_digits : (n : ℕ) → n < 1000000 → length (decimal n) ≤ 6
six_digits n h = length-decimal-le 6 n (omega arith) (omega (arith, h)) (omega (arith, h))

name_fits : (detectors target : ℕ) (b : Bool) → nat_lt target detectors ≡ b → detectors ≤ 1000000 → target < detectors + 1000000
    → length (if b then codes " D" ++ decimal target else codes " L" ++ decimal (target - detectors)) ≤ 8
name_fits detectors target true is few near = omega (arith, six_digits target (omega (arith, ltb-true target detectors is, few)))
name_fits detectors target false is few near = omega (arith, six_digits (target - detectors) (omega (arith, ltb-false target detectors is, near)))

pub length-target_text : (detectors target : ℕ) → detectors ≤ 1000000 → target < detectors + 1000000 → length (target_text detectors target) ≤ 8
length-target_text detectors target few near = name_fits detectors target (nat_lt target detectors) refl few near

-- the name of a target from that of the one before it, by its last digit
next_by : (detectors before k : ℕ) (bytes : List ℕ) (b c : Bool) → nat_lt before detectors ≡ b → nat_lt (before + 1) detectors ≡ c
    → before + 1 ≢ detectors → detectors ≤ 1000000 → before < detectors + 1000000 → length bytes ≡ 8 → get_or bytes 7 0 < 57
    → drop k bytes ≡ (if b then codes " D" ++ decimal before else codes " L" ++ decimal (before - detectors))
    → drop k (set bytes 7 (get_or bytes 7 0 + 1)) ≡ (if c then codes " D" ++ decimal (before + 1) else codes " L" ++ decimal (before + 1 - detectors))
next_by detectors before k bytes true true b_is c_is other few near long low is =
    rises_at_end before k bytes (codes " D") (omega (arith, ltb-true before detectors b_is, few)) long is low
next_by detectors before k bytes true false b_is c_is other few near long low is =
    absurd (omega (arith, other, ltb-true before detectors b_is, ltb-false (before + 1) detectors c_is))
next_by detectors before k bytes false true b_is c_is other few near long low is =
    absurd (omega (arith, ltb-false before detectors b_is, ltb-true (before + 1) detectors c_is))
next_by detectors before k bytes false false b_is c_is other few near long low is =
    let later : before - detectors + 1 ≡ before + 1 - detectors = omega (arith, ltb-false before detectors b_is) in
    rises_at_end (before - detectors) k bytes (codes " L") (omega (arith, near)) long is low ∙ ap (λ n. codes " L" ++ decimal n) later

pub next_name : (detectors before target k : ℕ) (bytes : List ℕ) → before + 1 ≡ target → target ≢ detectors → detectors ≤ 1000000 → target < detectors + 1000000
    → length bytes ≡ 8 → get_or bytes 7 0 < 57 → drop k bytes ≡ target_text detectors before → drop k (set bytes 7 (get_or bytes 7 0 + 1)) ≡ target_text detectors target
next_name detectors before target k bytes next other few near long low is =
    next_by detectors before k bytes (nat_lt before detectors) (nat_lt (before + 1) detectors) refl refl (λ e. other (sym next ∙ e)) few (omega (arith, near, next)) long low is
    ∙ ap (target_text detectors) next

-- one more, behind texts of which each is that of its place
pub texts_pushed : (f : ℕ → List ℕ) (texts : List (List ℕ)) (text : List ℕ) → ((t : ℕ) → t < length texts → text_at texts t ≡ f t) → text ≡ f (length texts)
    → (t : ℕ) → t < length (texts ++ text ∷ []) → text_at (texts ++ text ∷ []) t ≡ f t
texts_pushed f [] text are is zero h = is
texts_pushed f [] text are is (suc t) h = absurd (omega (arith, h))
texts_pushed f (other ∷ texts) text are is zero h = are zero (omega arith)
texts_pushed f (other ∷ texts) text are is (suc t) h = texts_pushed (λ k. f (suc k)) texts text (λ k l. are (suc k) (omega (arith, l))) is t (omega (arith, h))

-- the text of a target, as it is read from texts of which each is that of its place
pub name_read : (texts slice : List (List ℕ)) (name d : List ℕ) (t : ℕ) → name ≡ get_or slice t d → slice ≡ texts → t < length texts → name ≡ text_at texts t
name_read texts slice name d t read same within = read ∙ (ap (λ names. get_or names t d) same ∙ sym (text_at-get_or texts t d within))

-- a target more, before those behind it
pub one_target_more : (detectors : ℕ) (targets name rest : List ℕ) (i left d : ℕ) → i + 1 ≡ left → i < length targets → name ≡ target_text detectors (get_or targets i d)
    → name ++ (targets_text detectors (drop left targets) ++ rest) ≡ targets_text detectors (drop i targets) ++ rest
one_target_more detectors targets name rest i left d next within is =
    sym (append_assoc name (targets_text detectors (drop left targets)) rest)
    ∙ ap (λ l. l ++ rest) (ap₂ (λ l n. l ++ targets_text detectors (drop n targets)) is (sym next)
    ∙ ap (targets_text detectors) (sym (drop_more targets i d within)))

-- a target more of those that come from the last to the first, before those that came before it
pub one_reversed_more : (detectors : ℕ) (targets name rest : List ℕ) (i next d : ℕ) → next ≡ suc i → i < length targets → name ≡ target_text detectors (get_or targets i d)
    → name ++ (targets_text detectors (reverse (take i targets)) ++ rest) ≡ targets_text detectors (reverse (take next targets)) ++ rest
one_reversed_more detectors targets name rest i next d next_is within is =
    let target = get_or targets i d in
    sym (append_assoc name (targets_text detectors (reverse (take i targets))) rest)
    ∙ ap (λ l. l ++ rest) (ap (λ l. l ++ targets_text detectors (reverse (take i targets))) is
    ∙ ap (targets_text detectors) (sym (reverse-append (take i targets) (target ∷ [])) ∙ ap reverse (sym (take-suc targets i d within) ∙ ap (λ n. take n targets) (sym next_is))))
