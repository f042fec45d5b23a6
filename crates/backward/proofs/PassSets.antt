-- The sets of the targets that list each record, gone back over feedback.
use Rattle.std.proofs.Common.{◌≡◌, ◌≢◌, ℕ, ◌==◌, Bool, true, false, ◌&&◌, List, ◌∷◌, length, refl, ap, ap₂, sym, ◌∙◌, arith}
use Rattle.std.specs.Prelude.{filter, cond}
use Rattle.std.specs.List.{range_with_len}
use Rattle.std.proofs.lemmas.Bool.{eq-eqb, ne_eqb}
use Rattle.std.proofs.lemmas.List.FromFn.{length-map-range_with_len, get_or-map-range_with_len, fill_by_all}
use Rattle.pauli_word.specs.declared.letter.Letter.{Letter}
use Rattle.pauli_word.specs.Parity.{exclusive_or}
use Rattle.pauli_word.specs.Words.{anticommute}
use Rattle.step_model.specs.Listing.{Listing, ListedStep, Feedback}
use Rattle.step_model.specs.Targets.{targets_of, is_listed}
use Rattle.record_targets.specs.ListingSets.{listing_set, sensitivity_before, toggled_each}
use Rattle.step_model.proofs.MemberLemmas.{listed_in_range, map_agree}
use Rattle.record_targets.proofs.SetLemmas.{length-toggled_each, toggled_each_at}

and_same : (a b : Bool) → b ≡ true → a ≡ (a && b)
and_same false b h = refl
and_same true b h = sym h

and_false : (a b : Bool) → b ≡ false → (a && b) ≡ false
and_false false b h = refl
and_false true b h = h

abbrev target_count : Listing → ℕ
target_count program = length (targets_of program)

-- ---- feedback: its record is toggled for the targets whose sensitivity anticommutes
added_one : (b : Bool) (r s : ℕ) (named : List ℕ) → exclusive_or (b && (r == s)) (is_listed named s) ≡ is_listed (cond b (r ∷ named) named) s
added_one true r s named = refl
added_one false r s named = refl

pub listing_set-fed : (program : Listing) (w : List Letter) (r : ℕ) (steps : List ListedStep)
    → toggled_each (filter (λ d. anticommute (sensitivity_before program steps d).word w) (range_with_len 0 (length (targets_of program)))) (listing_set program steps r) ≡ listing_set program (Feedback w r ∷ steps) r
listing_set-fed program w r steps =
    fill_by_all (λ d. is_listed (sensitivity_before program (Feedback w r ∷ steps) d).records r) (toggled_each hit (listing_set program steps r)) (target_count program) false
    (length-toggled_each hit (listing_set program steps r) ∙ long)
    (λ k lt. toggled_each_at hit k (listing_set program steps r) (omega (arith, lt, long))
    ∙ (ap₂ exclusive_or (listed_in_range anticommutes k 0 (target_count program) (omega arith) (omega (arith, lt)))
    (get_or-map-range_with_len lists 0 (target_count program) k k false lt (omega arith))
    ∙ (ap (λ b. exclusive_or b (lists k)) (and_same (anticommutes k) (r == r) (eq-eqb r r refl))
    ∙ added_one (anticommutes k) r r (sensitivity_before program steps k).records)))
  where
    anticommutes : ℕ → Bool
    anticommutes d = anticommute (sensitivity_before program steps d).word w

    hit : List ℕ
    hit = filter anticommutes (range_with_len 0 (target_count program))

    lists : ℕ → Bool
    lists d = is_listed (sensitivity_before program steps d).records r

    long : length (listing_set program steps r) ≡ target_count program
    long = length-map-range_with_len lists 0 (target_count program)

-- other records stay as they are
pub listing_set-other : (program : Listing) (w : List Letter) (r s : ℕ) (steps : List ListedStep) → s ≢ r → listing_set program (Feedback w r ∷ steps) s ≡ listing_set program steps s
listing_set-other program w r s steps ne =
    sym (map_agree (λ d. is_listed (sensitivity_before program steps d).records s) (λ d. is_listed (sensitivity_before program (Feedback w r ∷ steps) d).records s)
    (λ d. ap (λ b. exclusive_or b (is_listed (sensitivity_before program steps d).records s)) (sym (and_false (anticommute (sensitivity_before program steps d).word w) (r == s) (ne_eqb r s (λ e. ne (sym e)))))
    ∙ added_one (anticommute (sensitivity_before program steps d).word w) r s (sensitivity_before program steps d).records)
    (range_with_len 0 (target_count program)))
