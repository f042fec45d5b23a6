-- The instructions of a model that can be written fit what their names take.
use Rattle.std.proofs.Common.{◌≡◌, ℕ, suc, ◌+◌, ◌-◌, ◌≤◌, ◌<◌, nat_lt, true, false, ℤ, nat_abs, List, [], ◌∷◌, ◌++◌, map, length, refl, ap, ◌∙◌, inl, inr, arith, All}
use Rattle.std.specs.Prelude.{slice_index_or}
use Rattle.std.specs.Fmt.{signed_decimal}
use Rattle.std.specs.List.{list_any, list_all, range_with_len}
use Rattle.std.proofs.lemmas.List.{length-map}
use Rattle.std.proofs.lemmas.List.Elements.{All-append, All-map, All-weaker}
use Rattle.std.proofs.lemmas.Bool.{and_from, cases_Bool, false≢true, le-ltb, ltb-false, ltb-true, or_from}
use Rattle.step_model.specs.ErrorModels.{ErrorLine, ErrorModel}
use Rattle.step_model.specs.WellFormed.{CoordinatesFit}
use Rattle.stim_lexer.specs.Bytes.{is_empty}
use Rattle.stim_parser.specs.Limits.{has_wrong_arguments, has_wrong_probability}
use Rattle.stim_parser.specs.Numbers.{is_number_beyond, magnitude_of}
use Rattle.stim_parser.specs.Coordinates.{is_whole_number}
use Rattle.dem_text.specs.Limits.{are_of_form, has_target_beyond, is_effect, is_target_beyond}
use Rattle.dem_text.specs.Writable.{IsWritable, IsWritableLine}
use Rattle.stim_parser.proofs.AcceptedLemmas.{accepted_is_word}
use Rattle.stim_parser.proofs.ArgumentTexts.{AreWords}
use Rattle.dem_text.proofs.ModelInstructions.{detector_instruction, detector_instructions, error_instruction, error_instructions, instructions_of, observable_instruction, observable_instructions, target_of_number}
use Rattle.stim_parser.proofs.NumberLemmas.{signed_decimal_is_whole}
use Rattle.dem_text.proofs.FlipLemmas.{all-below}
use Rattle.dem_text.proofs.TextReadLemmas.{CanStand}
use Rattle.stim_parser.proofs.WordLemmas.{is_word}

-- ---- error lines

not_empty : (text : List ℕ) → is_word text ≡ true → is_empty text ≡ false
not_empty [] h = absurd (false≢true h)
not_empty (b ∷ text) h = refl

numbered_is_effect : (detectors t : ℕ) → is_effect (target_of_number detectors t) ≡ true
numbered_is_effect detectors t = elim (cases_Bool (nat_lt t detectors)) [ inl e ↦ rw e refl | inr e ↦ rw e refl ]

all_effects : (detectors : ℕ) (targets : List ℕ) → list_all is_effect (map (target_of_number detectors) targets) ≡ true
all_effects detectors [] = refl
all_effects detectors (t ∷ targets) =
    and_from (is_effect (target_of_number detectors t)) (list_all is_effect (map (target_of_number detectors) targets)) (numbered_is_effect detectors t) (all_effects detectors targets)

numbered_within : (detectors observables t : ℕ) → detectors ≤ 1000000 → observables ≤ 1024 → t < detectors + observables → is_target_beyond (target_of_number detectors t) ≡ false
numbered_within detectors observables t few_detectors few_observables h =
    elim (cases_Bool (nat_lt t detectors)) [
      | inl e ↦
          let below = ltb-true t detectors e in rw e (le-ltb 999999 t (omega (arith, below, few_detectors)))
      | inr e ↦
          let above = ltb-false t detectors e in rw e (le-ltb 1023 (t - detectors) (omega (arith, above, h, few_observables)))
    ]

all_within : (detectors observables : ℕ) (targets : List ℕ) → detectors ≤ 1000000 → observables ≤ 1024 → All (λ t. t < detectors + observables) targets
    → list_any is_target_beyond (map (target_of_number detectors) targets) ≡ false
all_within detectors observables [] few_detectors few_observables h = refl
all_within detectors observables (t ∷ targets) few_detectors few_observables h =
    or_from (is_target_beyond (target_of_number detectors t)) (list_any is_target_beyond (map (target_of_number detectors) targets))
    (numbered_within detectors observables t few_detectors few_observables (h 0 t (omega arith)))
    (all_within detectors observables targets few_detectors few_observables (λ k d below. h (suc k) d (omega (arith, below))))

error_stands : (detectors observables : ℕ) (line : ErrorLine) → detectors ≤ 1000000 → observables ≤ 1024 → IsWritableLine (detectors + observables) line → CanStand (error_instruction detectors line)
unfolding has_wrong_arguments has_wrong_probability are_of_form has_target_beyond
error_stands detectors observables line few_detectors few_observables h =
    let word = accepted_is_word line.text h.accepted in
    let some = not_empty line.text word in
    let accepted = h.accepted in
    record {
      words = (word, tt);
      fits = record {
        arguments = rw some refl;
        probability = rw accepted refl;
        arguments_within = refl;
        targets = all_effects detectors line.targets;
        targets_within = all_within detectors observables line.targets few_detectors few_observables h.in_range;
      };
      stays = refl;
    }

-- ---- detectors

coordinate_words : (coordinates : List ℤ) → All (λ c. nat_abs c < 1_000_000_000_000_000_000) coordinates → AreWords (map signed_decimal coordinates)
coordinate_words [] h = tt
coordinate_words (c ∷ coordinates) h =
    ((signed_decimal_is_whole c (h 0 c (omega arith))).word, coordinate_words coordinates (λ k d below. h (suc k) d (omega (arith, below))))

all_whole : (coordinates : List ℤ) → All (λ c. nat_abs c < 1_000_000_000_000_000_000) coordinates → list_all is_whole_number (map signed_decimal coordinates) ≡ true
all_whole [] h = refl
all_whole (c ∷ coordinates) h =
    and_from (is_whole_number (signed_decimal c)) (list_all is_whole_number (map signed_decimal coordinates))
    (signed_decimal_is_whole c (h 0 c (omega arith))).whole (all_whole coordinates (λ k d below. h (suc k) d (omega (arith, below))))

all_near : (coordinates : List ℤ) → All (λ c. nat_abs c < 1_000_000_000_000_000_000) coordinates → list_any (λ text. is_number_beyond (magnitude_of text)) (map signed_decimal coordinates) ≡ false
all_near [] h = refl
all_near (c ∷ coordinates) h =
    let near = h 0 c (omega arith) in
    or_from (is_number_beyond (magnitude_of (signed_decimal c))) (list_any (λ text. is_number_beyond (magnitude_of text)) (map signed_decimal coordinates))
    (ap is_number_beyond (signed_decimal_is_whole c near).magnitude ∙ le-ltb 999_999_999_999_999_999 (nat_abs c) (omega (arith, near)))
    (all_near coordinates (λ k d below. h (suc k) d (omega (arith, below))))

few_texts : (coordinates : List ℤ) → length coordinates ≤ 16 → nat_lt 16 (length (map signed_decimal coordinates)) ≡ false
few_texts coordinates h = ap (λ n. nat_lt 16 n) (length-map coordinates signed_decimal) ∙ le-ltb 16 (length coordinates) h

detector_stands : (coordinates : List (List ℤ)) (d : ℕ) → d < 1000000 → CoordinatesFit (slice_index_or coordinates d []) → CanStand (detector_instruction coordinates d)
unfolding has_wrong_arguments has_wrong_probability are_of_form has_target_beyond
detector_stands coordinates d h fit =
    let few = few_texts (slice_index_or coordinates d []) fit.few in
    let whole = all_whole (slice_index_or coordinates d []) fit.within in
    let within : nat_lt 999999 d ≡ false = le-ltb 999999 d (omega (arith, h)) in
    record {
      words = coordinate_words (slice_index_or coordinates d []) fit.within;
      fits = record {
        arguments = rw (few, whole) refl;
        probability = refl;
        arguments_within = all_near (slice_index_or coordinates d []) fit.within;
        targets = refl;
        targets_within = rw within refl;
      };
      stays = refl;
    }

-- ---- observables

observable_stands : (k : ℕ) → k < 1024 → CanStand (observable_instruction k)
unfolding has_wrong_arguments has_wrong_probability are_of_form has_target_beyond
observable_stands k h =
    let within : nat_lt 1023 k ≡ false = le-ltb 1023 k (omega (arith, h)) in
    record {
      words = tt;
      fits = record {
        arguments = refl;
        probability = refl;
        arguments_within = refl;
        targets = refl;
        targets_within = rw within refl;
      };
      stays = refl;
    }

-- ---- all

pub instructions_stand : (model : ErrorModel) → IsWritable model → All CanStand (instructions_of model)
instructions_stand model h =
    let given = h.coordinates_given in
    let few_detectors = h.few_detectors in
    let few_observables = h.few_observables in
    All-append CanStand (error_instructions model) (detector_instructions model ++ observable_instructions model)
    (All-map CanStand (error_instruction model.detectors) model.lines
    (All-weaker (IsWritableLine (model.detectors + model.observables)) (λ line. CanStand (error_instruction model.detectors line))
    (λ line fits. error_stands model.detectors model.observables line few_detectors few_observables fits)
    model.lines h.lines))
    (All-append CanStand (detector_instructions model) (observable_instructions model)
    (All-map CanStand (detector_instruction model.coordinates) (range_with_len 0 model.detectors)
    (All-weaker (λ d. d < model.detectors) (λ d. CanStand (detector_instruction model.coordinates d))
    (λ d below. detector_stands model.coordinates d (omega (arith, below, few_detectors)) (h.coordinates_fit d [] (omega (arith, below, given))))
    (range_with_len 0 model.detectors) (all-below model.detectors)))
    (All-map CanStand observable_instruction (range_with_len 0 model.observables)
    (All-weaker (λ k. k < model.observables) (λ k. CanStand (observable_instruction k)) (λ k below. observable_stands k (omega (arith, below, few_observables)))
    (range_with_len 0 model.observables) (all-below model.observables))))
