-- Targets of an error line read one after another from its bytes are those of its pieces, and raise counts as these do.
use Rattle.std.proofs.Common.{◌≡◌, ℕ, ◌+◌, ◌<◌, ◌==◌, true, false, max, min, List, [], ◌∷◌, ◌++◌, length, length-append, drop, Some, refl, ap, ap₂, subst, sym, ◌∙◌, append_assoc, append-nil, ◌⊎◌, inl, inr, arith}
use Rattle.std.specs.Prelude.{◌-◌, ◌*◌}
use Rattle.std.specs.Char.{is_ascii_digit}
use Rattle.std.specs.List.{list_all, list_any}
use Rattle.std.proofs.lemmas.Bool.{and_from, or_from, or_right}
use Rattle.std.proofs.lemmas.List.Sums.{fold-append}
use Rattle.step_model.specs.Probabilities.{digits_value}
use Rattle.stim_lexer.specs.Bytes.{is_blank, is_empty}
use Rattle.stim_parser.specs.Numbers.{number_of}
use Rattle.stim_parser.specs.Pieces.{ends_here, ends_piece, is_star, pieces_of}
use Rattle.stim_parser.specs.Targets.{each_of}
use Rattle.dem_text.specs.declared.brief.Extent.{Extent}
use Rattle.dem_text.specs.declared.target.Target.{Target}
use Rattle.dem_text.specs.declared.target.Target.TheVariants.{Detector, Observable, Separator}
use Rattle.dem_text.specs.private.ErrorTexts.{AreListed, BeginsWithExtent, BeginsWithTargets, IsBehindEnd, IsExtent, IsNumberFront, IsTargetFront, ends_line, is_quiet, is_word_byte}
use Rattle.dem_text.specs.Limits.{has_target_beyond, is_effect, is_target_beyond}
use Rattle.dem_text.specs.Meanings.{detectors_to, observables_to}
use Rattle.dem_text.specs.Targets.{target_of, targets_in}
use Rattle.stim_lexer.specs.Reached.{greatest_by}
use Rattle.stim_parser.proofs.ByteLemmas.{all-where, both_all, none-where}
use Rattle.stim_parser.proofs.CutLemmas.{first_piece}

-- ---- a number

pub digit_small : (d : ℕ) → is_ascii_digit d ≡ true → d < 58
digit_small d h = grind arith

pub number-next : (text rest after : List ℕ) (n m d : ℕ) → IsNumberFront text n rest → rest ≡ d ∷ after → is_ascii_digit d ≡ true → m ≡ 10 * n + (d - 48) → IsNumberFront text m after
number-next text rest after n m d h e digit next =
    let one : list_all is_ascii_digit (d ∷ []) ≡ true = and_from (is_ascii_digit d) true digit refl in
    record {
      digits = h.digits ++ d ∷ [];
      text_is = h.text_is ∙ ap (λ r. h.digits ++ r) e ∙ sym (append_assoc h.digits (d ∷ []) after);
      digits_are = both_all is_ascii_digit h.digits (d ∷ []) h.digits_are one;
      number_is =
          next
          ∙ ap (λ k. 10 * k + (d - 48)) h.number_is
          ∙ sym (fold-append (λ k b. 10 * k + (b - 48)) 0 h.digits (d ∷ []));
    }

value_same : (v n : ℕ) → n ≡ v → n < 1_000_000_000_000_000_000 → min v 1_000_000_000_000_000_000 ≡ n
value_same v n e h = omega arith

number_found : (digits : List ℕ) (n : ℕ) → 0 < length digits → list_all is_ascii_digit digits ≡ true → n ≡ digits_value digits → n < 1_000_000_000_000_000_000 → number_of digits ≡ Some n
number_found [] n some all e few = absurd (omega arith)
number_found (d ∷ digits) n some all e few =
    rw all (ap (λ (v : ℕ). Some v) (value_same (digits_value (d ∷ digits)) n e few))

-- ---- a target

digit_is_word_byte : (b : ℕ) → is_ascii_digit b ≡ true → is_word_byte b ≡ true
digit_is_word_byte b h = grind arith

pub detector_read : (digits : List ℕ) (n : ℕ) → number_of digits ≡ Some n → target_of (68 ∷ digits) ≡ Some (Detector n)
unfolding target_of
detector_read digits n h = rw h refl

pub observable_read : (digits : List ℕ) (n : ℕ) → number_of digits ≡ Some n → target_of (76 ∷ digits) ≡ Some (Observable n)
unfolding target_of
observable_read digits n h = rw h refl

some_digits : (text digits rest : List ℕ) → text ≡ digits ++ rest → length rest < length text → 0 < length digits
some_digits text digits rest e h = omega (arith, ap length e, length-append digits rest, h)

pub target-front : (text inside rest : List ℕ) (letter n : ℕ) (t : Target) → text ≡ 32 ∷ letter ∷ inside → IsNumberFront inside n rest → n < 1_000_000_000_000_000_000 → length rest < length inside
    → is_word_byte letter ≡ true → is_effect t ≡ true → ((digits : List ℕ) → number_of digits ≡ Some n → target_of (letter ∷ digits) ≡ Some t) → IsTargetFront text t rest
target-front text inside rest letter n t e h few less byte effect read =
    record {
      word = letter ∷ h.digits;
      text_is = e ∙ ap (λ r. 32 ∷ letter ∷ r) h.text_is;
      some = refl;
      bytes = and_from (is_word_byte letter) (list_all is_word_byte h.digits) byte (all-where is_word_byte is_ascii_digit h.digits digit_is_word_byte h.digits_are);
      target_is = read h.digits (number_found h.digits n (some_digits inside h.digits rest h.text_is less) h.digits_are h.number_is few);
      effect = effect;
    }

pub separator-front : (text inside rest : List ℕ) → text ≡ 32 ∷ inside → inside ≡ 94 ∷ rest → IsTargetFront text Separator rest
unfolding target_of
separator-front text inside rest e f =
    record { word = 94 ∷ []; text_is = e ∙ ap (λ r. 32 ∷ r) f; some = refl; bytes = refl; target_is = refl; effect = refl }

-- such a target before any other text
pub before-any : (text rest more : List ℕ) (t : Target) (h : IsTargetFront text t rest) → IsTargetFront (32 ∷ (h.word ++ more)) t more
before-any text rest more t h =
    record { word = h.word; text_is = refl; some = h.some; bytes = h.bytes; target_is = h.target_is; effect = h.effect }

-- ---- targets one after another

word_is_quiet : (b : ℕ) → is_word_byte b ≡ true → is_quiet b ≡ true
word_is_quiet b h = or_right (b == 32) (is_word_byte b) h

no_end_of_piece : (b : ℕ) → is_word_byte b ≡ true → ends_piece b ≡ false
no_end_of_piece b h = or_from (is_blank b) (is_star b) (grind arith) (grind arith)

one_read : (w rest : List ℕ) (t : Target) (ts : List Target) → is_empty w ≡ false → list_all is_word_byte w ≡ true → ends_here rest ≡ true → target_of w ≡ Some t → targets_in rest ≡ Some ts
    → targets_in (32 ∷ (w ++ rest)) ≡ Some (t ∷ ts)
unfolding targets_in pieces_of
one_read w rest t ts some bytes apart read more =
    ap (each_of target_of) (first_piece w rest some (none-where ends_piece is_word_byte w no_end_of_piece bytes) apart) ∙ rw (read, more) refl

listed-none : AreListed [] []
unfolding targets_in pieces_of has_target_beyond
listed-none = record { apart = refl; quiet = refl; read = refl; effects = refl; within = refl }

listed-first : (text after : List ℕ) (t : Target) (targets : List Target) → IsTargetFront text t after → is_target_beyond t ≡ false → AreListed after targets → AreListed text (t ∷ targets)
unfolding has_target_beyond
listed-first text after t targets front near h =
    subst (λ x. AreListed x (t ∷ targets)) (sym front.text_is)
    (record {
      apart = refl;
      quiet = both_all is_quiet front.word after (all-where is_quiet is_word_byte front.word word_is_quiet front.bytes) h.quiet;
      read = one_read front.word after t targets front.some front.bytes h.apart front.target_is h.read;
      effects = and_from (is_effect t) (list_all is_effect targets) front.effect h.effects;
      within = or_from (is_target_beyond t) (list_any is_target_beyond targets) near h.within;
    })

-- these targets were read; with any that follow they are listed together
pub record AreRead (text rest : List ℕ) (targets : List Target) : Type 0 where
  pub front : List ℕ
  pub text_is : text ≡ front ++ rest
  pub all : (more : List ℕ) (later : List Target) → AreListed more later → AreListed (front ++ more) (targets ++ later)

pub read-none : (text : List ℕ) → AreRead text text []
read-none text = record { front = []; text_is = refl; all = λ more later h. h }

pub read-one : (text rest after : List ℕ) (t : Target) (targets : List Target) → AreRead text rest targets → IsTargetFront rest t after → is_target_beyond t ≡ false → AreRead text after (targets ++ t ∷ [])
read-one text rest after t targets h front near =
    record {
      front = h.front ++ (32 ∷ front.word);
      text_is = h.text_is ∙ ap (λ r. h.front ++ r) front.text_is ∙ sym (append_assoc h.front (32 ∷ front.word) after);
      all = λ more later k.
          subst (λ x. AreListed x ((targets ++ t ∷ []) ++ later)) (sym (append_assoc h.front (32 ∷ front.word) more))
          (subst (λ us. AreListed (h.front ++ (32 ∷ (front.word ++ more))) us) (sym (append_assoc targets (t ∷ []) later))
          (h.all (32 ∷ (front.word ++ more)) (t ∷ later) (listed-first _ more t later (before-any rest after more t front) near k)));
    }

pub read-all : (text rest after : List ℕ) (targets : List Target) → AreRead text rest targets → IsBehindEnd rest after → BeginsWithTargets text targets after
read-all text rest after targets h ends =
    record {
      front = h.front;
      listed = subst (λ x. AreListed x targets) (append-nil h.front) (subst (λ us. AreListed (h.front ++ []) us) (append-nil targets) (h.all [] [] listed-none));
      parts = by ends;
    }
  where
    by : IsBehindEnd rest after → ((text ≡ h.front) × (after ≡ [])) ⊎ (text ≡ h.front ++ 10 ∷ after)
    by (inl e) = inl (h.text_is ∙ ap (λ r. h.front ++ r) e.0 ∙ append-nil h.front, e.1)
    by (inr e) = inr (h.text_is ∙ ap (λ r. h.front ++ r) e)

-- ---- their extent

greatest-push : (to : Target → ℕ) (targets : List Target) (t : Target) → greatest_by to (targets ++ t ∷ []) ≡ max (greatest_by to targets) (to t)
greatest-push to [] t = omega arith
greatest-push to (u ∷ targets) t = let rest = greatest-push to targets t in omega (arith, rest)

-- these counts are of the targets that were read
pub record AreCounted (text rest : List ℕ) (counts : Extent) : Type 0 where
  pub targets : List Target
  pub read : AreRead text rest targets
  pub extent_is : IsExtent targets counts

pub counted-none : (text : List ℕ) → AreCounted text text (record { detectors = 0; observables = 0 })
counted-none text = record { targets = []; read = read-none text; extent_is = record { detectors = refl; observables = refl } }

pub counted-one : (text rest after : List ℕ) (t : Target) (counts next : Extent) → AreCounted text rest counts → IsTargetFront rest t after → is_target_beyond t ≡ false
    → next.detectors ≡ max counts.detectors (detectors_to t) → next.observables ≡ max counts.observables (observables_to t) → AreCounted text after next
counted-one text rest after t counts next h front near detectors observables =
    record {
      targets = h.targets ++ t ∷ [];
      read = read-one text rest after t h.targets h.read front near;
      extent_is = record {
        detectors = detectors ∙ ap (λ n. max n (detectors_to t)) h.extent_is.detectors ∙ sym (greatest-push detectors_to h.targets t);
        observables = observables ∙ ap (λ n. max n (observables_to t)) h.extent_is.observables ∙ sym (greatest-push observables_to h.targets t);
      };
    }

pub counted-all : (text rest after : List ℕ) (counts : Extent) → AreCounted text rest counts → IsBehindEnd rest after → BeginsWithExtent text counts after
counted-all text rest after counts h ends = record { targets = h.targets; begins = read-all text rest after h.targets h.read ends; extent_is = h.extent_is }

-- where a line ends with a line feed
pub line-ended : (rest after : List ℕ) → ends_line rest ≡ true → 0 < length rest → after ≡ drop 1 rest → rest ≡ 10 ∷ after
line-ended [] after ends some e = absurd (omega (arith, some))
line-ended (b ∷ rest) after ends some e = let byte : b ≡ 10 = grind arith in ap₂ (λ x xs. x ∷ xs) byte (sym e)
