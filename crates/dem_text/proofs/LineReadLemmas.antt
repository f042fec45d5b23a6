-- The line of an instruction that fits is read as that instruction.
use Rattle.std.proofs.Common.{◌≡◌, ℕ, ◌<◌, true, false, List, [], ◌∷◌, ◌++◌, map, Some, decimal, refl, ap, ◌∙◌, arith}
use Rattle.std.specs.List.{list_any}
use Rattle.std.proofs.lemmas.Bool.{false≢true, ltb-false, or_parts}
use Rattle.stim_lexer.specs.Texts.{Accepts}
use Rattle.stim_parser.specs.Judging.{judged, reading_of, refusal_of}
use Rattle.stim_parser.specs.Numbers.{greatest_number}
use Rattle.stim_parser.specs.Pieces.{ends_here, ends_piece, pieces_of}
use Rattle.stim_parser.specs.Targets.{each_of}
use Rattle.stim_parser.specs.declared.table.Keyword.TheVariants.{Does}
use Rattle.dem_text.specs.declared.operation.Operation.{Operation}
use Rattle.dem_text.specs.declared.operation.Operation.TheVariants.{PauliError, DetectorDeclaration, ObservableInclude, Shifts}
use Rattle.dem_text.specs.declared.target.Target.{Target}
use Rattle.dem_text.specs.declared.target.Target.TheVariants.{Plain, Detector, Observable, Separator}
use Rattle.dem_text.specs.Fitting.{Fits}
use Rattle.dem_text.specs.Instructions.{keyword_named}
use Rattle.dem_text.specs.Limits.{has_target_beyond, is_target_beyond}
use Rattle.dem_text.specs.Targets.{target_of, targets_in}
use Rattle.dem_text.specs.Verdicts.{model_table}
use Rattle.stim_parser.proofs.ArgumentTexts.{AreWords, arguments_read}
use Rattle.stim_parser.proofs.ByteLemmas.{none-where}
use Rattle.stim_parser.proofs.CutLemmas.{first_piece}
use Rattle.stim_parser.proofs.NumberLemmas.{decimal_is_word, number_of-decimal}
use Rattle.stim_parser.proofs.WordLemmas.{is_word, is_word_byte, no_end_of_piece, word_bytes}
use Rattle.dem_text.proofs.InstructionTexts.{instruction, name_text, target_word, target_words}
use Rattle.dem_text.proofs.LineCutLemmas.{AreTargetWords, line_cut}

-- ---- targets

word_piece : (w rest : List ℕ) → is_word w ≡ true → ends_here rest ≡ true → pieces_of (w ++ rest) ≡ w ∷ pieces_of rest
word_piece [] rest h e = absurd (false≢true h)
word_piece (b ∷ w) rest h e = first_piece (b ∷ w) rest refl (none-where ends_piece is_word_byte (b ∷ w) no_end_of_piece (word_bytes (b ∷ w) h)) e

words_end : (targets : List Target) → ends_here (target_words targets) ≡ true
words_end [] = refl
words_end (t ∷ targets) = refl

pieces_found : (targets : List Target) → AreTargetWords targets → pieces_of (target_words targets) ≡ map target_word targets
unfolding pieces_of
pieces_found [] k = refl
pieces_found (t ∷ targets) k =
    word_piece (target_word t) (target_words targets) k.0 (words_end targets) ∙ ap (λ ps. target_word t ∷ ps) (pieces_found targets k.1)

detector_below : (d : ℕ) → is_target_beyond (Detector d) ≡ false → d < 1_000_000_000_000_000_000
detector_below d h = omega (arith, ltb-false 999_999 d h)

observable_below : (k : ℕ) → is_target_beyond (Observable k) ≡ false → k < 1_000_000_000_000_000_000
observable_below k h = omega (arith, ltb-false 1023 k h)

number_below : (n : ℕ) → is_target_beyond (Plain n) ≡ false → n < 1_000_000_000_000_000_000
number_below n h = omega (arith, ltb-false greatest_number n h)

target_read : (t : Target) → is_target_beyond t ≡ false → target_of (target_word t) ≡ Some t
unfolding target_of
target_read (Plain n) h = rw (number_of-decimal n (number_below n h)) refl
target_read (Detector d) h = rw (number_of-decimal d (detector_below d h)) refl
target_read (Observable k) h = rw (number_of-decimal k (observable_below k h)) refl
target_read Separator h = refl

target_is_word : (t : Target) → is_target_beyond t ≡ false → is_word (target_word t) ≡ true
target_is_word (Plain n) h = decimal_is_word n (number_below n h)
target_is_word (Detector d) h = word_bytes (decimal d) (decimal_is_word d (detector_below d h))
target_is_word (Observable k) h = word_bytes (decimal k) (decimal_is_word k (observable_below k h))
target_is_word Separator h = refl

all_are_words : (targets : List Target) → list_any is_target_beyond targets ≡ false → AreTargetWords targets
all_are_words [] h = tt
all_are_words (t ∷ targets) h =
    let parts = or_parts (is_target_beyond t) (list_any is_target_beyond targets) h in
    (target_is_word t parts.0, all_are_words targets parts.1)

each_read : (targets : List Target) → list_any is_target_beyond targets ≡ false → each_of target_of (map target_word targets) ≡ Some targets
each_read [] h = refl
each_read (t ∷ targets) h =
    let parts = or_parts (is_target_beyond t) (list_any is_target_beyond targets) h in
    rw (target_read t parts.0, each_read targets parts.1) refl

pub targets_are_words : (targets : List Target) → has_target_beyond targets ≡ false → AreTargetWords targets
unfolding has_target_beyond
targets_are_words targets h = all_are_words targets h

targets_read : (targets : List Target) → has_target_beyond targets ≡ false → targets_in (target_words targets) ≡ Some targets
unfolding targets_in has_target_beyond
targets_read targets h = ap (each_of target_of) (pieces_found targets (all_are_words targets h)) ∙ each_read targets h

-- ---- the line

keyword_found : (o : Operation) → keyword_named (name_text o) ≡ Some (Does o)
unfolding keyword_named
keyword_found PauliError = refl
keyword_found DetectorDeclaration = refl
keyword_found ObservableInclude = refl
keyword_found Shifts = refl

pub reading_found : (number : ℕ) (o : Operation) (arguments : List (List ℕ)) (targets : List Target) → AreWords arguments → Fits (instruction number o arguments targets)
    → reading_of model_table 0 number (line_cut o arguments targets) ≡ Accepts (instruction number o arguments targets)
unfolding reading_of judged refusal_of
reading_found number o arguments targets words fits =
    let count = fits.arguments in
    let probability = fits.probability in
    let coordinates = fits.arguments_within in
    let form = fits.targets in
    let within = fits.targets_within in
    rw (keyword_found o, arguments_read arguments words, targets_read targets within, count, probability, coordinates, form, within) refl
