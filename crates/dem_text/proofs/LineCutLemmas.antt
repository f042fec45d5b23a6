-- The line of an instruction is cut into what it was put together from.
use Rattle.std.proofs.Common.{◌≡◌, ℕ, Bool, true, false, List, [], ◌∷◌, ◌++◌, refl, append_assoc, subst, sym, arith}
use Rattle.std.specs.Prelude.{⊤}
use Rattle.std.specs.List.{list_all, position_or_len}
use Rattle.std.proofs.lemmas.Bool.{and_parts, false≢true}
use Rattle.stim_lexer.specs.declared.line.Braces.TheVariants.{NoBrace}
use Rattle.stim_lexer.specs.Bytes.{ends_name, is_open_bracket, is_open_parenthesis}
use Rattle.stim_lexer.specs.Cut.{Cut, has_opening}
use Rattle.stim_parser.specs.Written.{joined_arguments}
use Rattle.stim_parser.proofs.ArgumentTexts.{AreWords, no_closing, plain_joined}
use Rattle.stim_parser.proofs.ByteLemmas.{all-where, both_all}
use Rattle.stim_parser.proofs.LineCutLemmas.{IsCut, IsName, arguments_cut, is_plain_byte, targets_cut}
use Rattle.stim_parser.proofs.WordLemmas.{is_word, is_word_byte, no_blank, other_byte, word_bytes}
use Rattle.dem_text.specs.declared.operation.Operation.{Operation}
use Rattle.dem_text.specs.declared.operation.Operation.TheVariants.{PauliError, DetectorDeclaration, ObservableInclude, Shifts}
use Rattle.dem_text.specs.declared.target.Target.{Target}
use Rattle.dem_text.proofs.InstructionTexts.{instruction_line, name_text, target_word, target_words}

-- targets that are words
abbrev pub AreTargetWords : List Target → Type 0
AreTargetWords [] = ⊤
AreTargetWords (t ∷ targets) = (is_word (target_word t) ≡ true) × AreTargetWords targets

-- ---- plain texts

word_byte_is_plain : (b : ℕ) → is_word_byte b ≡ true → is_plain_byte b ≡ true
word_byte_is_plain b h = grind arith

plain_word : (w : List ℕ) → is_word w ≡ true → list_all is_plain_byte w ≡ true
plain_word w h = all-where is_plain_byte is_word_byte w word_byte_is_plain (word_bytes w h)

plain_targets : (targets : List Target) → AreTargetWords targets → list_all is_plain_byte (target_words targets) ≡ true
plain_targets [] h = refl
plain_targets (t ∷ targets) h = both_all is_plain_byte (target_word t) (target_words targets) (plain_word (target_word t) h.0) (plain_targets targets h.1)

-- ---- names, and targets behind them

is_name : (o : Operation) → IsName (name_text o)
is_name PauliError = (refl, refl)
is_name DetectorDeclaration = (refl, refl)
is_name ObservableInclude = (refl, refl)
is_name Shifts = (refl, refl)

apart : (targets : List Target) → position_or_len ends_name (target_words targets) ≡ 0
apart [] = refl
apart (t ∷ targets) = refl

none_opens : (opening : ℕ → Bool) → ((b : ℕ) → is_word_byte b ≡ true → opening b ≡ false) → (targets : List Target) → AreTargetWords targets → has_opening opening (target_words targets) ≡ false
none_opens opening other [] k = refl
none_opens opening other (t ∷ targets) k = by (target_word t) k.0
  where
    by : (w : List ℕ) → is_word w ≡ true → has_opening opening (32 ∷ (w ++ target_words targets)) ≡ false
    by [] h = absurd (false≢true h)
    by (b ∷ w) h =
        let first = (and_parts (is_word_byte b) (list_all is_word_byte w) h).0 in rw (no_blank b first) (other b first)

-- ---- the line

abbrev pub line_cut : Operation → List (List ℕ) → List Target → Cut
line_cut o arguments targets =
    record {
      name = name_text o;
      stays_open = false;
      arguments = joined_arguments arguments;
      targets = target_words targets;
      braces = NoBrace;
    }

pub line_is_cut : (o : Operation) (arguments : List (List ℕ)) (targets : List Target) → AreWords arguments → AreTargetWords targets
    → IsCut (instruction_line o arguments targets) (line_cut o arguments targets)
line_is_cut o [] targets h k =
    targets_cut (name_text o) (target_words targets) (is_name o) (plain_targets targets k) (apart targets)
    (none_opens is_open_bracket (λ b w. other_byte 91 b refl w) targets k)
    (none_opens is_open_parenthesis (λ b w. other_byte 40 b refl w) targets k)
line_is_cut o (a ∷ arguments) targets h k =
    subst (λ text. IsCut (name_text o ++ 40 ∷ text) (line_cut o (a ∷ arguments) targets))
    (sym (append_assoc (joined_arguments (a ∷ arguments)) (41 ∷ []) (target_words targets)))
    (arguments_cut (name_text o) (joined_arguments (a ∷ arguments)) (target_words targets) (is_name o) (plain_joined (a ∷ arguments) h) (no_closing (a ∷ arguments) h) (plain_targets targets k))
