-- The text of arguments in parentheses is read as these arguments, where each is a word. Those of an instruction that fits are.
use Rattle.std.proofs.Common.{◌≡◌, ℕ, ◌==◌, Bool, true, false, not, ◌||◌, List, [], ◌∷◌, ◌++◌, map, length, refl, ap, ap₂, ◌∙◌, append-nil, inl, inr, arith}
use Rattle.std.specs.Prelude.{⊤}
use Rattle.std.specs.Char.{is_ascii_digit}
use Rattle.std.specs.List.{list_all, list_any, slice_split}
use Rattle.std.proofs.lemmas.Bool.{and_from, and_parts, cases_Bool, eqb-true, false≢true, not-false, or_from, or_parts}
use Rattle.stim_lexer.specs.Bytes.{after_blanks, is_close_parenthesis, is_empty}
use Rattle.stim_parser.specs.declared.forms.ArgumentForm.{ArgumentForm}
use Rattle.stim_parser.specs.declared.forms.ArgumentForm.TheVariants.{NoArguments, ProbabilityAtWill, OneProbability, WholeNumbers, Decimals, OneNumber}
use Rattle.stim_parser.specs.Arguments.{arguments_in, is_comma, trimmed}
use Rattle.stim_parser.specs.Limits.{has_wrong_arguments, has_wrong_probability, is_argument, is_probability}
use Rattle.stim_parser.specs.Coordinates.{is_decimal, is_whole_number}
use Rattle.stim_parser.specs.Numbers.{is_number, without_minus}
use Rattle.stim_parser.specs.Written.{joined_arguments, more_arguments}
use Rattle.stim_parser.proofs.AcceptedLemmas.{accepted_is_word, bytes_of_decimal}
use Rattle.stim_parser.proofs.ByteLemmas.{all-where, both_all, none-where}
use Rattle.stim_parser.proofs.CutLemmas.{slice_split-alone, slice_split-first}
use Rattle.stim_parser.proofs.LineCutLemmas.{is_plain_byte}
use Rattle.stim_parser.proofs.WordLemmas.{after_blanks-word, digits_are_word_bytes, is_word, is_word_byte, other_byte, trimmed-space, trimmed-word, word_bytes}

-- arguments that are words
abbrev pub AreWords : List (List ℕ) → Type 0
AreWords [] = ⊤
AreWords (a ∷ arguments) = (is_word a ≡ true) × AreWords arguments

-- ---- arguments that are read

pub no_comma : (a : List ℕ) → is_word a ≡ true → list_any is_comma a ≡ false
no_comma a h = none-where is_comma is_word_byte a (λ b w. other_byte 44 b refl w) (word_bytes a h)

parts_found : (x : List ℕ) (arguments : List (List ℕ)) → list_any is_comma x ≡ false → AreWords arguments → slice_split is_comma (x ++ more_arguments arguments) ≡ x ∷ map (λ a. 32 ∷ a) arguments
parts_found x [] h k = ap (slice_split is_comma) (append-nil x) ∙ slice_split-alone is_comma x h
parts_found x (a ∷ arguments) h k =
    slice_split-first is_comma x 44 (32 ∷ (a ++ more_arguments arguments)) h refl
    ∙ ap (λ ps. x ∷ ps) (parts_found (32 ∷ a) arguments (or_from (32 == 44) (list_any is_comma a) refl (no_comma a k.0)) k.1)

all_trimmed : (arguments : List (List ℕ)) → AreWords arguments → map trimmed (map (λ a. 32 ∷ a) arguments) ≡ arguments
all_trimmed [] k = refl
all_trimmed (a ∷ arguments) k = ap₂ (λ x xs. x ∷ xs) (trimmed-space a k.0) (all_trimmed arguments k.1)

word_some : (w text : List ℕ) → is_word w ≡ true → is_empty (w ++ text) ≡ false
word_some [] text h = absurd (false≢true h)
word_some (b ∷ w) text h = refl

pub arguments_read : (arguments : List (List ℕ)) → AreWords arguments → arguments_in (joined_arguments arguments) ≡ arguments
unfolding arguments_in
arguments_read [] k = refl
arguments_read (a ∷ arguments) k =
    let some : is_empty (after_blanks (a ++ more_arguments arguments)) ≡ false =
    ap is_empty (after_blanks-word a (more_arguments arguments) k.0) ∙ word_some a (more_arguments arguments) k.0 in
    rw (some, parts_found a arguments (no_comma a k.0) k.1) (ap₂ (λ x xs. x ∷ xs) (trimmed-word a k.0) (all_trimmed arguments k.1))

-- ---- their bytes

abbrev pub is_inner_byte : ℕ → Bool
is_inner_byte b = b == 32 || (b == 44 || is_word_byte b)

word_byte_is_inner : (b : ℕ) → is_word_byte b ≡ true → is_inner_byte b ≡ true
word_byte_is_inner b h = grind arith

inner_is_plain : (b : ℕ) → is_inner_byte b ≡ true → is_plain_byte b ≡ true
inner_is_plain b h = grind arith

inner_not_closing : (b : ℕ) → is_inner_byte b ≡ true → is_close_parenthesis b ≡ false
inner_not_closing b h = grind arith

inner_word : (a : List ℕ) → is_word a ≡ true → list_all is_inner_byte a ≡ true
inner_word a h = all-where is_inner_byte is_word_byte a word_byte_is_inner (word_bytes a h)

pub inner_more : (arguments : List (List ℕ)) → AreWords arguments → list_all is_inner_byte (more_arguments arguments) ≡ true
inner_more [] h = refl
inner_more (a ∷ arguments) h = both_all is_inner_byte a (more_arguments arguments) (inner_word a h.0) (inner_more arguments h.1)

pub inner_joined : (arguments : List (List ℕ)) → AreWords arguments → list_all is_inner_byte (joined_arguments arguments) ≡ true
inner_joined [] h = refl
inner_joined (a ∷ arguments) h = both_all is_inner_byte a (more_arguments arguments) (inner_word a h.0) (inner_more arguments h.1)

pub plain_joined : (arguments : List (List ℕ)) → AreWords arguments → list_all is_plain_byte (joined_arguments arguments) ≡ true
plain_joined arguments h = all-where is_plain_byte is_inner_byte (joined_arguments arguments) inner_is_plain (inner_joined arguments h)

pub no_closing : (arguments : List (List ℕ)) → AreWords arguments → list_any is_close_parenthesis (joined_arguments arguments) ≡ false
no_closing arguments h = none-where is_close_parenthesis is_inner_byte (joined_arguments arguments) inner_not_closing (inner_joined arguments h)

-- ---- arguments as they are taken

words-where : (p : List ℕ → Bool) (arguments : List (List ℕ)) → ((a : List ℕ) → p a ≡ true → is_word a ≡ true) → list_all p arguments ≡ true → AreWords arguments
words-where p [] word h = tt
words-where p (a ∷ arguments) word h =
    let parts = and_parts (p a) (list_all p arguments) h in (word a parts.0, words-where p arguments word parts.1)

number_is_word : (text : List ℕ) → is_number text ≡ true → is_word text ≡ true
number_is_word text h =
    let parts = and_parts (not (is_empty text)) (list_all is_ascii_digit text) h in
    and_from (not (is_empty text)) (list_all is_word_byte text) parts.0 (digits_are_word_bytes text parts.1)

-- a `-` in front may stand before a word
signed_is_word : (text : List ℕ) → is_empty text ≡ false → list_all is_word_byte (without_minus text) ≡ true → is_word text ≡ true
signed_is_word [] some h = absurd (false≢true (ap not some))
signed_is_word (b ∷ text) some h =
    elim (cases_Bool (b == 45)) [
      | inl minus ↦
          let here : is_word_byte b ≡ true = grind arith in
          and_from (is_word_byte b) (list_all is_word_byte text) here (rw minus at h)
      | inr other ↦ rw other at h
    ]

pub whole_is_word : (text : List ℕ) → is_whole_number text ≡ true → is_word text ≡ true
whole_is_word [] h = absurd (false≢true h)
whole_is_word (b ∷ text) h =
    signed_is_word (b ∷ text) refl (word_bytes (without_minus (b ∷ text)) (number_is_word (without_minus (b ∷ text)) h))

coordinate_is_word : (text : List ℕ) → is_decimal text ≡ true → is_word text ≡ true
coordinate_is_word [] h = absurd (false≢true h)
coordinate_is_word (b ∷ text) h = signed_is_word (b ∷ text) refl (bytes_of_decimal (without_minus (b ∷ text)) h)

none_are_words : (arguments : List (List ℕ)) → (length arguments == 0) ≡ true → AreWords arguments
none_are_words [] h = tt
none_are_words (a ∷ arguments) h = absurd (omega (arith, eqb-true (length (a ∷ arguments)) 0 h))

all_taken : (form : ArgumentForm) (arguments : List (List ℕ)) → has_wrong_arguments form arguments ≡ false → list_all (is_argument form) arguments ≡ true
unfolding has_wrong_arguments
all_taken form arguments h = not-false _ (or_parts _ _ h).1

all_probable : (arguments : List (List ℕ)) → list_all is_probability arguments ≡ true → AreWords arguments
all_probable arguments h = words-where is_probability arguments accepted_is_word h

pub arguments_are_words : (form : ArgumentForm) (arguments : List (List ℕ)) → has_wrong_arguments form arguments ≡ false → has_wrong_probability form arguments ≡ false → AreWords arguments
unfolding has_wrong_arguments has_wrong_probability
arguments_are_words NoArguments arguments h k = none_are_words arguments (not-false _ (or_parts _ _ h).0)
arguments_are_words ProbabilityAtWill arguments h k = all_probable arguments (not-false _ k)
arguments_are_words OneProbability arguments h k = all_probable arguments (not-false _ k)
arguments_are_words WholeNumbers arguments h k = words-where is_whole_number arguments whole_is_word (all_taken WholeNumbers arguments h)
arguments_are_words Decimals arguments h k = words-where is_decimal arguments coordinate_is_word (all_taken Decimals arguments h)
arguments_are_words OneNumber arguments h k = words-where is_number arguments number_is_word (all_taken OneNumber arguments h)
