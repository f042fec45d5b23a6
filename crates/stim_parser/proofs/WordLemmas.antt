-- Bytes of words: letters, digits, `.`, `+`, `-` and others that neither end a word of a text nor begin anything. Numbers, and
-- most targets, are made of them.
use Rattle.std.proofs.Common.{◌≡◌, ℕ, ◌-◌, ◌==◌, nat_lt, Bool, true, false, not, ◌||◌, ◌&&◌, List, [], ◌∷◌, ◌++◌, length, get_or, subst, refl, arith}
use Rattle.std.specs.Char.{is_ascii_digit}
use Rattle.std.specs.List.{list_all, suffix_len}
use Rattle.std.proofs.lemmas.List.{take_all}
use Rattle.std.proofs.lemmas.List.Sums.{AllPass-from_list_all, suffix_len_is}
use Rattle.std.proofs.lemmas.Bool.{and_parts, both_ways, false≢true, ne_eqb, or_from}
use Rattle.stim_lexer.specs.Bytes.{after_blanks, is_blank, is_empty}
use Rattle.stim_parser.specs.Arguments.{before_blanks, trimmed}
use Rattle.stim_parser.specs.Pieces.{ends_piece, is_star}
use Rattle.stim_parser.proofs.ByteLemmas.{all-where}

abbrev pub is_word_byte : ℕ → Bool
is_word_byte b = nat_lt 42 b && (nat_lt b 123 && not (b == 44 || b == 91 || b == 93))

abbrev pub is_word : List ℕ → Bool
is_word text = not (is_empty text) && list_all is_word_byte text

-- ---- other bytes

pub other_byte : (c b : ℕ) → is_word_byte c ≡ false → is_word_byte b ≡ true → (b == c) ≡ false
other_byte c b other h = ne_eqb b c (λ e. absurd (both_ways (is_word_byte c) other (subst (λ x. is_word_byte x ≡ true) e h)))

pub no_blank : (b : ℕ) → is_word_byte b ≡ true → is_blank b ≡ false
no_blank b h =
    let space : (b == 32) ≡ false = other_byte 32 b refl h in
    let tab : (b == 9) ≡ false = other_byte 9 b refl h in
    let return : (b == 13) ≡ false = other_byte 13 b refl h in
    rw (space, tab, return) refl

pub no_end_of_piece : (b : ℕ) → is_word_byte b ≡ true → ends_piece b ≡ false
no_end_of_piece b h = or_from (is_blank b) (is_star b) (no_blank b h) (other_byte 42 b refl h)

pub digit_is_word_byte : (b : ℕ) → is_ascii_digit b ≡ true → is_word_byte b ≡ true
digit_is_word_byte b h = grind arith

pub digits_are_word_bytes : (text : List ℕ) → list_all is_ascii_digit text ≡ true → list_all is_word_byte text ≡ true
digits_are_word_bytes text h = all-where is_word_byte is_ascii_digit text digit_is_word_byte h

-- ---- words

pub word_bytes : (text : List ℕ) → is_word text ≡ true → list_all is_word_byte text ≡ true
word_bytes text h = (and_parts (not (is_empty text)) (list_all is_word_byte text) h).1

-- blanks in front of a word, and behind it
pub after_blanks-word : (word text : List ℕ) → is_word word ≡ true → after_blanks (word ++ text) ≡ word ++ text
after_blanks-word [] text h = absurd (false≢true h)
after_blanks-word (b ∷ word) text h =
    let parts = and_parts (is_word_byte b) (list_all is_word_byte word) h in rw (no_blank b parts.0) refl

before_blanks-bytes : (text : List ℕ) → list_all is_word_byte text ≡ true → before_blanks text ≡ text
before_blanks-bytes text h =
    let none : suffix_len is_blank text ≡ length text - length text =
    suffix_len_is is_blank text (length text) 0 (omega arith) (λ k low high. absurd (omega (arith, low, high)))
    (λ some. no_blank (get_or text (length text - 1) 0) (AllPass-from_list_all is_word_byte text h (length text - 1) 0 (omega (arith, some)))) in
    take_all (length text - suffix_len is_blank text) text (omega (arith, none))

pub trimmed-word : (word : List ℕ) → is_word word ≡ true → trimmed word ≡ word
trimmed-word [] h = absurd (false≢true h)
trimmed-word (b ∷ word) h =
    let parts = and_parts (is_word_byte b) (list_all is_word_byte word) h in
    rw (no_blank b parts.0) (before_blanks-bytes (b ∷ word) h)

pub trimmed-space : (word : List ℕ) → is_word word ≡ true → trimmed (32 ∷ word) ≡ word
trimmed-space [] h = absurd (false≢true h)
trimmed-space (b ∷ word) h =
    let parts = and_parts (is_word_byte b) (list_all is_word_byte word) h in
    rw (no_blank b parts.0) (before_blanks-bytes (b ∷ word) h)
