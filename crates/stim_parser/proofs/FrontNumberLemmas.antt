-- The number at the front of a text is the text's first piece.
use Rattle.std.proofs.Common.{◌≡◌, ◌≢◌, ℕ, ◌-◌, ◌<◌, ◌≤◌, ◌^◌, true, false, List, [], ◌∷◌, length, take, drop, refl, ap, sym, ◌∙◌, length-take, take_all, arith}
use Rattle.std.proofs.lemmas.List.{length-drop, take-append-drop}
use Rattle.std.specs.Char.{is_ascii_digit}
use Rattle.std.specs.List.{list_all}
use Rattle.step_model.specs.Probabilities.{digits_value}
use Rattle.stim_lexer.specs.Bytes.{is_empty}
use Rattle.stim_parser.specs.Pieces.{ends_here, ends_piece, pieces_of}
use Rattle.stim_parser.specs.private.FrontNumbers.{BeginsWithNumber}
use Rattle.stim_parser.proofs.ByteLemmas.{none-where}
use Rattle.stim_parser.proofs.CutLemmas.{first_piece}
use Rattle.stim_parser.proofs.DigitLemmas.{digits_value-below, power_at_most, short_number}
use Rattle.stim_parser.proofs.WordLemmas.{digit_is_word_byte, no_end_of_piece}

some_bytes : (text : List ℕ) → 0 < length text → is_empty text ≡ false
some_bytes [] some = absurd (omega arith)
some_bytes (b ∷ text) some = refl

pub front-piece : (text : List ℕ) (n v : ℕ) → n ≢ 0 → n ≤ length text → n ≤ 18 → v ≡ digits_value (take n text) → list_all is_ascii_digit (take n text) ≡ true
    → ends_here (drop n text) ≡ true → BeginsWithNumber text v (drop n text)
front-piece text n v some within short value digits ends =
    let len : length (take n text) ≡ n = omega (arith, length-take n text) in
    let more : 0 < n = omega arith in
    record {
      piece = take n text;
      writes = short_number (take n text) v (omega arith) (omega arith) value digits;
      pieces = ap pieces_of (sym (take-append-drop n text))
          ∙ first_piece (take n text) (drop n text) (some_bytes (take n text) (omega arith))
          (none-where ends_piece is_ascii_digit (take n text) (λ b h. no_end_of_piece b (digit_is_word_byte b h)) digits)
          ends;
    }

pub rest-all : (text : List ℕ) (n : ℕ) → take (length text - n) (drop n text) ≡ drop n text
rest-all text n = take_all (length text - n) (drop n text) (omega (arith, length-drop n text))

-- numbers of few digits are small
pub front-near : (text : List ℕ) (n v : ℕ) → n ≤ 18 → v ≡ digits_value (take n text) → list_all is_ascii_digit (take n text) ≡ true → v < 2 ^ 60
front-near text n v short value digits =
    let small = digits_value-below (take n text) digits in
    let limit = power_at_most (length (take n text)) 18 (omega (arith, length-take n text)) in omega (arith, value, small, limit)
