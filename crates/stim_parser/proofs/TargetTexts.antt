-- The text of targets is read as these targets, where none is beyond its limit.
use Rattle.std.proofs.Common.{◌≡◌, ℕ, ◌+◌, ◌-◌, ◌==◌, ◌<◌, Bool, true, false, not, ◌||◌, ◌&&◌, nat_le, List, [], ◌∷◌, ◌++◌, map, length, length-append, append-nil, Some, decimal, refl, ap, sym, ◌∙◌, arith}
use Rattle.std.specs.Prelude.{⊤, slice_index, slice_range, take}
use Rattle.std.proofs.Math.Seq.{take-append-add}
use Rattle.std.specs.Int.{is_in_range}
use Rattle.std.specs.List.{list_all, list_any, position_or_len}
use Rattle.std.proofs.lemmas.Bool.{and_parts, false≢true, le-leb, ltb-false, ne_eqb, or_parts}
use Rattle.pauli_word.specs.declared.letter.Letter.TheVariants as letter
use Rattle.stim_lexer.specs.Bytes.{ends_name, is_blank, is_open_bracket, is_open_parenthesis}
use Rattle.stim_lexer.specs.Cut.{has_opening}
use Rattle.stim_parser.specs.declared.forms.TargetForm.{TargetForm}
use Rattle.stim_parser.specs.declared.forms.TargetForm.TheVariants.{Turns}
use Rattle.stim_parser.specs.declared.target.Target.{Target}
use Rattle.stim_parser.specs.declared.target.Target.TheVariants.{Plain, Inverted, Back, Pauli, Star}
use Rattle.stim_parser.specs.Circuits.{target_is_written}
use Rattle.stim_parser.specs.Limits.{has_target_beyond, is_target_beyond}
use Rattle.stim_parser.specs.Numbers.{greatest_number, greatest_qubit}
use Rattle.stim_parser.specs.Pieces.{ends_here, ends_piece, pieces_of}
use Rattle.stim_parser.specs.private.Brackets.{before_bracket}
use Rattle.stim_parser.specs.Targets.{each_of, target_of, targets_in}
use Rattle.stim_parser.specs.Written.{target_text, targets_text}
use Rattle.stim_parser.proofs.BracketLemmas.{record_parts}
use Rattle.stim_parser.proofs.ByteLemmas.{all-where, both_all, none-where}
use Rattle.stim_parser.proofs.CutLemmas.{first_piece}
use Rattle.stim_parser.proofs.LineCutLemmas.{is_plain_byte}
use Rattle.stim_parser.proofs.NumberLemmas.{decimal_is_word, number_of-decimal}
use Rattle.stim_parser.proofs.WordLemmas.{is_word, is_word_byte, word_bytes}

-- ---- numbers within their limits

abbrev pub number_in : Target → ℕ
number_in (Plain n) = n
number_in (Inverted q) = q
number_in (Back k) = k
number_in (Pauli inverted l q) = q
number_in Star = 0

abbrev pub IsBelow : Target → Type 0
IsBelow t = number_in t < 1_000_000_000_000_000_000

below : (form : TargetForm) (t : Target) → is_target_beyond form t ≡ false → IsBelow t
below Turns (Plain n) h = omega (arith, ltb-false greatest_number n h)
below form (Plain q) h = omega (arith, ltb-false greatest_qubit q h)
below form (Inverted q) h = omega (arith, ltb-false greatest_qubit q h)
below form (Back k) h = omega (arith, ltb-false greatest_number k h)
below form (Pauli inverted l q) h = omega (arith, ltb-false greatest_qubit q h)
below form Star h = omega arith

-- ---- a target that is a piece

-- neither a blank nor a star, nor a brace or `#`
abbrev is_piece_byte : ℕ → Bool
is_piece_byte b = is_in_range 33 122 b && not (b == 35 || b == 42)

piece_is_plain : (b : ℕ) → is_piece_byte b ≡ true → is_plain_byte b ≡ true
piece_is_plain b h = grind arith

piece_goes_on : (b : ℕ) → is_piece_byte b ≡ true → ends_piece b ≡ false
piece_goes_on b h = grind arith

word_is_piece : (b : ℕ) → is_word_byte b ≡ true → is_piece_byte b ≡ true
word_is_piece b h = grind arith

-- neither a blank nor an opening byte
abbrev pub begins_target : ℕ → Bool
begins_target b = not (is_blank b) && not (b == 40 || b == 91)

word_begins : (b : ℕ) → is_word_byte b ≡ true → begins_target b ≡ true
word_begins b h = grind arith

-- the first byte of a piece, and what follows it
abbrev pub BlockStart : List ℕ → Type 0
BlockStart [] = ⊥
BlockStart (b ∷ text) = begins_target b ≡ true

record IsPiece (w : List ℕ) : Type 0 where
  plain : list_all is_plain_byte w ≡ true
  begins : BlockStart w
  piece : (rest : List ℕ) → ends_here rest ≡ true → pieces_of (w ++ rest) ≡ w ∷ pieces_of rest

piece_from : (w : List ℕ) → BlockStart w → list_all is_piece_byte w ≡ true → IsPiece w
piece_from [] begins h = absurd begins
piece_from (b ∷ w) begins h =
    record {
      plain = all-where is_plain_byte is_piece_byte (b ∷ w) piece_is_plain h;
      begins = begins;
      piece = λ rest e. first_piece (b ∷ w) rest refl (none-where ends_piece is_piece_byte (b ∷ w) piece_goes_on h) e;
    }

digits_begin : (w : List ℕ) → is_word w ≡ true → BlockStart w
digits_begin [] h = absurd (false≢true h)
digits_begin (b ∷ w) h = word_begins b (and_parts (is_word_byte b) (list_all is_word_byte w) h).0

digits : (n : ℕ) → n < 1_000_000_000_000_000_000 → list_all is_piece_byte (decimal n) ≡ true
digits n h = all-where is_piece_byte is_word_byte (decimal n) word_is_piece (word_bytes (decimal n) (decimal_is_word n h))

star_piece : (rest : List ℕ) → pieces_of (42 ∷ rest) ≡ (42 ∷ []) ∷ pieces_of rest
unfolding pieces_of
star_piece rest = refl

is_piece : (t : Target) → IsBelow t → IsPiece (target_text t)
is_piece (Plain n) h = piece_from (decimal n) (digits_begin (decimal n) (decimal_is_word n h)) (digits n h)
is_piece (Inverted q) h = piece_from (33 ∷ decimal q) refl (digits q h)
is_piece (Back k) h =
    piece_from (target_text (Back k)) refl (both_all is_piece_byte (decimal k) (93 ∷ []) (digits k h) refl)
is_piece (Pauli true letter.I q) h = piece_from (target_text (Pauli true letter.I q)) refl (digits q h)
is_piece (Pauli true letter.X q) h = piece_from (target_text (Pauli true letter.X q)) refl (digits q h)
is_piece (Pauli true letter.Y q) h = piece_from (target_text (Pauli true letter.Y q)) refl (digits q h)
is_piece (Pauli true letter.Z q) h = piece_from (target_text (Pauli true letter.Z q)) refl (digits q h)
is_piece (Pauli false letter.I q) h = piece_from (target_text (Pauli false letter.I q)) refl (digits q h)
is_piece (Pauli false letter.X q) h = piece_from (target_text (Pauli false letter.X q)) refl (digits q h)
is_piece (Pauli false letter.Y q) h = piece_from (target_text (Pauli false letter.Y q)) refl (digits q h)
is_piece (Pauli false letter.Z q) h = piece_from (target_text (Pauli false letter.Z q)) refl (digits q h)
is_piece Star h = record { plain = refl; begins = refl; piece = λ rest e. star_piece rest }

-- ---- a target that is read

last-index : (ds : List ℕ) → slice_index (ds ++ 93 ∷ []) (length ds) ≡ 93
last-index [] = refl
last-index (d ∷ ds) = last-index ds

take-front : (ds : List ℕ) → slice_range (ds ++ 93 ∷ []) 0 (length ds) ≡ ds
take-front ds =
    let all : length ds - 0 ≡ length ds + 0 = omega arith in
    ap (λ n. take n (ds ++ 93 ∷ [])) all ∙ take-append-add ds (93 ∷ []) 0 ∙ append-nil ds

bracket_found : (ds : List ℕ) → before_bracket (ds ++ 93 ∷ []) ≡ Some ds
bracket_found ds =
    let one : length (ds ++ 93 ∷ []) - 1 ≡ length ds = omega (arith, length-append ds (93 ∷ [])) in
    let some : nat_le 1 (length (ds ++ 93 ∷ [])) ≡ true = le-leb 1 (length (ds ++ 93 ∷ [])) (omega (arith, length-append ds (93 ∷ []))) in
    rw (one, some, last-index ds, take-front ds) refl

not_none : (k : ℕ) → nat_le 1 k ≡ true → (k == 0) ≡ false
not_none k h = grind arith

target_read : (t : Target) → IsBelow t → target_is_written t ≡ true → target_of (target_text t) ≡ Some t
unfolding target_of
target_read (Plain n) h w = rw (number_of-decimal n h) refl
target_read (Inverted q) h w = rw (number_of-decimal q h) refl
target_read (Back k) h w = rw (record_parts (target_text (Back k)), bracket_found (decimal k), number_of-decimal k h, not_none k w) refl
target_read (Pauli true letter.I q) h w = absurd (false≢true w)
target_read (Pauli true letter.X q) h w = rw (number_of-decimal q h) refl
target_read (Pauli true letter.Y q) h w = rw (number_of-decimal q h) refl
target_read (Pauli true letter.Z q) h w = rw (number_of-decimal q h) refl
target_read (Pauli false letter.I q) h w = absurd (false≢true w)
target_read (Pauli false letter.X q) h w = rw (number_of-decimal q h) refl
target_read (Pauli false letter.Y q) h w = rw (number_of-decimal q h) refl
target_read (Pauli false letter.Z q) h w = rw (number_of-decimal q h) refl
target_read Star h w = refl

-- ---- targets

abbrev pub AreWithin : List Target → Type 0
AreWithin [] = ⊤
AreWithin (t ∷ targets) = IsBelow t × AreWithin targets

all_below : (form : TargetForm) (targets : List Target) → list_any (is_target_beyond form) targets ≡ false → AreWithin targets
all_below form [] h = tt
all_below form (t ∷ targets) h =
    let parts = or_parts (is_target_beyond form t) (list_any (is_target_beyond form) targets) h in
    (below form t parts.0, all_below form targets parts.1)

pub are_within : (form : TargetForm) (targets : List Target) → has_target_beyond form targets ≡ false → AreWithin targets
unfolding has_target_beyond
are_within form targets h = all_below form targets h

pub plain_targets : (targets : List Target) → AreWithin targets → list_all is_plain_byte (targets_text targets) ≡ true
plain_targets [] h = refl
plain_targets (t ∷ targets) h = both_all is_plain_byte (target_text t) (targets_text targets) (is_piece t h.0).plain (plain_targets targets h.1)

pub apart : (targets : List Target) → position_or_len ends_name (targets_text targets) ≡ 0
apart [] = refl
apart (t ∷ targets) = refl

pub no_opening : (c : ℕ) → begins_target c ≡ false → (w rest : List ℕ) → BlockStart w → has_opening (λ b. b == c) (32 ∷ (w ++ rest)) ≡ false
no_opening c h [] rest begins = absurd begins
no_opening c h (b ∷ w) rest begins =
    let blank : is_blank b ≡ false = grind arith in
    let other : (b == c) ≡ false = ne_eqb b c (λ e. absurd (false≢true (sym (ap begins_target e ∙ h) ∙ begins))) in
    rw (blank, other) refl

pub no_tag : (targets : List Target) → AreWithin targets → has_opening is_open_bracket (targets_text targets) ≡ false
no_tag [] h = refl
no_tag (t ∷ targets) h = no_opening 91 refl (target_text t) (targets_text targets) (is_piece t h.0).begins

pub no_parenthesis : (targets : List Target) → AreWithin targets → has_opening is_open_parenthesis (targets_text targets) ≡ false
no_parenthesis [] h = refl
no_parenthesis (t ∷ targets) h = no_opening 40 refl (target_text t) (targets_text targets) (is_piece t h.0).begins

ends_there : (targets : List Target) → ends_here (targets_text targets) ≡ true
ends_there [] = refl
ends_there (t ∷ targets) = refl

pieces_found : (targets : List Target) → AreWithin targets → pieces_of (targets_text targets) ≡ map target_text targets
unfolding pieces_of
pieces_found [] h = refl
pieces_found (t ∷ targets) h =
    (is_piece t h.0).piece (targets_text targets) (ends_there targets) ∙ ap (λ ps. target_text t ∷ ps) (pieces_found targets h.1)

each_read : (targets : List Target) → AreWithin targets → list_all target_is_written targets ≡ true → each_of target_of (map target_text targets) ≡ Some targets
each_read [] h w = refl
each_read (t ∷ targets) h w =
    let parts = and_parts (target_is_written t) (list_all target_is_written targets) w in
    rw (target_read t h.0 parts.0, each_read targets h.1 parts.1) refl

pub targets_read : (targets : List Target) → AreWithin targets → list_all target_is_written targets ≡ true → targets_in (targets_text targets) ≡ Some targets
unfolding targets_in
targets_read targets h w = ap (each_of target_of) (pieces_found targets h) ∙ each_read targets h w

-- ---- the turns of a block

-- they stand between two spaces
abbrev pub turns_text : ℕ → List ℕ
turns_text n = 32 ∷ (decimal n ++ 32 ∷ [])

pub plain_turns : (n : ℕ) → IsBelow (Plain n) → list_all is_plain_byte (turns_text n) ≡ true
plain_turns n h = both_all is_plain_byte (decimal n) (32 ∷ []) (is_piece (Plain n) h).plain refl

pub turns_begin : (n : ℕ) → IsBelow (Plain n) → BlockStart (decimal n)
turns_begin n h = (is_piece (Plain n) h).begins

turns_pieces : (n : ℕ) → IsBelow (Plain n) → pieces_of (turns_text n) ≡ decimal n ∷ []
unfolding pieces_of
turns_pieces n h = (is_piece (Plain n) h).piece (32 ∷ []) refl

pub turns_read : (n : ℕ) → IsBelow (Plain n) → targets_in (turns_text n) ≡ Some (Plain n ∷ [])
unfolding targets_in
turns_read n h = ap (each_of target_of) (turns_pieces n h) ∙ each_read (Plain n ∷ []) (h, tt) refl
