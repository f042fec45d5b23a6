-- A word of one letter: the targets that it hits are those of one set of the letter's column. Of two letters: those that
-- are in one of their sets alone.
use Rattle.std.proofs.Common.{◌≡◌, ℕ, ◌<◌, Bool, true, false, List, [], ◌∷◌, length, map, get_or, refl, ap, ap₂, sym, ◌∙◌, arith}
use Rattle.std.specs.List.{range_with_len}
use Rattle.std.proofs.Math.Nat.{suc_inj}
use Rattle.std.proofs.lemmas.List.{get_or_default, length-map}
use Rattle.std.proofs.lemmas.List.FromFn.{fill_by_all, get_or-map-range_with_len}
use Rattle.bit_rows.specs.Rows.{xor_rows}
use Rattle.pauli_word.specs.Bits.{letter_of, letters_of}
use Rattle.pauli_word.specs.declared.letter.Letter.{Letter}
use Rattle.pauli_word.specs.declared.letter.Letter.TheVariants.{X, Y, Z}
use Rattle.pauli_word.specs.Letters.{letters_clash}
use Rattle.pauli_word.specs.Parity.{exclusive_or}
use Rattle.pauli_word.specs.Words.{anticommute, letter_at}
use Rattle.pauli_word.proofs.Parities.{exclusive_or-false}
use Rattle.step_model.specs.declared.step.Term.{Term}
use Rattle.step_model.specs.Listing.{word_of_terms}
use Rattle.step_model.specs.TargetSets.{members}
use Rattle.trackers.specs.Tracked.{anticommuting}
use Rattle.trackers.specs.private.Transposed.{tracked_of, word_at}
use Rattle.trackers.proofs.TransposedLemmas.{clash_more, clash_none, clash_rows, get_or-xor_rows, length-xor_rows, ones_are_hit}

clash_X : (c d : Bool) → d ≡ letters_clash X (letter_of c d)
clash_X false false = refl
clash_X false true = refl
clash_X true false = refl
clash_X true true = refl

clash_Z : (c d : Bool) → c ≡ letters_clash Z (letter_of c d)
clash_Z false false = refl
clash_Z false true = refl
clash_Z true false = refl
clash_Z true true = refl

pub clashes_of_X : (x z : List Bool) → length x ≡ length z → z ≡ map (letters_clash X) (letters_of x z)
clashes_of_X [] [] h = refl
clashes_of_X [] (d ∷ z) h = cc
clashes_of_X (c ∷ x) [] h = cc
clashes_of_X (c ∷ x) (d ∷ z) h = ap₂ (λ b row. b ∷ row) (clash_X c d) (clashes_of_X x z (suc_inj h))

pub clashes_of_Z : (x z : List Bool) → length x ≡ length z → x ≡ map (letters_clash Z) (letters_of x z)
clashes_of_Z [] z h = refl
clashes_of_Z (c ∷ x) [] h = cc
clashes_of_Z (c ∷ x) (d ∷ z) h = ap₂ (λ b row. b ∷ row) (clash_Z c d) (clashes_of_Z x z (suc_inj h))

clash_Y : (c d : Bool) → exclusive_or c d ≡ letters_clash Y (letter_of c d)
clash_Y false false = refl
clash_Y false true = refl
clash_Y true false = refl
clash_Y true true = refl

pub clashes_of_Y : (x z : List Bool) → length x ≡ length z → xor_rows x z ≡ map (letters_clash Y) (letters_of x z)
clashes_of_Y [] [] h = refl
clashes_of_Y [] (d ∷ z) h = cc
clashes_of_Y (c ∷ x) [] h = cc
clashes_of_Y (c ∷ x) (d ∷ z) h = ap₂ (λ b row. b ∷ row) (clash_Y c d) (clashes_of_Y x z (suc_inj h))

-- the row of the targets that one letter hits
pub lone_clash : (m : ℕ) (columns : List (List Letter)) (term : Term) (row : List Bool) → length (get_or columns term.qubit []) ≡ m → term.qubit < length columns
    → row ≡ map (letters_clash term.letter) (get_or columns term.qubit [])
    → row ≡ map (λ t. anticommute (word_at columns t) (word_of_terms (length columns) (term ∷ []))) (range_with_len 0 m)
lone_clash m columns term row long fits h =
    fill_by_all (λ t. anticommute (word_at columns t) (word_of_terms (length columns) (term ∷ []))) row m false row_long
    (λ t lt. let below : t < length column = omega (arith, lt, long) in
    let clash = letters_clash term.letter (letter_at column t) in
    ap (λ r. get_or r t false) h
    ∙ (clash_rows term.letter column t below
    ∙ (sym (exclusive_or-false clash)
    ∙ (ap (exclusive_or clash) (sym (clash_none columns t))
    ∙ clash_more columns t false term [] column (anticommute (word_at columns t) (word_of_terms (length columns) (term ∷ []))) fits refl refl))))
  where
    column : List Letter
    column = get_or columns term.qubit []

    row_long : length row ≡ m
    row_long = ap length h ∙ (length-map column (letters_clash term.letter) ∙ long)

-- the row of the targets that two letters hit
pair_clash : (m : ℕ) (columns : List (List Letter)) (first second : Term) (p q : List Bool)
    → length (get_or columns first.qubit []) ≡ m → length (get_or columns second.qubit []) ≡ m → first.qubit < length columns → second.qubit < length columns
    → p ≡ map (letters_clash first.letter) (get_or columns first.qubit []) → q ≡ map (letters_clash second.letter) (get_or columns second.qubit [])
    → xor_rows p q ≡ map (λ t. anticommute (word_at columns t) (word_of_terms (length columns) (first ∷ second ∷ []))) (range_with_len 0 m)
pair_clash m columns first second p q first_long second_long first_fits second_fits hp hq =
    fill_by_all (λ t. anticommute (word_at columns t) (word_of_terms (length columns) (first ∷ second ∷ []))) (xor_rows p q) m false (length-xor_rows p q same ∙ p_long)
    (λ t lt. let below : t < length column = omega (arith, lt, first_long) in
    get_or-xor_rows p q t same
    ∙ (ap₂ exclusive_or (ap (λ r. get_or r t false) hp ∙ clash_rows first.letter column t below)
    (ap (λ r. get_or r t false) (lone_clash m columns second q second_long second_fits hq) ∙ get_or-map-range_with_len later 0 m t t false lt (omega arith))
    ∙ clash_more columns t false first (second ∷ []) column (anticommute (word_at columns t) (word_of_terms (length columns) (first ∷ second ∷ []))) first_fits refl refl))
  where
    column : List Letter
    column = get_or columns first.qubit []

    later : ℕ → Bool
    later t = anticommute (word_at columns t) (word_of_terms (length columns) (second ∷ []))

    p_long : length p ≡ m
    p_long = ap length hp ∙ (length-map column (letters_clash first.letter) ∙ first_long)

    q_long : length q ≡ m
    q_long = ap length hq ∙ (length-map (get_or columns second.qubit []) (letters_clash second.letter) ∙ second_long)

    same : length p ≡ length q
    same = p_long ∙ sym q_long

-- the same of columns as they are read
pub pair_hit : (columns : List (List Letter)) (first second : Term) (d e u v : List Letter) (p q : List Bool) → first.qubit < length columns → second.qubit < length columns
    → length (get_or columns first.qubit []) ≡ length (get_or columns second.qubit []) → u ≡ get_or columns first.qubit d → v ≡ get_or columns second.qubit e
    → p ≡ map (letters_clash first.letter) u → q ≡ map (letters_clash second.letter) v
    → members (xor_rows p q) ≡ anticommuting (first ∷ second ∷ []) (tracked_of (length (get_or columns first.qubit [])) columns)
pair_hit columns first second d e u v p q first_fits second_fits same at_first at_second hp hq =
    let m = length (get_or columns first.qubit []) in
    ones_are_hit m columns (first ∷ second ∷ []) (xor_rows p q)
    (pair_clash m columns first second p q refl (sym same) first_fits second_fits
    (hp ∙ ap (map (letters_clash first.letter)) (at_first ∙ get_or_default columns first.qubit d [] first_fits))
    (hq ∙ ap (map (letters_clash second.letter)) (at_second ∙ get_or_default columns second.qubit e [] second_fits)))
