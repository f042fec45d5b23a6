-- A letter whose code, a word of the rows kept, has only I and Z: its outcome is the sign, and the state stays.
use Rattle.std.proofs.Common.{◌≡◌, ◌<◌, ℕ, Bool, false, List, length, Option, None, Some, get_or, refl, ap, sym, subst, ◌∙◌}
use Rattle.std.specs.Prelude.{IfSome}
use Rattle.pauli_word.specs.declared.letter.Letter.{Letter}
use Rattle.pauli_word.specs.declared.letter.Letter.TheVariants.{X, Z}
use Rattle.pauli_word.specs.Words.{Signed, with_sign_changed, lone_letter}
use Rattle.pauli_word.proofs.LoneLetters.{length-lone_letter}
use Rattle.tableau.specs.private.Decoding.{rows_seen}
use Rattle.tableau.specs.private.Encoding.{Pair, word_of, IsTableau}
use Rattle.tableau.specs.private.EncodingSteps.{after_collapse, code_of, collapsed_at, outcome_at, IsDiagonal}
use Rattle.tableau.specs.Rows.{Rows, row_count, IsCollapsed}
use Rattle.tableau.proofs.KeptRows.{Collapses, lone_code, collapses}

module _ (rows : List Pair) (old : Rows) (is : IsTableau (length rows) rows) (same : rows_seen rows ≡ old) (q : ℕ) (h : q < length rows) (r : Pair) (r_is : r ≡ get_or rows q r) (a : Letter) (coin minus : Bool) (diagonal : IsDiagonal (word_of (length rows) r a) minus) where
  abbrev w : List Letter
  w = lone_letter (row_count old) q a

  abbrev code : Signed
  code = with_sign_changed false (word_of (length rows) r a)

  code_is : code ≡ code_of (length rows) rows w
  code_is = lone_code rows old is same q h r r_is (length rows) refl a code refl

  stays : rows ≡ after_collapse (length rows) code coin rows
  stays = sym (ap (λ o. collapsed_at (length rows) o (with_sign_changed coin code) rows) diagonal.lowest)

  -- what the collapse owes, whose rows stay
  pub seen : Collapses (length rows) old rows w coin minus None
  seen =
      collapses rows old is same w coin (length-lone_letter (row_count old) q a) code code_is rows stays minus
      (diagonal.sign ∙ sym (ap (λ o. outcome_at o code coin) diagonal.lowest)) None (sym diagonal.lowest)

-- a pair's own words, as those of letters
pub sign_of_X : (o : Option Bool) (r : Pair) (a : Letter) → a ≡ X → IfSome o (IsDiagonal r.0) → IfSome o (λ minus. (n : ℕ) → IsDiagonal (word_of n r a) minus)
sign_of_X None r a e is = tt
sign_of_X (Some minus) r a e is = λ n. subst (λ b. IsDiagonal (word_of n r b) minus) (sym e) is

pub sign_of_Z : (o : Option Bool) (r : Pair) (a : Letter) → a ≡ Z → IfSome o (IsDiagonal r.1) → IfSome o (λ minus. (n : ℕ) → IsDiagonal (word_of n r a) minus)
sign_of_Z None r a e is = tt
sign_of_Z (Some minus) r a e is = λ n. subst (λ b. IsDiagonal (word_of n r b) minus) (sym e) is

-- what is owed by any coin, where a sign was seen
pub seen_owed : (rows : List Pair) (old : Rows) (is : IsTableau (length rows) rows) (same : rows_seen rows ≡ old) (q : ℕ) (h : q < length rows) (r : Pair) (r_is : r ≡ get_or rows q r) (a : Letter) (o : Option Bool) → IfSome o (λ minus. (n : ℕ) → IsDiagonal (word_of n r a) minus) → IfSome o (λ minus. (coin : Bool) → IsCollapsed old old (lone_letter (row_count old) q a) coin minus None)
seen_owed rows old is same q h r r_is a None diagonal = tt
seen_owed rows old is same q h r r_is a (Some minus) diagonal = λ coin.
    subst (λ new. IsCollapsed old new (lone_letter (row_count old) q a) coin minus None) same
    (seen rows old is same q h r r_is a coin minus (diagonal (length rows))).owed
