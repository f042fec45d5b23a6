-- What a measurement makes of the list of turns: the next turn is set behind those that wait.
use Rattle.std.proofs.Common.{◌≡◌, ◌<◌, ◌+◌, ◌++◌, ℕ, zero, suc, Bool, List, [], ◌∷◌, length, set, take, refl, ap, ap₂, sym, subst, ◌∙◌, arith, add-one, length-set, length-append}
use Rattle.std.proofs.Math.Nat.{suc_inj}
use Rattle.std.specs.Prelude.{All}
use Rattle.pauli_word.specs.declared.letter.Letter.{Letter}
use Rattle.pauli_word.specs.States.{collapsed, outcome}
use Rattle.pauli_word.specs.Words.{lone_letter}
use Rattle.tableau.specs.private.Waiting.{Turn, awaited, turned_by, AreTurns, IsSized, Waits}
use Rattle.tableau.specs.Rows.{Rows, row_count, state_of, HasState}
use Rattle.tableau.proofs.ControlledRows.{written_back}

front_more : (made rest : List Turn) (t : Turn) (w : ℕ) → length made ≡ w → 0 < length rest → take (suc w) (made ++ set rest 0 t) ≡ made ++ t ∷ []
front_more [] [] t w len some = absurd (omega arith)
front_more [] (r ∷ rest) t zero len some = refl
front_more [] (r ∷ rest) t (suc w) len some = cc
front_more (m ∷ made) rest t zero len some = cc
front_more (m ∷ made) rest t (suc w) len some = ap (λ l. m ∷ l) (front_more made rest t w (suc_inj len) some)

sized_set : (n : ℕ) (made rest : List Turn) (t : Turn) → All (IsSized n) (made ++ rest) → IsSized n t → All (IsSized n) (made ++ set rest 0 t)
sized_set n [] [] t sized more k d h = absurd (omega arith)
sized_set n [] (r ∷ rest) t sized more zero d h = more
sized_set n [] (r ∷ rest) t sized more (suc k) d h = sized (suc k) d h
sized_set n (m ∷ made) rest t sized more zero d h = sized zero d (omega arith)
sized_set n (m ∷ made) rest t sized more (suc k) d h = sized_set n made rest t (λ j e l. sized (suc j) e (omega arith)) more k d (omega arith)

module _ (rows now : Rows) (same : now ≡ rows) (turns made rest : List Turn) (w : ℕ) (waits : Waits rows turns w) (split : made ++ rest ≡ turns) (front : length made ≡ w) (some : 0 < length rest) (t : Turn) (t_size : IsSized (row_count rows) t) where
  abbrev put : List Turn
  put = made ++ set rest 0 t

  put_sized : All (IsSized (row_count now)) put
  put_sized =
      subst (λ r. All (IsSized (row_count r)) put) (sym same)
      (sized_set (row_count rows) made rest t (subst (All (IsSized (row_count rows))) (sym split) waits.sized) t_size)

  put_length : length put ≡ w + length rest
  put_length = length-append made (set rest 0 t) ∙ (ap (λ k. k + length (set rest 0 t)) front ∙ ap (λ k. w + k) (length-set rest 0 t))

  made_is : made ≡ take w turns
  made_is = sym (written_back made rest w front) ∙ ap (take w) split

  pub awaited_made : turned_by made rows ≡ awaited rows turns w
  awaited_made = ap (λ l. turned_by l rows) made_is

  -- no turn more waits
  pub waits_still : AreTurns made rows → Waits now put w
  waits_still are =
      record {
        room = omega (arith, put_length);
        sized = put_sized;
        ready = subst (λ r. AreTurns (take w put) r) (sym same) (subst (λ l. AreTurns l rows) (sym (written_back made (set rest 0 t) w front)) are);
      }

  pub awaited_still : awaited now put w ≡ awaited rows turns w
  awaited_still = ap (λ r. awaited r put w) same ∙ (ap (λ l. turned_by l rows) (written_back made (set rest 0 t) w front) ∙ awaited_made)

  -- one more does
  more_is : take (w + 1) put ≡ made ++ t ∷ []
  more_is = ap (λ k. take k put) (add-one w) ∙ front_more made rest t w front some

  pub waits_more : AreTurns (made ++ t ∷ []) rows → Waits now put (w + 1)
  waits_more are =
      record {
        room = omega (arith, put_length, some);
        sized = put_sized;
        ready = subst (λ r. AreTurns (take (w + 1) put) r) (sym same) (subst (λ l. AreTurns l rows) (sym more_is) are);
      }

  pub awaited_more : awaited now put (w + 1) ≡ turned_by (made ++ t ∷ []) rows
  awaited_more = ap (λ r. awaited r put (w + 1)) same ∙ ap (λ l. turned_by l rows) more_is

-- what is owed of rows, of equal ones
pub state_carried : (n m q : ℕ) (a : Letter) (coin : Bool) (old before new now : Rows) → n ≡ m → old ≡ before → now ≡ new → HasState new (collapsed (lone_letter n q a) coin (state_of old)) → HasState now (collapsed (lone_letter m q a) coin (state_of before))
state_carried n m q a coin old before new now size old_is now_is state =
    subst (λ k. HasState now (collapsed (lone_letter k q a) coin (state_of before))) size
    (subst (λ r. HasState now (collapsed (lone_letter n q a) coin (state_of r))) old_is
    (subst (λ r. HasState r (collapsed (lone_letter n q a) coin (state_of old))) (sym now_is) state))

pub outcome_carried : (n m q : ℕ) (a : Letter) (coin seen : Bool) (old before : Rows) → n ≡ m → old ≡ before → seen ≡ outcome (state_of old) (lone_letter n q a) coin → seen ≡ outcome (state_of before) (lone_letter m q a) coin
outcome_carried n m q a coin seen old before size old_is is = is ∙ ap₂ (λ r k. outcome (state_of r) (lone_letter k q a) coin) old_is size
