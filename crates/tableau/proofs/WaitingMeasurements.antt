-- A measurement of a letter while turns wait: of the rows as they are once these are made.
use Rattle.std.proofs.Common.{◌≡◌, ◌<◌, ◌++◌, ℕ, Bool, false, List, [], ◌∷◌, length, get_or, None, Some, ap, sym, subst, ◌∙◌}
use Rattle.std.proofs.lemmas.List.{get_or-map}
use Rattle.std.specs.Prelude.{All}
use Rattle.pauli_word.specs.declared.letter.Letter.{Letter}
use Rattle.pauli_word.specs.declared.letter.Letter.TheVariants.{Z}
use Rattle.pauli_word.specs.Words.{Signed, signed, lone_letter, letter_at, lowest_X_or_Y, product, with_sign_changed}
use Rattle.pauli_word.specs.Groups.{identity_word}
use Rattle.pauli_word.specs.States.{collapsed}
use Rattle.pauli_word.proofs.LoneLetters.{length-lone_letter}
use Rattle.pauli_word.proofs.LowestLetters.{lowest-clash}
use Rattle.tableau.specs.private.CliffordMaps.{turned}
use Rattle.tableau.specs.private.Decoding.{rows_seen}
use Rattle.tableau.specs.private.Encoding.{Pair, pair_at, word_of, encoded, HasLength, IsTableau}
use Rattle.tableau.specs.private.EncodingSteps.{lone, mapped, code_of, measured_at, after_measurement, outcome_at, TurnsAt}
use Rattle.tableau.specs.private.Waiting.{Turn, all_turned, measured_letter, kept, turned_by, AreTurns, CanTurnBy, CanTurn, IsSized, Measures}
use Rattle.tableau.specs.Rows.{Rows, row_count, state_of, HasState}
use Rattle.tableau.proofs.EncodingGates.{Encodes, mapped_encodes}
use Rattle.tableau.proofs.KeptRows.{Keeps, kept_size, lone_code, measures, outcome_owed}
use Rattle.tableau.proofs.PairWords.{pair_read, pair_size}
use Rattle.tableau.proofs.RowClashes.{turns_told}
use Rattle.tableau.proofs.Turns.{product_size}
use Rattle.tableau.proofs.WaitingLaws.{all_clifford, can_turn_more, kept_seen, mapped_more_turned, measured_alone, sized_more, turned_seen}

module _ (rows : List Pair) (old : Rows) (is : IsTableau (length rows) rows) (same : rows_seen rows ≡ old) (turns : List Turn) (are : AreTurns turns old) where
  abbrev n : ℕ
  n = length rows

  abbrev after : List Pair
  after = mapped (all_turned turns) rows

  pub count : n ≡ row_count old
  count = kept_size rows old is same

  kept_here : kept old ≡ rows
  kept_here = ap kept (sym same) ∙ kept_seen rows is

  pub sized : All (IsSized n) turns
  sized = subst (λ m. All (IsSized m) turns) (sym count) are.sized

  encodes : Encodes n after (λ p. all_turned turns (encoded n rows p))
  encodes = mapped_encodes n rows is (all_turned turns) (all_clifford n turns sized)

  pub after_count : length after ≡ n
  after_count = encodes.tableau.count

  pub after_is : IsTableau (length after) after
  after_is = subst (λ m. IsTableau m after) (sym after_count) encodes.tableau

  pub after_seen : rows_seen after ≡ turned_by turns old
  after_seen = sym (turned_seen rows is turns) ∙ ap (turned_by turns) same

  -- the pairs can be turned
  pub ready : (q : ℕ) → q < n → CanTurn q turns (pair_at n rows q)
  ready q h =
      subst (λ l. CanTurn q turns (pair_at n l q)) kept_here
      (subst (λ m. CanTurn q turns (pair_at m (kept old) q)) (sym count) (are.ready q (subst (λ m. q < m) count h)))

  pub ready_read : (q : ℕ) → q < n → (r : Pair) → r ≡ get_or rows q r → CanTurn q turns r
  ready_read q h r r_is = subst (CanTurn q turns) (sym (pair_read n rows q r h r_is)) (ready q h)

  -- a copy of a pair, turned
  pub turned_long : (q : ℕ) → q < n → (r : Pair) → r ≡ get_or rows q r → (s : Pair) → s ≡ (all_turned turns r.0, all_turned turns r.1) → HasLength n s
  turned_long q h r r_is s s_is =
      let long = pair_size rows is q r h r_is in
      let keeps = (all_clifford n turns sized).keeps in
      subst (HasLength n) (sym s_is) (record { x = keeps.size r.0 long.x; z = keeps.size r.1 long.z })

  turned_at : (q : ℕ) → q < n → (d e : Pair) → get_or after q d ≡ (all_turned turns (get_or rows q e).0, all_turned turns (get_or rows q e).1)
  turned_at q h d e = get_or-map (λ r. (all_turned turns r.0, all_turned turns r.1)) rows q e d h

  -- a letter measured at a qubit, whose pair was copied and turned
  module _ (q : ℕ) (h : q < n) (a : Letter) (coin : Bool) (r : Pair) (r_is : r ≡ get_or rows q r) (s : Pair) (s_is : s ≡ (all_turned turns r.0, all_turned turns r.1)) (m : ℕ) (m_is : m ≡ n) (code : Signed) (code_is : code ≡ with_sign_changed false (word_of m s a)) where
    abbrev w : List Letter
    w = lone_letter (row_count old) q a

    abbrev seen : Rows
    seen = turned_by turns old

    s_read : s ≡ get_or after q s
    s_read = s_is ∙ (ap (λ t. (all_turned turns t.0, all_turned turns t.1)) r_is ∙ sym (turned_at q h s r))

    w_is : lone_letter (row_count seen) q a ≡ w
    w_is = ap (λ k. lone_letter k q a) are.len

    coded : code ≡ code_of (length after) after w
    coded =
        lone_code after seen after_is after_seen q (subst (λ k. q < k) (sym after_count) h) s s_read m (m_is ∙ sym after_count) a code code_is
        ∙ ap (code_of (length after) after) w_is

    w_size : length w ≡ row_count seen
    w_size = length-lone_letter (row_count old) q a ∙ sym are.len

    pub code_size : length code.letters ≡ n
    code_size = ap (λ c. length c.letters) coded ∙ (after_is.clifford.keeps.size (signed w false) (w_size ∙ sym (kept_size after seen after_is after_seen)) ∙ after_count)

    seen_keeps : (new : List Pair) → new ≡ after_measurement (length after) code coin after → Keeps (length after) seen new (collapsed w coin (state_of seen))
    seen_keeps new new_is = measures after seen after_is after_seen w coin w_size code coded new new_is

    -- a decided outcome
    pub decided : lowest_X_or_Y code.letters ≡ None → (minus : Bool) → minus ≡ code.negative → Measures turns turns old w coin minus
    decided low minus minus_is =
        record {
          turns = are;
          outcome_is =
              outcome_owed after seen after_is after_seen w coin w_size code coded minus
              (minus_is ∙ sym (ap (λ o. outcome_at o code coin) low));
          state_is =
              subst (λ t. HasState t (collapsed w coin (state_of seen))) after_seen
              (seen_keeps after (sym (ap (λ o. measured_at (length after) o (with_sign_changed coin code) after) low))).state_is;
        }

    -- a random one
    module _ (k : ℕ) (low : lowest_X_or_Y code.letters ≡ Some k) (t : Turn) (t_is : t.0 ≡ product (lone n k Z) (with_sign_changed coin code)) (origin : t.1 ≡ record { pivot = k; qubit = q; letter = a }) where
      abbrev more : List Turn
      more = turns ++ t ∷ []

      inside : k < n
      inside = subst (λ l. k < l) code_size (lowest-clash code.letters k low).0

      pub turn_size : length t.0.letters ≡ n
      turn_size = ap (λ v. length v.letters) t_is ∙ product_size n (lone n k Z) (with_sign_changed coin code) (length-lone_letter n k Z) code_size

      turn_here : t.0 ≡ product (lone (length after) k Z) (with_sign_changed coin code)
      turn_here = t_is ∙ ap (λ l. product (lone l k Z) (with_sign_changed coin code)) (sym after_count)

      kept_more : Keeps (length after) seen (mapped (all_turned more) rows) (collapsed w coin (state_of seen))
      kept_more =
          seen_keeps (mapped (all_turned more) rows)
          (mapped_more_turned turns t rows
          ∙ (ap (λ v. mapped (turned v) after) turn_here
          ∙ sym (ap (λ o. measured_at (length after) o (with_sign_changed coin code) after) low)))

      more_seen : rows_seen (mapped (all_turned more) rows) ≡ turned_by more old
      more_seen = sym (turned_seen rows is more) ∙ ap (turned_by more) same

      can_more : (i : ℕ) → i < n → CanTurnBy i t (all_turned turns (pair_at n rows i).0, all_turned turns (pair_at n rows i).1)
      can_more i l =
          let at : pair_at n after i ≡ (all_turned turns (pair_at n rows i).0, all_turned turns (pair_at n rows i).1) =
          turned_at i l (identity_word n, identity_word n) (identity_word n, identity_word n) in
          let letter : letter_at w i ≡ measured_letter t.1 i =
          ap (λ j. letter_at (lone_letter j q a) i) (sym count) ∙ (measured_alone n i (record { pivot = k; qubit = q; letter = a }) h ∙ ap (λ o. measured_letter o i) (sym origin)) in
          let told =
          turns_told after after_is w (w_size ∙ sym (kept_size after seen after_is after_seen)) code coded k (subst (λ j. k < j) (sym after_count) inside) coin t.0 turn_here
          n (sym after_count) i (subst (λ j. i < j) (sym after_count) l) in
          record {
            inside = subst (λ j. t.1.pivot < j) (sym turn_size) (subst (λ o. o.pivot < n) (sym origin) inside);
            size = subst (HasLength (length t.0.letters)) at (subst (λ j. HasLength j (pair_at n after i)) (sym turn_size) (record { x = encodes.tableau.x_size i l; z = encodes.tableau.z_size i l }));
            clashes =
                subst (λ p. TurnsAt (measured_letter t.1 i) t.1.pivot t.0 p) at
                (subst (λ o. TurnsAt (measured_letter t.1 i) o.pivot t.0 (pair_at n after i)) (sym origin)
                (subst (λ b. TurnsAt b k t.0 (pair_at n after i)) letter told));
          }

      pub are_more : AreTurns more old
      are_more =
          record {
            sized = sized_more (row_count old) turns t are.sized (turn_size ∙ count);
            ready = λ i l.
                let here : i < n = subst (λ j. i < j) (sym count) l in
                subst (λ j. CanTurn i more (pair_at j (kept old) i)) count
                (subst (λ p. CanTurn i more (pair_at n p i)) (sym kept_here)
                (can_turn_more i turns t (pair_at n rows i) (ready i here) (can_more i here)));
            len = ap row_count (sym more_seen) ∙ (kept_more.len ∙ are.len);
          }

      pub random : Measures turns more old w coin coin
      random =
          record {
            turns = are_more;
            outcome_is =
                outcome_owed after seen after_is after_seen w coin w_size code coded coin
                (sym (ap (λ o. outcome_at o code coin) low));
            state_is = subst (λ u. HasState u (collapsed w coin (state_of seen))) more_seen kept_more.state_is;
          }
