-- What a call owes of the rows seen, from what it made of the rows kept.
use Rattle.std.proofs.Common.{◌≡◌, ◌<◌, ℕ, Bool, true, false, List, length, get_or, Option, None, Some, ap, ap₂, sym, subst, ◌∙◌}
use Rattle.std.specs.Prelude.{IfSome}
use Rattle.pauli_word.specs.declared.letter.Letter.{Letter}
use Rattle.pauli_word.specs.declared.letter.Letter.TheVariants.{X, Z}
use Rattle.pauli_word.specs.Letters.{letters_clash}
use Rattle.pauli_word.specs.States.{State, start_state, outcome, collapsed}
use Rattle.pauli_word.specs.Words.{Signed, signed, with_sign_changed, anticommute, lone_letter, letter_at, lowest_X_or_Y}
use Rattle.pauli_word.proofs.LetterLaws.{letters_clash_comm}
use Rattle.pauli_word.proofs.LoneLetters.{length-lone_letter, anticommute-lone_letter}
use Rattle.pauli_word.proofs.WordLaws.{anticommute_comm}
use Rattle.tableau.specs.private.Decoding.{decoded, rows_seen}
use Rattle.tableau.specs.private.Encoding.{Pair, word_of, encoded, IsTableau, HasLength}
use Rattle.tableau.specs.private.EncodingSteps.{lone, mapped, code_of, row_map, collapsed_at, after_collapse, after_measurement, outcome_of}
use Rattle.tableau.specs.Rows.{Rows, row_count, stabilizer_at, destabilizer_at, state_of, HasState, IsReplaceable, NamesRandom, IsCollapsed}
use Rattle.tableau.proofs.DecodingLaws.{decoded_size, encode_decode, decode_encode}
use Rattle.tableau.proofs.DiagonalWords.{Z_in_start}
use Rattle.tableau.proofs.EncodingCollapse.{collapse_is, measure_is, decided_here_by, random_undecided, low, P_size}
use Rattle.tableau.proofs.EncodingGates.{code_state, Encodes, mapped_encodes}
use Rattle.tableau.proofs.PairWords.{pair_read}
use Rattle.tableau.proofs.RowMaps.{row_encoded}
use Rattle.tableau.proofs.RandomCollapse.{map_clifford, replaced}
use Rattle.tableau.proofs.SeenRows.{seen_size, seen_state, seen_stabilizer, seen_destabilizer, same_decided, same_outcome, same_collapsed}

-- what n rows, of which these were seen, owe when they became new rows with this state
pub record Keeps (n : ℕ) (old : Rows) (new : List Pair) (state : State) : Type 0 where
  pub tableau : IsTableau (length new) new
  pub long : (r : Pair) → HasLength n r → HasLength (length new) r
  pub len : row_count (rows_seen new) ≡ row_count old
  pub state_is : HasState (rows_seen new) state

-- and what they owe after a collapse of w that saw this outcome, and named this row
pub record Collapses (n : ℕ) (old : Rows) (new : List Pair) (w : List Letter) (coin seen : Bool) (row : Option ℕ) : Type 0 where
  pub keeps : Keeps n old new (collapsed w coin (state_of old))
  pub owed : IsCollapsed old (rows_seen new) w coin seen row

module _ (rows : List Pair) (old : Rows) (is : IsTableau (length rows) rows) (same : rows_seen rows ≡ old) where
  abbrev n : ℕ
  n = length rows

  pub kept_size : n ≡ row_count old
  kept_size = sym (seen_size rows is) ∙ ap row_count same

  pub inside : (q : ℕ) → q < row_count old → q < n
  inside q h = subst (λ m. q < m) (sym kept_size) h

  pub agree : (p : Signed) → length p.letters ≡ n → state_of old p ≡ code_state n rows p
  agree p h = ap (λ o. state_of o p) (sym same) ∙ seen_state rows is p h

  pub destabilizer_letters : (k : ℕ) → k < n → (destabilizer_at old k).letters ≡ (decoded n rows (lone n k X)).letters
  destabilizer_letters k h = ap (λ o. (destabilizer_at o k).letters) (sym same) ∙ ap (λ w. w.letters) (seen_destabilizer rows is k h)

  pub stabilizer_letters : (k : ℕ) → k < n → (stabilizer_at old k).letters ≡ (decoded n rows (lone n k Z)).letters
  stabilizer_letters k h = ap (λ o. (stabilizer_at o k).letters) (sym same) ∙ ap (λ w. w.letters) (seen_stabilizer rows is k h)

  -- the code of a letter at a qubit is its pair's word
  pub lone_code : (q : ℕ) → q < n → (r : Pair) → r ≡ get_or rows q r → (m : ℕ) → m ≡ n → (a : Letter) → (code : Signed) → code ≡ with_sign_changed false (word_of m r a) → code ≡ code_of n rows (lone_letter (row_count old) q a)
  lone_code q h r r_is m m_is a code code_is =
      code_is
      ∙ (ap₂ (λ k t. word_of k t a) m_is (pair_read n rows q r h r_is)
      ∙ (sym (row_encoded n rows is q a h) ∙ ap (λ k. code_of n rows (lone_letter k q a)) kept_size))

  -- a letter's word and its code, as they were made of as many letters as there are rows kept
  pub lone_word : (q : ℕ) (a : Letter) (word : Signed) → word ≡ lone n q a → word.letters ≡ lone_letter (row_count old) q a
  lone_word q a word word_is = ap (λ w. w.letters) word_is ∙ ap (λ k. lone_letter k q a) kept_size

  pub lone_coded : (q : ℕ) (a : Letter) (word code : Signed) → word ≡ lone n q a → code ≡ code_of n rows word.letters → code ≡ code_of n rows (lone_letter (row_count old) q a)
  lone_coded q a word code word_is code_is = code_is ∙ ap (code_of n rows) (lone_word q a word word_is)

  -- new rows kept
  module _ (new : List Pair) (new_is : IsTableau n new) where
    new_tableau : IsTableau (length new) new
    new_tableau = subst (λ m. IsTableau m new) (sym new_is.count) new_is

    still_long : (r : Pair) → HasLength n r → HasLength (length new) r
    still_long r h = subst (λ m. HasLength m r) (sym new_is.count) h

    new_count : row_count (rows_seen new) ≡ row_count old
    new_count = seen_size new new_tableau ∙ (new_is.count ∙ kept_size)

    size_there : (p : Signed) → length p.letters ≡ row_count (rows_seen new) → length p.letters ≡ n
    size_there p h = h ∙ (seen_size new new_tableau ∙ new_is.count)

    state_there : (p : Signed) → length p.letters ≡ row_count (rows_seen new) → state_of (rows_seen new) p ≡ code_state n new p
    state_there p h = seen_state new new_tableau p (h ∙ seen_size new new_tableau) ∙ ap (λ m. start_state (encoded m new p)) new_is.count

    moved_state : (c : Signed → Signed) → ((p : Signed) → length p.letters ≡ n → length (c p).letters ≡ n) → ((p : Signed) → length p.letters ≡ n → encoded n new p ≡ encoded n rows (c p)) → HasState (rows_seen new) (λ p. state_of old (c p))
    moved_state c c_size encodes p h =
        let size = size_there p h in
        state_there p h ∙ (ap start_state (encodes p size) ∙ sym (agree (c p) (c_size p size)))

    state_known : (s : State) → ((p : Signed) → length p.letters ≡ n → code_state n new p ≡ s p) → HasState (rows_seen new) s
    state_known s known p h = state_there p h ∙ known p (size_there p h)

  -- a collapse of w
  module _ (w : List Letter) (coin : Bool) (sized : length w ≡ row_count old) (code : Signed) (code_is : code ≡ code_of n rows w) where
    abbrev P : Signed
    P = code_of n rows w

    size : length w ≡ n
    size = sized ∙ sym kept_size

    module _ (k : ℕ) (e : lowest_X_or_Y P.letters ≡ Some k) where
      at : (k < n) × (letters_clash (letter_at P.letters k) Z ≡ true)
      at = low n rows is w coin size k e

      abbrev S : Signed
      S = decoded n rows (lone n k Z)

      S_size : length S.letters ≡ n
      S_size = decoded_size n rows is (lone n k Z) (length-lone_letter n k Z)

      S_code : encoded n rows S ≡ lone n k Z
      S_code = encode_decode n rows is (lone n k Z) (length-lone_letter n k Z)

      row_is : stabilizer_at old k ≡ S
      row_is = ap (λ o. stabilizer_at o k) (sym same) ∙ seen_stabilizer rows is k at.0

      P_long : length P.letters ≡ n
      P_long = P_size n rows is w coin size

      -- the row's stabilizer is in the state, and anticommutes with w
      replaceable_row : IsReplaceable old w k
      replaceable_row =
          record {
            inside = subst (λ m. k < m) kept_size at.0;
            random = same_decided n (state_of old) (code_state n rows) agree w size ∙ random_undecided n rows is w coin size k e;
            was_in_state = ap (state_of old) row_is ∙ (agree S S_size ∙ (ap start_state S_code ∙ (Z_in_start n k).member));
            anticommuted =
                ap (λ u. anticommute w u.letters) row_is
                ∙ (sym (is.clifford.keeps.anticommuting (signed w false) S size S_size)
                ∙ (ap (λ u. anticommute P.letters u.letters) S_code
                ∙ (anticommute_comm P.letters (lone_letter n k Z)
                ∙ (anticommute-lone_letter n P.letters k Z P_long at.0 ∙ (letters_clash_comm Z (letter_at P.letters k) ∙ at.1)))));
          }

    here : (row : Option ℕ) → row ≡ lowest_X_or_Y code.letters → lowest_X_or_Y P.letters ≡ row
    here row e = sym (e ∙ ap (λ c. lowest_X_or_Y c.letters) code_is)

    -- the row that a random collapse would replace
    pub named : (row : Option ℕ) → row ≡ lowest_X_or_Y code.letters → NamesRandom old w row
    named None e = same_decided n (state_of old) (code_state n rows) agree w size ∙ decided_here_by n rows is w coin size (here None e)
    named (Some k) e = replaceable_row k (here (Some k) e)

    pub outcome_owed : (b : Bool) → b ≡ outcome_of code coin → b ≡ outcome (state_of old) w coin
    outcome_owed b e =
        e
        ∙ (ap (λ c. outcome_of c coin) code_is
        ∙ ((collapse_is n rows is w coin size).result ∙ sym (same_outcome n (state_of old) (code_state n rows) agree w size coin)))

    module _ (new : List Pair) (new_is : new ≡ after_collapse n code coin rows) where
      new_here : new ≡ after_collapse n P coin rows
      new_here = new_is ∙ ap (λ c. after_collapse n c coin rows) code_is

      collapsed_tableau : IsTableau n new
      collapsed_tableau = subst (IsTableau n) (sym new_here) (collapse_is n rows is w coin size).tableau

      collapsed_state : HasState (rows_seen new) (collapsed w coin (state_of old))
      collapsed_state =
          state_known new collapsed_tableau (collapsed w coin (state_of old))
          (λ p h.
          ap (λ l. code_state n l p) new_here
          ∙ ((collapse_is n rows is w coin size).state p h
          ∙ sym (same_collapsed n (state_of old) (code_state n rows) agree w size coin p h)))

      module _ (k : ℕ) (e : lowest_X_or_Y P.letters ≡ Some k) where
        abbrev turn : Signed → Signed
        turn = row_map n k (with_sign_changed coin P)

        turned : new ≡ mapped turn rows
        turned = new_here ∙ ap (λ o. collapsed_at n o (with_sign_changed coin P) rows) e

        S_code_after : encoded n new (S k e) ≡ lone n k X
        S_code_after =
            ap (λ l. encoded n l (S k e)) turned
            ∙ ((mapped_encodes n rows is turn (map_clifford n k P.letters (with_sign_changed coin P).negative (P_long k e) (at k e).0 (at k e).1)).map (S k e) (S_size k e)
            ∙ (ap turn (S_code k e) ∙ replaced n k P.letters (with_sign_changed coin P).negative (P_long k e) (at k e).0 (at k e).1))

        new_row_is : destabilizer_at (rows_seen new) k ≡ (S k e)
        new_row_is =
            let new_tableau = new_tableau new collapsed_tableau in
            let count = collapsed_tableau.count in
            seen_destabilizer new new_tableau k (subst (λ m. k < m) (sym count) (at k e).0)
            ∙ (ap (λ m. decoded m new (lone m k X)) count
            ∙ (ap (decoded n new) (sym S_code_after) ∙ decode_encode n new collapsed_tableau (S k e) (S_size k e)))

        becomes : (destabilizer_at (rows_seen new) k).letters ≡ (stabilizer_at old k).letters
        becomes = ap (λ u. u.letters) (new_row_is ∙ sym (row_is k e))

      becomes_owed : (row : Option ℕ) → row ≡ lowest_X_or_Y code.letters → IfSome row (λ k. (destabilizer_at (rows_seen new) k).letters ≡ (stabilizer_at old k).letters)
      becomes_owed None e = tt
      becomes_owed (Some k) e = becomes k (here (Some k) e)

      pub collapses : (seen : Bool) → seen ≡ outcome_of code coin → (row : Option ℕ) → row ≡ lowest_X_or_Y code.letters → Collapses n old new w coin seen row
      collapses seen seen_is row row_is =
          let keeps : Keeps n old new (collapsed w coin (state_of old)) =
          record { tableau = new_tableau new collapsed_tableau; long = still_long new collapsed_tableau; len = new_count new collapsed_tableau; state_is = collapsed_state } in
          record {
            keeps = keeps;
            owed = record {
              len = keeps.len;
              outcome_is = outcome_owed seen seen_is;
              state_is = keeps.state_is;
              named = named row row_is;
              becomes_destabilizer = becomes_owed row row_is;
            };
          }

    -- the same where the rows are turned, and no word is kept as a destabilizer
    module _ (new : List Pair) (new_is : new ≡ after_measurement n code coin rows) where
      turned_here : new ≡ after_measurement n P coin rows
      turned_here = new_is ∙ ap (λ c. after_measurement n c coin rows) code_is

      pub measures : Keeps n old new (collapsed w coin (state_of old))
      measures =
          let measured = measure_is n rows is w coin size in
          let tableau : IsTableau n new = subst (IsTableau n) (sym turned_here) measured.tableau in
          record {
            tableau = new_tableau new tableau;
            long = still_long new tableau;
            len = new_count new tableau;
            state_is =
                state_known new tableau (collapsed w coin (state_of old))
                (λ p h.
                ap (λ l. code_state n l p) turned_here
                ∙ (measured.state p h ∙ sym (same_collapsed n (state_of old) (code_state n rows) agree w size coin p h)));
          }

  -- gates and words, whose rows encode by the map before after the step's map
  pub moves : (new later : List Pair) (c : Signed → Signed) → ((p : Signed) → length p.letters ≡ n → length (c p).letters ≡ n) → Encodes n later (λ p. encoded n rows (c p)) → new ≡ later → Keeps n old new (λ p. state_of old (c p))
  moves new later c c_size encodes new_is =
      let here : Encodes n new (λ p. encoded n rows (c p)) = subst (λ l. Encodes n l (λ p. encoded n rows (c p))) (sym new_is) encodes in
      record {
        tableau = new_tableau new here.tableau;
        long = still_long new here.tableau;
        len = new_count new here.tableau;
        state_is = moved_state new here.tableau c c_size here.map;
      }
