-- A collapse of the rows kept. A collapse of w, seen through a map of words, is the collapse of the word that w becomes;
-- in the start state it is decided where that word, the code, has only I and Z.
use Rattle.std.proofs.Common.{◌≡◌, ◌<◌, ℕ, Bool, true, false, not, ◌&&◌, ◌||◌, if◌then◌else◌, List, length, Option, None, Some, refl, ap, ap₂, sym, subst, ◌∙◌}
use Rattle.std.proofs.lemmas.Bool.{or_parts}
use Rattle.std.specs.List.{list_all}
use Rattle.pauli_word.specs.declared.letter.Letter.{Letter}
use Rattle.pauli_word.specs.declared.letter.Letter.TheVariants.{Z}
use Rattle.pauli_word.specs.Letters.{letters_clash}
use Rattle.pauli_word.specs.Parity.{exclusive_or}
use Rattle.pauli_word.specs.States.{State, is_I_or_Z, start_state, is_decided, outcome, collapsed}
use Rattle.pauli_word.specs.WordMaps.{KeepsWords}
use Rattle.pauli_word.specs.Words.{Signed, signed, with_sign_changed, anticommute, product, letter_at, lowest_X_or_Y}
use Rattle.pauli_word.proofs.Groups.{IsGroup-start}
use Rattle.pauli_word.proofs.LetterLaws.{letters_clash_comm}
use Rattle.pauli_word.proofs.LoneLetters.{anticommute-lone_letter}
use Rattle.pauli_word.proofs.LowestLetters.{lowest-clash}
use Rattle.pauli_word.proofs.Parities.{exclusive_or-false}
use Rattle.tableau.specs.private.CliffordMaps.{turned}
use Rattle.tableau.specs.private.Encoding.{Pair, encoded, IsTableau}
use Rattle.tableau.specs.private.EncodingSteps.{lone, code_of, row_map, collapsed_at, measured_at, outcome_at}
use Rattle.tableau.proofs.DiagonalWords.{all_diagonal, start_diagonal, decided_diagonal, Z_in_start}
use Rattle.tableau.proofs.EncodingGates.{code_state, mapped_encodes}
use Rattle.tableau.proofs.RandomCollapse.{map_clifford, collapses}
use Rattle.tableau.proofs.RowMaps.{products_kept, kept_sign}
use Rattle.tableau.proofs.Turns.{product_size, turned_clifford, undecided, turn_collapses}

or_swapped : (a b : Bool) → (a || b) ≡ (b || a)
or_swapped false false = refl
or_swapped false true = refl
or_swapped true false = refl
or_swapped true true = refl

-- a collapse through a map
module _ (n : ℕ) (f : Signed → Signed) (keeps : KeepsWords n f) (s : State) (w : List Letter) (size : length w ≡ n) where
  abbrev x : Signed
  x = f (signed w false)

  f_signed : (b : Bool) → f (signed w b) ≡ with_sign_changed b x
  f_signed b = ap (λ t. f (signed w t)) (sym (exclusive_or-false b)) ∙ kept_sign n n f (products_kept n f keeps) b (signed w false) size

  both_signs : (b : Bool) (l : List Letter) → (s (signed l b) || s (signed l (exclusive_or true b))) ≡ (s (signed l false) || s (signed l true))
  both_signs false l = refl
  both_signs true l = or_swapped (s (signed l true)) (s (signed l false))

  pub decided_through : is_decided (λ p. s (f p)) w ≡ is_decided s x.letters
  decided_through = ap (λ t. s x || s t) (f_signed true) ∙ both_signs x.negative x.letters

  pub collapsed_through : (coin : Bool) (p : Signed) → length p.letters ≡ n → collapsed w coin (λ p. s (f p)) p ≡ collapsed x.letters (exclusive_or coin x.negative) s (f p)
  collapsed_through coin p h =
      ap₂ (λ d t. if d then s (f p) else t) decided_through
      (ap₂ (λ c t. not c && (s (f p) || s t))
      (sym (keeps.anticommuting p (signed w false) h size))
      (keeps.product (signed w coin) p size h ∙ ap (λ t. product t (f p)) (f_signed coin)))

module _ (n : ℕ) (rows : List Pair) (is : IsTableau n rows) (w : List Letter) (coin : Bool) (size : length w ≡ n) where
  abbrev P : Signed
  P = code_of n rows w

  pub P_size : length P.letters ≡ n
  P_size = is.clifford.keeps.size (signed w false) size

  -- what the collapse owes
  pub record Collapsed (o : Option ℕ) : Type 0 where
    pub tableau : IsTableau n (collapsed_at n o (with_sign_changed coin P) rows)
    pub state : (p : Signed) → length p.letters ≡ n → code_state n (collapsed_at n o (with_sign_changed coin P) rows) p ≡ collapsed w coin (code_state n rows) p
    pub result : outcome_at o P coin ≡ outcome (code_state n rows) w coin

  map_through : (p : Signed) → length p.letters ≡ n → collapsed w coin (code_state n rows) p ≡ collapsed P.letters (exclusive_or coin P.negative) start_state (encoded n rows p)
  map_through = collapsed_through n (encoded n rows) is.clifford.keeps start_state w size coin

  decided_here : is_decided (code_state n rows) w ≡ is_decided start_state P.letters
  decided_here = decided_through n (encoded n rows) is.clifford.keeps start_state w size

  minus_code : encoded n rows (signed w true) ≡ with_sign_changed true P
  minus_code = f_signed n (encoded n rows) is.clifford.keeps start_state w size true

  decided_outcome : list_all is_I_or_Z P.letters ≡ true → P.negative ≡ outcome (code_state n rows) w coin
  decided_outcome all =
      sym
      (ap₂ (λ s t. if s then false else (if t then true else coin))
      (start_diagonal P.letters P.negative all)
      (ap start_state minus_code ∙ start_diagonal P.letters (exclusive_or true P.negative) all)
      ∙ chosen P.negative)
    where
      chosen : (b : Bool) → (if not b then false else (if not (exclusive_or true b) then true else coin)) ≡ b
      chosen false = refl
      chosen true = refl

  undecided_outcome : is_decided (code_state n rows) w ≡ false → coin ≡ outcome (code_state n rows) w coin
  undecided_outcome h =
      let parts = or_parts (code_state n rows (signed w false)) (code_state n rows (signed w true)) h in
      sym (ap₂ (λ s t. if s then false else (if t then true else coin)) parts.0 parts.1)

  module _ (k : ℕ) (e : lowest_X_or_Y P.letters ≡ Some k) where
    pub low : (k < n) × (letters_clash (letter_at P.letters k) Z ≡ true)
    low = let l = lowest-clash P.letters k e in (subst (λ m. k < m) P_size l.0, l.1)

    pub random_undecided : is_decided (code_state n rows) w ≡ false
    random_undecided =
        decided_here
        ∙ undecided n start_state (IsGroup-start n) (lone n k Z) (Z_in_start n k) P.letters P_size
        (anticommute-lone_letter n P.letters k Z P_size low.0 ∙ (letters_clash_comm Z (letter_at P.letters k) ∙ low.1))

  pub decided_here_by : lowest_X_or_Y P.letters ≡ None → is_decided (code_state n rows) w ≡ true
  decided_here_by e = decided_here ∙ decided_diagonal P.letters (all_diagonal P.letters e)

  pub collapse_by : (o : Option ℕ) → lowest_X_or_Y P.letters ≡ o → Collapsed o
  collapse_by None e =
      record {
        tableau = is;
        state = λ p h. sym (ap (λ t. if t then code_state n rows p else not (anticommute p.letters w) && (code_state n rows p || code_state n rows (product (signed w coin) p))) (decided_here_by e));
        result = decided_outcome (all_diagonal P.letters e);
      }
  collapse_by (Some k) e =
      let at = low k e in
      let c = exclusive_or coin P.negative in
      let encodes = mapped_encodes n rows is (row_map n k (with_sign_changed coin P)) (map_clifford n k P.letters c P_size at.0 at.1) in
      record {
        tableau = encodes.tableau;
        state = λ p h.
            ap start_state (encodes.map p h)
            ∙ (collapses n k P.letters c P_size at.0 at.1 (encoded n rows p) (is.clifford.keeps.size p h) ∙ sym (map_through p h));
        result = undecided_outcome (random_undecided k e);
      }

  pub collapse_is : Collapsed (lowest_X_or_Y P.letters)
  collapse_is = collapse_by (lowest_X_or_Y P.letters) refl

  -- what a measurement owes of the rows, which are turned by Z at k times the code
  pub record Measured (o : Option ℕ) : Type 0 where
    pub tableau : IsTableau n (measured_at n o (with_sign_changed coin P) rows)
    pub state : (p : Signed) → length p.letters ≡ n → code_state n (measured_at n o (with_sign_changed coin P) rows) p ≡ collapsed w coin (code_state n rows) p

  measure_by : (o : Option ℕ) → lowest_X_or_Y P.letters ≡ o → Measured o
  measure_by None e = let as_before = collapse_by None e in record { tableau = as_before.tableau; state = as_before.state }
  measure_by (Some k) e =
      let at = low k e in
      let u = lone n k Z in
      let u_in = Z_in_start n k in
      let c = exclusive_or coin P.negative in
      let turn = product u (with_sign_changed coin P) in
      let apart : anticommute u.letters P.letters ≡ true =
      anticommute-lone_letter n P.letters k Z P_size at.0 ∙ (letters_clash_comm Z (letter_at P.letters k) ∙ at.1) in
      let encodes = mapped_encodes n rows is (turned turn) (turned_clifford n turn (product_size n u (with_sign_changed coin P) u_in.size P_size)) in
      record {
        tableau = encodes.tableau;
        state = λ p h.
            ap start_state (encodes.map p h)
            ∙ (turn_collapses n start_state (IsGroup-start n) u u_in P.letters P_size apart c (encoded n rows p) (is.clifford.keeps.size p h) ∙ sym (map_through p h));
      }

  pub measure_is : Measured (lowest_X_or_Y P.letters)
  measure_is = measure_by (lowest_X_or_Y P.letters) refl
