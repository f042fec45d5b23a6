-- The rows of the start: those of the map that leaves each word as it is.
use Rattle.std.proofs.Common.{◌≡◌, ◌<◌, ℕ, List, length, refl, ap, ap₂, sym, subst, ◌∙◌, arith}
use Rattle.std.proofs.lemmas.List.FromFn.{get_or-map-range_with_len, length-map-range_with_len}
use Rattle.pauli_word.specs.Groups.{identity_word}
use Rattle.std.proofs.lemmas.List.{length-replicate}
use Rattle.pauli_word.specs.declared.letter.Letter.TheVariants.{I}
use Rattle.pauli_word.specs.States.{start_state}
use Rattle.pauli_word.specs.Words.{Signed}
use Rattle.pauli_word.specs.WordMaps.{KeepsWords}
use Rattle.tableau.specs.private.CliffordMaps.{IsClifford}
use Rattle.tableau.specs.private.Decoding.{rows_seen}
use Rattle.tableau.specs.private.Encoding.{Pair, encoded, pair_at, IsTableau, HasLength}
use Rattle.tableau.specs.private.EncodingSteps.{start_pair, start_rows}
use Rattle.tableau.specs.Rows.{row_count, HasState}
use Rattle.tableau.proofs.EncodingGates.{Encodes, encodes}
use Rattle.tableau.proofs.SeenRows.{seen_size, seen_state}

-- the identity has a letter at each qubit
pub identity_inside : (n q : ℕ) (w : Signed) → w ≡ identity_word n → q < n → q < length w.letters
identity_inside n q w is h = subst (λ m. q < m) (sym (ap (λ u. length u.letters) is ∙ length-replicate n I)) h

stays_keeps : (n : ℕ) → KeepsWords n (λ p. p)
stays_keeps n =
    record { size = λ p h. h; identity = λ b. refl; anticommuting = λ p q h k. refl; product = λ p q h k. refl }

pub stays_clifford : (n : ℕ) → IsClifford n (λ p. p)
stays_clifford n =
    record { keeps = stays_keeps n; back = λ p. p; back_keeps = stays_keeps n; left = λ p h. refl; right = λ p h. refl }

pub start_encodes : (n : ℕ) → Encodes n (start_rows n) (λ p. p)
start_encodes n =
    let at : (q : ℕ) → q < n → pair_at n (start_rows n) q ≡ start_pair n q =
    λ q h. get_or-map-range_with_len (start_pair n) 0 n q q (identity_word n, identity_word n) h (omega arith) in
    encodes n (λ p. p) (start_rows n) (stays_clifford n)
    (record { x = λ q h. ap (λ r. r.0) (at q h); z = λ q h. ap (λ r. r.1) (at q h) })
    (length-map-range_with_len (start_pair n) 0 n)

pub start_tableau : (n : ℕ) (rows : List Pair) → rows ≡ start_rows n → IsTableau (length rows) rows
start_tableau n rows whole =
    subst (λ m. IsTableau m rows) (sym (ap length whole ∙ length-map-range_with_len (start_pair n) 0 n))
    (subst (IsTableau n) (sym whole) (start_encodes n).tableau)

pub start_length : (n : ℕ) (rows : List Pair) → rows ≡ start_rows n → length rows ≡ n
start_length n rows whole = ap length whole ∙ length-map-range_with_len (start_pair n) 0 n

pub start_seen : (n : ℕ) (rows : List Pair) → rows ≡ start_rows n → HasState (rows_seen rows) start_state
start_seen n rows whole p h =
    let is = start_tableau n rows whole in
    let size = h ∙ seen_size rows is in
    seen_state rows is p size
    ∙ (ap₂ (λ m l. start_state (encoded m l p)) (start_length n rows whole) whole
    ∙ ap start_state ((start_encodes n).map p (size ∙ start_length n rows whole)))

pub start_size : (n : ℕ) (rows : List Pair) → rows ≡ start_rows n → row_count (rows_seen rows) ≡ n
start_size n rows whole = seen_size rows (start_tableau n rows whole) ∙ start_length n rows whole

pub identity_long : (n : ℕ) (rows : List Pair) → rows ≡ start_rows n → (r : Pair) → r ≡ (identity_word n, identity_word n) → HasLength (length rows) r
identity_long n rows whole r r_is =
    let count = sym (start_length n rows whole) in
    record {
      x = ap (λ t. length t.0.letters) r_is ∙ (length-replicate n I ∙ count);
      z = ap (λ t. length t.1.letters) r_is ∙ (length-replicate n I ∙ count);
    }
