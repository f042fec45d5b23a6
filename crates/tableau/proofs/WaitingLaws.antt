-- Turns made one after another, and what they make of the rows seen.
use Rattle.std.proofs.Common.{◌≡◌, ◌<◌, ◌++◌, inl, inr, ℕ, zero, suc, if◌then◌else◌, List, [], ◌∷◌, length, map, refl, ap, ap₂, sym, subst, ◌∙◌, arith, get_or-set_same}
use Rattle.std.proofs.lemmas.Bool.{cases_Bool, eqb-true, eqb-false}
use Rattle.std.proofs.lemmas.List.{ext_get_or, length-replicate}
use Rattle.std.specs.Prelude.{All, eqb}
use Rattle.pauli_word.specs.declared.letter.Letter.TheVariants.{I, X, Z}
use Rattle.pauli_word.specs.Words.{Signed, no_letters, lone_letter, letter_at}
use Rattle.pauli_word.specs.Groups.{identity_word}
use Rattle.pauli_word.specs.States.{State}
use Rattle.pauli_word.proofs.LoneLetters.{length-lone_letter}
use Rattle.tableau.specs.private.CliffordMaps.{IsClifford, turned}
use Rattle.tableau.specs.private.Decoding.{decoded_pairs, rows_seen}
use Rattle.tableau.specs.private.Encoding.{Pair, pair_at, IsTableau}
use Rattle.tableau.specs.private.EncodingSteps.{lone, mapped}
use Rattle.tableau.specs.private.Waiting.{Turn, all_turned, kept, measured_letter, pairs_of, turned_by, awaited, CanTurnBy, CanTurn, IsSized, Waits}
use Rattle.tableau.specs.Rows.{Rows, row_count, state_of, HasState}
use Rattle.tableau.specs.declared.waiting_turns.Origin.{Origin}
use Rattle.tableau.proofs.DecodingLaws.{seen_at, seen_count, seen_encodes}
use Rattle.tableau.proofs.LoneWords.{letter_elsewhere}
use Rattle.tableau.proofs.RowMaps.{clifford_after, row_encoded}
use Rattle.tableau.proofs.SeenRows.{seen_size, decoded_seen}
use Rattle.tableau.proofs.StartLaws.{stays_clifford}
use Rattle.tableau.proofs.Turns.{turned_clifford}

-- one turn more
pub all_turned_more : (turns : List Turn) (t : Turn) (v : Signed) → all_turned (turns ++ t ∷ []) v ≡ turned t.0 (all_turned turns v)
all_turned_more [] t v = refl
all_turned_more (s ∷ turns) t v = all_turned_more turns t (turned s.0 v)

pub can_turn_more : (q : ℕ) (turns : List Turn) (t : Turn) (r : Pair) → CanTurn q turns r → CanTurnBy q t (all_turned turns r.0, all_turned turns r.1) → CanTurn q (turns ++ t ∷ []) r
can_turn_more q [] t r can more = (more, tt)
can_turn_more q (s ∷ turns) t r can more = (can.0, can_turn_more q turns t (turned s.0 r.0, turned s.0 r.1) can.1 more)

pub sized_more : (n : ℕ) (turns : List Turn) (t : Turn) → All (IsSized n) turns → IsSized n t → All (IsSized n) (turns ++ t ∷ [])
sized_more n [] t sized more zero d h = more
sized_more n [] t sized more (suc k) d h = absurd (omega arith)
sized_more n (s ∷ turns) t sized more zero d h = sized zero d (omega arith)
sized_more n (s ∷ turns) t sized more (suc k) d h = sized_more n turns t (λ j e l. sized (suc j) e (omega arith)) more k d (omega arith)

pub all_clifford : (n : ℕ) (turns : List Turn) → All (IsSized n) turns → IsClifford n (all_turned turns)
all_clifford n [] sized = stays_clifford n
all_clifford n (t ∷ turns) sized =
    clifford_after n (all_turned turns) (turned t.0) (all_clifford n turns (λ j e l. sized (suc j) e (omega arith)))
    (turned_clifford n t.0 (sized zero t (omega arith)))

mapped_by_none : (rows : List Pair) → mapped (λ v. v) rows ≡ rows
mapped_by_none [] = refl
mapped_by_none (r ∷ rows) = ap (λ l. r ∷ l) (mapped_by_none rows)

paired : (pairs : List Pair) → pairs_of (map (λ r. r.0) pairs) (map (λ r. r.1) pairs) ≡ pairs
paired [] = refl
paired (r ∷ pairs) = ap (λ l. r ∷ l) (paired pairs)

module _ (rows : List Pair) (is : IsTableau (length rows) rows) where
  abbrev n : ℕ
  n = length rows

  abbrev pairs : List Pair
  pairs = decoded_pairs n rows

  twice_at : (q : ℕ) → q < n → pair_at n (decoded_pairs n pairs) q ≡ pair_at n rows q
  twice_at q h =
      seen_at n pairs (seen_encodes n rows is).tableau q h
      ∙ ap₂ (λ x z. (x, z))
      (decoded_seen rows is (lone n q X) (length-lone_letter n q X) ∙ row_encoded n rows is q X h)
      (decoded_seen rows is (lone n q Z) (length-lone_letter n q Z) ∙ row_encoded n rows is q Z h)

  -- the rows kept are known from those seen
  pub kept_seen : kept (rows_seen rows) ≡ rows
  kept_seen =
      let count : length (decoded_pairs n pairs) ≡ n = seen_count n pairs (seen_encodes n rows is).tableau in
      ap₂ decoded_pairs (seen_size rows is) (paired pairs)
      ∙ ext_get_or (identity_word n, identity_word n) (decoded_pairs n pairs) rows count (λ q h. twice_at q (subst (λ m. q < m) count h))

-- what is seen once turns are made, of rows seen
pub turned_seen : (rows : List Pair) → IsTableau (length rows) rows → (turns : List Turn) → turned_by turns (rows_seen rows) ≡ rows_seen (mapped (all_turned turns) rows)
turned_seen rows is [] = ap rows_seen (sym (mapped_by_none rows))
turned_seen rows is (t ∷ turns) = ap (λ l. rows_seen (mapped (all_turned (t ∷ turns)) l)) (kept_seen rows is)

mapped_twice : (c d : Signed → Signed) (rows : List Pair) → mapped c (mapped d rows) ≡ mapped (λ v. c (d v)) rows
mapped_twice c d [] = refl
mapped_twice c d (r ∷ rows) = ap (λ l. (c (d r.0), c (d r.1)) ∷ l) (mapped_twice c d rows)

mapped_alike : (c d : Signed → Signed) → ((v : Signed) → c v ≡ d v) → (rows : List Pair) → mapped c rows ≡ mapped d rows
mapped_alike c d e [] = refl
mapped_alike c d e (r ∷ rows) = ap₂ (λ p l. p ∷ l) (ap₂ (λ x z. (x, z)) (e r.0) (e r.1)) (mapped_alike c d e rows)

pub mapped_more_turned : (turns : List Turn) (t : Turn) (rows : List Pair) → mapped (all_turned (turns ++ t ∷ [])) rows ≡ mapped (turned t.0) (mapped (all_turned turns) rows)
mapped_more_turned turns t rows =
    mapped_alike (all_turned (turns ++ t ∷ [])) (λ v. turned t.0 (all_turned turns v)) (all_turned_more turns t) rows
    ∙ sym (mapped_twice (turned t.0) (all_turned turns) rows)

-- the letter measured, of a word of one letter
pub measured_alone : (m q : ℕ) (o : Origin) → o.qubit < m → letter_at (lone_letter m o.qubit o.letter) q ≡ measured_letter o q
measured_alone m q o h = elim (cases_Bool (eqb q o.qubit)) [
  | inl e ↦ ap (λ i. letter_at (lone_letter m o.qubit o.letter) i) (eqb-true q o.qubit e)
      ∙ (get_or-set_same (no_letters m) o.qubit o.letter I (subst (λ k. o.qubit < k) (sym (length-replicate m I)) h)
      ∙ ap (λ b. if b then o.letter else I) (sym e))
  | inr e ↦ letter_elsewhere m o.qubit q o.letter (eqb-false q o.qubit e) ∙ ap (λ b. if b then o.letter else I) (sym e)
]

-- where no turn waits
pub none_yet : (new : Rows) (turns : List Turn) → All (IsSized (row_count new)) turns → Waits new turns 0
none_yet new turns sized =
    record { room = omega arith; sized = sized; ready = record { sized = λ k d h. absurd (omega arith); ready = λ q h. tt; len = refl } }

-- once no turn waits any more
pub none_waits : (rows new : Rows) (turns : List Turn) (before now : ℕ) → Waits rows turns before → now ≡ 0 → row_count new ≡ row_count (awaited rows turns before) → Waits new turns now
none_waits rows new turns before now is none len =
    subst (Waits new turns) (sym none) (none_yet new turns (subst (λ n. All (IsSized n) turns) (sym (len ∙ is.ready.len)) is.sized))

pub none_awaited : (rows : Rows) (turns : List Turn) (now : ℕ) → now ≡ 0 → awaited rows turns now ≡ rows
none_awaited rows turns now none = ap (awaited rows turns) none

-- a state made of that before
pub state_settled : (f : State → State) (settled new before : Rows) (turns : List Turn) (now : ℕ) → settled ≡ before → now ≡ 0 → HasState new (f (state_of settled)) → HasState (awaited new turns now) (f (state_of before))
state_settled f settled new before turns now settled_is none state =
    subst (λ r. HasState r (f (state_of before))) (sym (none_awaited new turns now none)) (subst (λ r. HasState new (f (state_of r))) settled_is state)
