-- The first factors of a product, one more each time.
use Rattle.std.proofs.Common.{◌≡◌, ◌≢◌, ◌+◌, ◌-◌, ◌<◌, ◌≤◌, ◌⊎◌, ⊎_elim, ℕ, zero, suc, List, [], ◌∷◌, length, take, drop, ap, sym, subst, ◌∙◌, arith}
use Rattle.std.specs.Prelude.{All}
use Rattle.std.proofs.lemmas.List.Elements.{All-nil, All-cons, All-head, All-tail}
use Rattle.pauli_word.specs.declared.letter.Letter.{Letter}
use Rattle.tableau.specs.private.Factors.{NameNone}

abbrev pub Factor : Type 0
Factor = ℕ × Letter

next : (count : ℕ) → count + 1 ≡ suc count
next count = omega arith

none_there : (P : Type 0) (factor : Factor) (rest : List Factor) → [] ≡ factor ∷ rest → P
none_there P factor rest e = absurd (omega (arith, ap length e))

drop_next : (count : ℕ) (all rest : List Factor) (factor : Factor) → drop count all ≡ factor ∷ rest → drop (suc count) all ≡ rest
drop_next zero [] rest factor e = none_there ([] ≡ rest) factor rest e
drop_next zero (f ∷ all) rest factor e = cc
drop_next (suc count) [] rest factor e = none_there ([] ≡ rest) factor rest e
drop_next (suc count) (f ∷ all) rest factor e = drop_next count all rest factor e

-- behind one more the rest is left
pub rest_left : (count : ℕ) (all rest : List Factor) (factor : Factor) → drop count all ≡ factor ∷ rest → drop (count + 1) all ≡ rest
rest_left count all rest factor e = ap (λ k. drop k all) (next count) ∙ drop_next count all rest factor e

module _ (P : Factor → Type 0) where
  all_next : (count : ℕ) (all rest : List Factor) (factor : Factor) → drop count all ≡ factor ∷ rest → All P (take count all) → P factor → All P (take (suc count) all)
  all_next zero [] rest factor e before here = All-nil P
  all_next zero (f ∷ all) rest factor e before here =
      let same : factor ≡ f = cc in
      All-cons P f [] (subst P same here) (All-nil P)
  all_next (suc count) [] rest factor e before here = All-nil P
  all_next (suc count) (f ∷ all) rest factor e before here =
      All-cons P f (take (suc count) all) (All-head P f (take count all) before) (all_next count all rest factor e (All-tail P f (take count all) before) here)

  all_parts : (count : ℕ) (all rest : List Factor) (factor : Factor) → drop count all ≡ factor ∷ rest → All P (take (suc count) all) → All P (take count all) × P factor
  all_parts zero [] rest factor e whole = none_there (All P [] × P factor) factor rest e
  all_parts zero (f ∷ all) rest factor e whole =
      let same : f ≡ factor = cc in
      (All-nil P, subst P same (All-head P f [] whole))
  all_parts (suc count) [] rest factor e whole = none_there (All P [] × P factor) factor rest e
  all_parts (suc count) (f ∷ all) rest factor e whole =
      let parts : All P (take count all) × P factor = all_parts count all rest factor e (All-tail P f (take (suc count) all) whole) in
      (All-cons P f (take count all) (All-head P f (take (suc count) all) whole) parts.0, parts.1)

  -- what holds of the first factors and of the next one holds of one more, and the other way round
  pub holds_more : (count : ℕ) (all rest : List Factor) (factor : Factor) → drop count all ≡ factor ∷ rest → All P (take count all) → P factor → All P (take (count + 1) all)
  holds_more count all rest factor e before here = subst (λ k. All P (take k all)) (sym (next count)) (all_next count all rest factor e before here)

  pub held_before : (count : ℕ) (all rest : List Factor) (factor : Factor) → drop count all ≡ factor ∷ rest → All P (take (count + 1) all) → All P (take count all) × P factor
  held_before count all rest factor e whole = all_parts count all rest factor e (subst (λ k. All P (take k all)) (next count) whole)

-- none of the first ones from a place on is at a qubit, if the first of those left isn't, or is no more one of them, and none behind
-- it is
pub none_on : (qubit count place : ℕ) (left rest : List Factor) (factor : Factor) → left ≡ factor ∷ rest → (place < count × factor.0 ≢ qubit) ⊎ (count ≤ place)
    → NameNone qubit (take (count - (place + 1)) rest) → NameNone qubit (take (count - place) left)
none_on qubit count place left rest factor first here none = ⊎_elim
    (λ (w : place < count × factor.0 ≢ qubit).
    let more : suc (count - (place + 1)) ≡ count - place = omega (arith, w.0) in
    subst (λ l. NameNone qubit (take (count - place) l)) (sym first)
    (subst (λ k. NameNone qubit (take k (factor ∷ rest))) more (All-cons (λ (f : Factor). f.0 ≢ qubit) factor (take (count - (place + 1)) rest) w.1 none)))
    (λ (past : count ≤ place).
    let over : 0 ≡ count - place = omega (arith, past) in
    subst (λ k. NameNone qubit (take k left)) over (All-nil (λ (f : Factor). f.0 ≢ qubit)))
    here
