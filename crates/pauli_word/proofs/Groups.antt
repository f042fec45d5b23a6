-- The words of a state form a commutative group without minus the identity: at the start; after a map of words that keeps
-- length, products, what anticommutes and the identity, as an applied word is; and after a collapse, random or not.
use Rattle.std.proofs.Common.{◌≡◌, ◌⊎◌, inl, inr, ℕ, zero, suc, Bool, true, false, not, ◌&&◌, ◌||◌, cond, List, [], ◌∷◌, length, refl, ap, ap₂, sym, ◌∙◌}
use Rattle.std.proofs.lemmas.Bool.{and_parts, and_from, or_cases, or_left, or_right, or_parts, not-true, and_right}
use Rattle.std.specs.List.{list_all}
use Rattle.pauli_word.specs.declared.letter.Letter.{Letter}
use Rattle.pauli_word.specs.declared.letter.Letter.TheVariants.{I, X, Y, Z}
use Rattle.pauli_word.specs.Letters.{one, power_product, is_minus, sign_power, letter_product, letter_power, letters_clash}
use Rattle.pauli_word.specs.Parity.{exclusive_or}
use Rattle.pauli_word.specs.States.{State, is_I_or_Z, start_state, applied, is_decided, collapsed}
use Rattle.pauli_word.specs.Groups.{IsMember, IsGroup}
use Rattle.pauli_word.specs.WordMaps.{KeepsWords}
use Rattle.pauli_word.specs.Words.{Signed, signed, with_sign_changed, letters_product, letters_power, anticommute, product, no_letters}
use Rattle.pauli_word.proofs.Parities.{exclusive_or-false, exclusive_or_assoc}
use Rattle.pauli_word.proofs.LetterLaws.{letter_power_of_I, letters_clash_of_I}
use Rattle.pauli_word.proofs.WordLaws.{length-letters_product, letters_product_comm, letters_product_of_none, letters_power_of_none, letters_power_swap, anticommute_comm, anticommute_self, anticommute_of_none, anticommute-product}
use Rattle.pauli_word.proofs.SignedLaws.{product_assoc, product_comm, product_self, product_of_identity, product-sign_changed_left, product-sign_changed_right}

pub IsGroup-moved : (n : ℕ) (f : Signed → Signed) (s : State) → KeepsWords n f → IsGroup n s → IsGroup n (λ p. s (f p))
IsGroup-moved n f s keeps group =
    record {
      identity = ap s (keeps.identity false) ∙ group.identity;
      no_minus = ap s (keeps.identity true) ∙ group.no_minus;
      commuting = λ p q p_in q_in.
          sym (keeps.anticommuting p q p_in.size q_in.size)
          ∙ group.commuting (f p) (f q) (record { size = keeps.size p p_in.size; member = p_in.member }) (record { size = keeps.size q q_in.size; member = q_in.member });
      closed = λ p q p_in q_in.
          ap s (keeps.product p q p_in.size q_in.size)
          ∙ group.closed (f p) (f q) (record { size = keeps.size p p_in.size; member = p_in.member }) (record { size = keeps.size q q_in.size; member = q_in.member });
    }

-- a word applied where b changes signs alone, and keeps what makes a group
pub and-exclusive_or : (b x y : Bool) → (b && exclusive_or x y) ≡ exclusive_or (b && x) (b && y)
and-exclusive_or false x y = refl
and-exclusive_or true x y = refl

pub sign_changed_twice : (a b : Bool) (p : Signed) → with_sign_changed a (with_sign_changed b p) ≡ with_sign_changed (exclusive_or a b) p
sign_changed_twice a b p = ap (signed p.letters) (sym (exclusive_or_assoc a b p.negative))

pub applied_keeps : (n : ℕ) (b : Bool) (w : List Letter) → KeepsWords n (λ p. with_sign_changed (b && anticommute p.letters w) p)
applied_keeps n b w =
    record {
      size = λ p h. h;
      identity = λ c. ap (λ t. with_sign_changed t (signed (no_letters n) c)) (ap (λ t. b && t) (anticommute_of_none n w) ∙ and_right b false refl);
      anticommuting = λ p q h k. refl;
      product = λ p q h k.
          ap (λ t. with_sign_changed t (product p q)) (ap (λ t. b && t) (anticommute-product p.letters q.letters w (h ∙ sym k)) ∙ and-exclusive_or b (anticommute p.letters w) (anticommute q.letters w))
          ∙ sym (sign_changed_twice (b && anticommute p.letters w) (b && anticommute q.letters w) (product p q))
          ∙ ap (with_sign_changed (b && anticommute p.letters w)) (sym (product-sign_changed_right (b && anticommute q.letters w) p q))
          ∙ sym (product-sign_changed_left (b && anticommute p.letters w) p (with_sign_changed (b && anticommute q.letters w) q));
    }

pub IsGroup-applied : (n : ℕ) (b : Bool) (w : List Letter) (s : State) → IsGroup n s → IsGroup n (applied b w s)
IsGroup-applied n b w s = IsGroup-moved n (λ p. with_sign_changed (b && anticommute p.letters w) p) s (applied_keeps n b w)

-- the start

pub all_of_none : (n : ℕ) → list_all is_I_or_Z (no_letters n) ≡ true
all_of_none zero = refl
all_of_none (suc n) = all_of_none n

-- of two letters I or Z: their product is one, brings no power of i, and they don't clash
record IsDiagonal (a b : Letter) : Type 0 where
  product : is_I_or_Z (letter_product a b) ≡ true
  power : letter_power a b ≡ one
  clash : letters_clash a b ≡ false

of_I_or_Z : (a b : Letter) → is_I_or_Z a ≡ true → is_I_or_Z b ≡ true → IsDiagonal a b
of_I_or_Z I b h k = record { product = k; power = letter_power_of_I b; clash = letters_clash_of_I b }
of_I_or_Z Z I h k = record { product = refl; power = refl; clash = refl }
of_I_or_Z Z Z h k = record { product = refl; power = refl; clash = refl }
of_I_or_Z X b h k = cc
of_I_or_Z Y b h k = cc
of_I_or_Z Z X h k = cc
of_I_or_Z Z Y h k = cc

-- of words of I and Z: the product is one, brings no power of i, and they commute
record AreDiagonal (p q : List Letter) : Type 0 where
  product : list_all is_I_or_Z (letters_product p q) ≡ true
  power : letters_power p q ≡ one
  clash : anticommute p q ≡ false

diagonal : (p q : List Letter) → list_all is_I_or_Z p ≡ true → list_all is_I_or_Z q ≡ true → AreDiagonal p q
diagonal [] q h k = record { product = refl; power = refl; clash = refl }
diagonal (a ∷ p) [] h k = record { product = refl; power = refl; clash = refl }
diagonal (a ∷ p) (b ∷ q) h k =
    let first = and_parts (is_I_or_Z a) (list_all is_I_or_Z p) h in
    let second = and_parts (is_I_or_Z b) (list_all is_I_or_Z q) k in
    let rest = diagonal p q first.1 second.1 in
    let letters = of_I_or_Z a b first.0 second.0 in
    record {
      product = and_from (is_I_or_Z (letter_product a b)) (list_all is_I_or_Z (letters_product p q)) letters.product rest.product;
      power = ap₂ power_product letters.power rest.power;
      clash = ap₂ exclusive_or letters.clash rest.clash;
    }

pub IsGroup-start : (n : ℕ) → IsGroup n start_state
IsGroup-start n =
    record {
      identity = ap (λ t. t && true) (all_of_none n);
      no_minus = ap (λ t. t && false) (all_of_none n);
      commuting = λ p q p_in q_in.
          (diagonal p.letters q.letters (and_parts (list_all is_I_or_Z p.letters) (not p.negative) p_in.member).0 (and_parts (list_all is_I_or_Z q.letters) (not q.negative) q_in.member).0).clash;
      closed = λ p q p_in q_in.
          let first = and_parts (list_all is_I_or_Z p.letters) (not p.negative) p_in.member in
          let second = and_parts (list_all is_I_or_Z q.letters) (not q.negative) q_in.member in
          let both = diagonal p.letters q.letters first.0 second.0 in
          and_from (list_all is_I_or_Z (letters_product p.letters q.letters)) (not (product p q).negative) both.product
          (ap not
          (ap₂ (λ a b. exclusive_or (exclusive_or a b) (is_minus (letters_power p.letters q.letters))) (not-true p.negative first.1) (not-true q.negative second.1)
          ∙ ap is_minus both.power));
    }

-- a collapse that isn't decided

-- the words that commute with w and are in the state, themselves or times w
abbrev pub split : List Letter → Bool → State → State
split w coin s p = not (anticommute p.letters w) && (s p || s (product (signed w coin) p))

module _ (n : ℕ) (w : List Letter) (coin : Bool) (s : State) (size : length w ≡ n) (group : IsGroup n s) where
  -- w commutes with p, and p or w p is in the state
  record IsSplit (p : Signed) : Type 0 where
    length_is : length p.letters ≡ n
    commutes : anticommute w p.letters ≡ false
    side : IsMember n s p ⊎ IsMember n s (product (signed w coin) p)

  times_size : (p : Signed) → length p.letters ≡ n → length (product (signed w coin) p).letters ≡ n
  times_size p h = length-letters_product w p.letters (size ∙ sym h) ∙ size

  is_split : (p : Signed) → IsMember n (split w coin s) p → IsSplit p
  is_split p p_in =
      let parts = and_parts (not (anticommute p.letters w)) (s p || s (product (signed w coin) p)) p_in.member in
      record {
        length_is = p_in.size;
        commutes = anticommute_comm w p.letters ∙ not-true (anticommute p.letters w) parts.0;
        side = elim (or_cases (s p) (s (product (signed w coin) p)) parts.1) as (λ _. IsMember n s p ⊎ IsMember n s (product (signed w coin) p)) [
          | inl h ↦ inl (record { size = p_in.size; member = h })
          | inr h ↦ inr (record { size = times_size p p_in.size; member = h })
        ];
      }

  -- what commutes with w clashes alike with q and with w q
  stripped : (p q : Signed) → length q.letters ≡ n → anticommute w p.letters ≡ false → anticommute (letters_product w q.letters) p.letters ≡ anticommute q.letters p.letters
  stripped p q h k = anticommute-product w q.letters p.letters (size ∙ sym h) ∙ ap (λ t. exclusive_or t (anticommute q.letters p.letters)) k

  commutes_with_times : (p : Signed) → length p.letters ≡ n → anticommute w p.letters ≡ false → anticommute w (letters_product w p.letters) ≡ false
  commutes_with_times p h k =
      anticommute_comm w (letters_product w p.letters)
      ∙ (anticommute-product w p.letters w (size ∙ sym h) ∙ ap₂ exclusive_or (anticommute_self w) (anticommute_comm p.letters w ∙ k))

  split_commuting : (p q : Signed) → IsSplit p → IsSplit q → anticommute p.letters q.letters ≡ false
  split_commuting p q p_in q_in =
      elim (p_in.side) as (λ _. anticommute p.letters q.letters ≡ false) [
        | inl h ↦ elim (q_in.side) as (λ _. anticommute p.letters q.letters ≡ false) [
          | inl k ↦ group.commuting p q h k
          | inr k ↦
              anticommute_comm p.letters q.letters
              ∙ (sym (stripped p q q_in.length_is p_in.commutes)
              ∙ (anticommute_comm (letters_product w q.letters) p.letters ∙ group.commuting p (product (signed w coin) q) h k))
        ]
        | inr h ↦ elim (q_in.side) as (λ _. anticommute p.letters q.letters ≡ false) [
          | inl k ↦ sym (stripped q p p_in.length_is q_in.commutes) ∙ group.commuting (product (signed w coin) p) q h k
          | inr k ↦
              sym (stripped q p p_in.length_is q_in.commutes)
              ∙ (anticommute_comm (letters_product w p.letters) q.letters
              ∙ (sym (stripped (product (signed w coin) p) q q_in.length_is (commutes_with_times p p_in.length_is p_in.commutes))
              ∙ (anticommute_comm (letters_product w q.letters) (letters_product w p.letters)
              ∙ group.commuting (product (signed w coin) p) (product (signed w coin) q) h k)))
        ]
      ]

  -- w goes past a word that commutes with it
  past : (p q : Signed) → length p.letters ≡ n → length q.letters ≡ n → anticommute w p.letters ≡ false → anticommute w q.letters ≡ false → anticommute p.letters q.letters ≡ false → product p (product (signed w coin) q) ≡ product (signed w coin) (product p q)
  past p q h k wp wq pq =
      sym (product_assoc p (signed w coin) q (h ∙ sym size) (size ∙ sym k) (anticommute_comm p.letters w ∙ wp) wq)
      ∙ (ap (λ r. product r q) (product_comm p (signed w coin) (anticommute_comm p.letters w ∙ wp))
      ∙ product_assoc (signed w coin) p q (size ∙ sym h) (h ∙ sym k) wp pq)

  -- w twice is nothing
  twice : (p : Signed) → length p.letters ≡ n → anticommute w p.letters ≡ false → product (signed w coin) (product (signed w coin) p) ≡ p
  twice p h k =
      sym (product_assoc (signed w coin) (signed w coin) p refl (size ∙ sym h) (anticommute_self w) k)
      ∙ (ap (λ r. product r p) (product_self (signed w coin)) ∙ product_of_identity (length w) p (h ∙ sym size))

  product_size : (p q : Signed) → length p.letters ≡ n → length q.letters ≡ n → length (product p q).letters ≡ n
  product_size p q h k = length-letters_product p.letters q.letters (h ∙ sym k) ∙ h

  commutes_with_product : (p q : Signed) → length p.letters ≡ n → length q.letters ≡ n → anticommute w p.letters ≡ false → anticommute w q.letters ≡ false → anticommute (letters_product p.letters q.letters) w ≡ false
  commutes_with_product p q h k wp wq =
      anticommute-product p.letters q.letters w (h ∙ sym k)
      ∙ ap₂ exclusive_or (anticommute_comm p.letters w ∙ wp) (anticommute_comm q.letters w ∙ wq)

  -- the product is in the state, itself or times w
  product_side : (p q : Signed) → IsSplit p → IsSplit q → (s (product p q) || s (product (signed w coin) (product p q))) ≡ true
  product_side p q p_in q_in =
      let x = signed w coin in
      let pq = split_commuting p q p_in q_in in
      let both = product p q in
      elim (p_in.side) as (λ _. (s both || s (product x both)) ≡ true) [
        | inl h ↦ elim (q_in.side) as (λ _. (s both || s (product x both)) ≡ true) [
          | inl k ↦ or_left (s both) (s (product x both)) (group.closed p q h k)
          | inr k ↦
              or_right (s both) (s (product x both))
              (ap s (sym (past p q p_in.length_is q_in.length_is p_in.commutes q_in.commutes pq)) ∙ group.closed p (product x q) h k)
        ]
        | inr h ↦ elim (q_in.side) as (λ _. (s both || s (product x both)) ≡ true) [
          | inl k ↦
              or_right (s both) (s (product x both))
              (ap s (sym (product_assoc x p q (size ∙ sym p_in.length_is) (p_in.length_is ∙ sym q_in.length_is) p_in.commutes pq)) ∙ group.closed (product x p) q h k)
          | inr k ↦
              let apart : anticommute p.letters (letters_product w q.letters) ≡ false =
              anticommute_comm p.letters (letters_product w q.letters) ∙ (stripped p q q_in.length_is p_in.commutes ∙ (anticommute_comm q.letters p.letters ∙ pq)) in
              or_left (s both) (s (product x both))
              (ap s
              (sym
              (product_assoc x p (product x q) (size ∙ sym p_in.length_is) (p_in.length_is ∙ sym (times_size q q_in.length_is)) p_in.commutes apart
              ∙ (ap (product x) (past p q p_in.length_is q_in.length_is p_in.commutes q_in.commutes pq)
              ∙ twice both (product_size p q p_in.length_is q_in.length_is)
              (anticommute_comm w both.letters ∙ commutes_with_product p q p_in.length_is q_in.length_is p_in.commutes q_in.commutes))))
              ∙ group.closed (product x p) (product x q) h k)
        ]
      ]

  -- minus the identity times w is w with the other sign
  times_none : (b : Bool) → product (signed w coin) (signed (no_letters n) b) ≡ signed w (exclusive_or coin b)
  times_none b =
      ap₂ signed
      (letters_product_comm w (no_letters n) ∙ (ap (λ m. letters_product (no_letters m) w) (sym size) ∙ letters_product_of_none w))
      (ap (λ t. exclusive_or (exclusive_or coin b) (is_minus t))
      (letters_power_swap w (no_letters n)
      ∙ ap₂ (λ t u. power_product (sign_power t) u) (anticommute_comm w (no_letters n) ∙ anticommute_of_none n w) (letters_power_of_none n w))
      ∙ exclusive_or-false (exclusive_or coin b))

  not_in : (b : Bool) → is_decided s w ≡ false → s (signed w b) ≡ false
  not_in false h = (or_parts (s (signed w false)) (s (signed w true)) h).0
  not_in true h = (or_parts (s (signed w false)) (s (signed w true)) h).1

  pub IsGroup-split : is_decided s w ≡ false → IsGroup n (split w coin s)
  IsGroup-split undecided =
      record {
        identity =
            and_from (not (anticommute (no_letters n) w)) (s (signed (no_letters n) false) || s (product (signed w coin) (signed (no_letters n) false)))
            (ap not (anticommute_of_none n w)) (or_left (s (signed (no_letters n) false)) (s (product (signed w coin) (signed (no_letters n) false))) group.identity);
        no_minus =
            ap₂ (λ t u. not t && u) (anticommute_of_none n w)
            (ap₂ (λ t u. t || u) group.no_minus (ap s (times_none true) ∙ not_in (exclusive_or coin true) undecided));
        commuting = λ p q p_in q_in. split_commuting p q (is_split p p_in) (is_split q q_in);
        closed = λ p q p_in q_in.
            let first = is_split p p_in in
            let second = is_split q q_in in
            and_from (not (anticommute (product p q).letters w)) (s (product p q) || s (product (signed w coin) (product p q)))
            (ap not (commutes_with_product p q first.length_is second.length_is first.commutes second.commutes))
            (product_side p q first second);
      }

collapsed_either : (n : ℕ) (w : List Letter) (coin : Bool) (s : State) → length w ≡ n → IsGroup n s → (b : Bool) → is_decided s w ≡ b → IsGroup n (λ p. cond b (s p) (split w coin s p))
collapsed_either n w coin s size group true h = group
collapsed_either n w coin s size group false h = IsGroup-split n w coin s size group h

pub IsGroup-collapsed : (n : ℕ) (w : List Letter) (coin : Bool) (s : State) → length w ≡ n → IsGroup n s → IsGroup n (collapsed w coin s)
IsGroup-collapsed n w coin s size group = collapsed_either n w coin s size group (is_decided s w) refl
