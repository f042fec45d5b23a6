-- The turn by a word keeps words and can be undone. A random collapse of a state turns it by the product of a word that
-- was in it, and anticommuted with the word measured, and that word: so says `turn_collapses`, of any state whose words
-- form a group.
use Rattle.std.proofs.Common.{◌≡◌, inl, inr, ℕ, Bool, true, false, not, ◌&&◌, ◌||◌, if◌then◌else◌, List, length, refl, ap, ap₂, sym, ◌∙◌}
use Rattle.std.proofs.lemmas.Bool.{cases_Bool}
use Rattle.pauli_word.specs.declared.letter.Letter.{Letter}
use Rattle.pauli_word.specs.Parity.{exclusive_or}
use Rattle.pauli_word.specs.Words.{Signed, anticommute, product, no_letters, signed, with_sign_changed}
use Rattle.pauli_word.proofs.Parities.{exclusive_or-false, exclusive_or_assoc}
use Rattle.pauli_word.proofs.WordLaws.{length-letters_product, anticommute_comm, anticommute_self, anticommute_of_none, anticommute-product}
use Rattle.pauli_word.proofs.SignedLaws.{product_comm, product_self, product_of_identity, product-sign_changed_right}
use Rattle.pauli_word.specs.States.{State, is_decided, collapsed}
use Rattle.pauli_word.specs.Groups.{IsMember, IsGroup, identity_word}
use Rattle.pauli_word.specs.WordMaps.{KeepsWords}
use Rattle.tableau.specs.private.CliffordMaps.{IsClifford, turned}
use Rattle.tableau.proofs.SignedAlgebra.{product_regrouped, product_swapped}

and_false : (b : Bool) → (b && false) ≡ false
and_false false = refl
and_false true = refl

and_true : (b : Bool) → (b && true) ≡ b
and_true false = refl
and_true true = refl

twice_true : (b : Bool) → exclusive_or true (exclusive_or true b) ≡ b
twice_true false = refl
twice_true true = refl

pub changed_back : (p : Signed) → with_sign_changed true (with_sign_changed true p) ≡ p
changed_back p = ap (signed p.letters) (twice_true p.negative)

abbrev pub clash : Signed → Signed → Bool
clash p q = anticommute p.letters q.letters

pub clash_comm : (p q : Signed) → clash p q ≡ clash q p
clash_comm p q = anticommute_comm p.letters q.letters

abbrev pub turned_if : Bool → Signed → Signed → Signed
turned_if b m v = if b then product v m else v

module _ (n : ℕ) where
  pub product_size : (p q : Signed) → length p.letters ≡ n → length q.letters ≡ n → length (product p q).letters ≡ n
  product_size p q h k = length-letters_product p.letters q.letters (h ∙ sym k) ∙ h

  pub clash_left : (p q r : Signed) → length p.letters ≡ n → length q.letters ≡ n → clash (product p q) r ≡ exclusive_or (clash p r) (clash q r)
  clash_left p q r h k = anticommute-product p.letters q.letters r.letters (h ∙ sym k)

  pub clash_right : (p q r : Signed) → length q.letters ≡ n → length r.letters ≡ n → clash p (product q r) ≡ exclusive_or (clash p q) (clash p r)
  clash_right p q r h k =
      clash_comm p (product q r) ∙ (clash_left q r p h k ∙ ap₂ exclusive_or (clash_comm q p) (clash_comm r p))

  pub regrouped : (p q r : Signed) → length p.letters ≡ n → length q.letters ≡ n → length r.letters ≡ n → product (product p q) r ≡ with_sign_changed (clash p r && exclusive_or (clash p q) (clash q r)) (product p (product q r))
  regrouped p q r h k l = product_regrouped p q r (h ∙ sym k) (k ∙ sym l)

  pub times_identity : (p : Signed) → length p.letters ≡ n → product p (identity_word n) ≡ p
  times_identity p h =
      product_comm p (identity_word n) (anticommute_comm p.letters (no_letters n) ∙ anticommute_of_none n p.letters)
      ∙ product_of_identity n p h

  -- a word twice, from the right
  pub times_twice : (p q : Signed) → length p.letters ≡ n → length q.letters ≡ n → product (product p q) q ≡ with_sign_changed (clash p q) p
  times_twice p q h k =
      regrouped p q q h k k
      ∙ ap₂ with_sign_changed
      (ap (λ t. clash p q && exclusive_or (clash p q) t) (anticommute_self q.letters) ∙ and_self (clash p q))
      (ap (product p) (product_self q ∙ ap identity_word k) ∙ times_identity p h)
    where
      and_self : (b : Bool) → (b && exclusive_or b false) ≡ b
      and_self false = refl
      and_self true = refl

  module _ (m : Signed) (size : length m.letters ≡ n) where
    turned_size : (b : Bool) (p : Signed) → length p.letters ≡ n → length (turned_if b m p).letters ≡ n
    turned_size true p h = product_size p m h size
    turned_size false p h = h

    turned_clash : (b c : Bool) (p q : Signed) → length p.letters ≡ n → length q.letters ≡ n → clash p m ≡ b → clash q m ≡ c → clash (turned_if b m p) (turned_if c m q) ≡ clash p q
    turned_clash false false p q h k pm qm = refl
    turned_clash true false p q h k pm qm =
        clash_left p m q h size ∙ (ap (exclusive_or (clash p q)) (clash_comm m q ∙ qm) ∙ exclusive_or-false (clash p q))
    turned_clash false true p q h k pm qm =
        clash_right p q m k size ∙ (ap (exclusive_or (clash p q)) pm ∙ exclusive_or-false (clash p q))
    turned_clash true true p q h k pm qm =
        clash_left p m (product q m) h size
        ∙ (ap₂ exclusive_or
        (clash_right p q m k size ∙ ap (exclusive_or (clash p q)) pm)
        (clash_right m q m k size ∙ ap₂ exclusive_or (clash_comm m q ∙ qm) (anticommute_self m.letters))
        ∙ (exclusive_or_assoc (clash p q) true true ∙ exclusive_or-false (clash p q)))

    turned_product : (b c : Bool) (p q : Signed) → length p.letters ≡ n → length q.letters ≡ n → clash p m ≡ b → clash q m ≡ c → turned_if (exclusive_or b c) m (product p q) ≡ product (turned_if b m p) (turned_if c m q)
    turned_product false false p q h k pm qm = refl
    turned_product false true p q h k pm qm =
        regrouped p q m h k size ∙ ap (λ t. with_sign_changed (t && exclusive_or (clash p q) (clash q m)) (product p (product q m))) pm
    turned_product true false p q h k pm qm =
        regrouped p q m h k size
        ∙ (ap₂ with_sign_changed
        (ap₂ (λ s t. s && exclusive_or (clash p q) t) pm qm ∙ exclusive_or-false (clash p q))
        (ap (product p) (product_swapped q m ∙ ap (λ t. with_sign_changed t (product m q)) qm))
        ∙ sym
        (regrouped p m q h size k
        ∙ ap (λ t. with_sign_changed t (product p (product m q)))
        (ap₂ (λ s t. clash p q && exclusive_or s t) pm (clash_comm m q ∙ qm) ∙ and_true (clash p q))))
    turned_product true true p q h k pm qm =
        let other : clash m (product q m) ≡ true = clash_right m q m k size ∙ ap₂ exclusive_or (clash_comm m q ∙ qm) (anticommute_self m.letters) in
        sym
        (regrouped p m (product q m) h size (product_size q m k size)
        ∙ ap₂ with_sign_changed
        (ap₂ (λ s t. clash p (product q m) && exclusive_or s t) pm other ∙ and_false (clash p (product q m)))
        (ap (product p)
        (product_swapped m (product q m)
        ∙ (ap₂ with_sign_changed other (times_twice q m k size ∙ ap (λ t. with_sign_changed t q) qm) ∙ changed_back q))))

    pub turned_keeps : KeepsWords n (turned m)
    turned_keeps =
        record {
          size = λ p h. turned_size (clash p m) p h;
          identity = λ b. ap (λ t. turned_if t m (signed (no_letters n) b)) (anticommute_of_none n m.letters);
          anticommuting = λ p q h k. turned_clash (clash p m) (clash q m) p q h k refl refl;
          product = λ p q h k.
              ap (λ t. turned_if t m (product p q)) (clash_left p q m h k) ∙ turned_product (clash p m) (clash q m) p q h k refl refl;
        }

    undone_if : (b : Bool) (v : Signed) → length v.letters ≡ n → clash v m ≡ b → turned (with_sign_changed true m) (turned_if b m v) ≡ v
    undone_if false v h e = ap (λ t. turned_if t (with_sign_changed true m) v) e
    undone_if true v h e =
        ap (λ t. turned_if t (with_sign_changed true m) (product v m)) (clash_left v m m h size ∙ ap₂ exclusive_or e (anticommute_self m.letters))
        ∙ (product-sign_changed_right true (product v m) m
        ∙ (ap (with_sign_changed true) (times_twice v m h size ∙ ap (λ t. with_sign_changed t v) e) ∙ changed_back v))

    pub turned_undone : (v : Signed) → length v.letters ≡ n → turned (with_sign_changed true m) (turned m v) ≡ v
    turned_undone v h = undone_if (clash v m) v h refl

  pub turned_clifford : (m : Signed) → length m.letters ≡ n → IsClifford n (turned m)
  turned_clifford m size =
      record {
        keeps = turned_keeps m size;
        back = turned (with_sign_changed true m);
        back_keeps = turned_keeps (with_sign_changed true m) size;
        left = turned_undone m size;
        right = λ p h. ap (λ t. turned t (turned (with_sign_changed true m) p)) (sym (changed_back m)) ∙ turned_undone (with_sign_changed true m) size p h;
      }

  -- u is in the state
  module _ (s : State) (group : IsGroup n s) (u : Signed) (u_in : IsMember n s u) where
    pub outside : (v : Signed) → length v.letters ≡ n → clash v u ≡ true → s v ≡ false
    outside v h e = elim (cases_Bool (s v)) [
      | inl k ↦ (let c : ◌≡◌ {A = Bool} true false = sym e ∙ group.commuting v u (record { size = h; member = k }) u_in in cc)
      | inr k ↦ k
    ]

    -- u times a word that commutes with it changes nothing
    pub times_member : (v : Signed) → length v.letters ≡ n → clash v u ≡ false → s (product v u) ≡ s v
    times_member v h e = elim (cases_Bool (s v)) [
      | inl k ↦ group.closed v u (record { size = h; member = k }) u_in ∙ sym k
      | inr k ↦ elim (cases_Bool (s (product v u))) [
        | inl l ↦
            (let back : s v ≡ true =
            ap s (sym (times_twice v u h u_in.size ∙ ap (λ t. with_sign_changed t v) e))
            ∙ group.closed (product v u) u (record { size = product_size v u h u_in.size; member = l }) u_in in
            cc)
        | inr l ↦ l ∙ sym k
      ]
    ]

  -- and anticommutes with w
  module _ (s : State) (group : IsGroup n s) (u : Signed) (u_in : IsMember n s u) (w : List Letter) (w_size : length w ≡ n) (apart : anticommute u.letters w ≡ true) where
    pub undecided : is_decided s w ≡ false
    undecided =
        ap₂ (λ a b. a || b)
        (outside s group u u_in (signed w false) w_size (anticommute_comm w u.letters ∙ apart))
        (outside s group u u_in (signed w true) w_size (anticommute_comm w u.letters ∙ apart))

    abbrev pub pivot : Bool → Signed
    pivot coin = product u (signed w coin)

    module _ (coin : Bool) where
      turned_in : (b c : Bool) (p : Signed) → length p.letters ≡ n → clash p u ≡ b → anticommute p.letters w ≡ c → s (turned_if (exclusive_or b c) (pivot coin) p) ≡ (not c && (s p || s (product (signed w coin) p)))
      turned_in false false p h pu pw =
          sym
          (ap (λ t. s p || t)
          (outside s group u u_in (product (signed w coin) p) (product_size (signed w coin) p w_size h)
          (clash_left (signed w coin) p u w_size h ∙ ap₂ exclusive_or (anticommute_comm w u.letters ∙ apart) pu))
          ∙ or_false (s p))
        where
          or_false : (b : Bool) → (b || false) ≡ b
          or_false false = refl
          or_false true = refl
      turned_in true true p h pu pw = outside s group u u_in p h pu
      turned_in true false p h pu pw =
          let x = signed w coin in
          let xp : product x p ≡ product p x = product_swapped x p ∙ ap (λ t. with_sign_changed t (product p x)) (anticommute_comm w p.letters ∙ pw) in
          let same : product p (product u x) ≡ product (product x p) u =
          sym
          (ap (λ t. product t u) xp
          ∙ (regrouped p x u h w_size u_in.size
          ∙ (ap₂ with_sign_changed
          (ap₂ (λ s t. s && exclusive_or (anticommute p.letters w) t) pu (anticommute_comm w u.letters ∙ apart) ∙ ap (λ t. exclusive_or t true) pw)
          (ap (product p) (product_swapped x u ∙ ap (λ t. with_sign_changed t (product u x)) (anticommute_comm w u.letters ∙ apart))
          ∙ product-sign_changed_right true p (product u x))
          ∙ changed_back (product p (product u x))))) in
          ap s same
          ∙ (times_member s group u u_in (product x p) (product_size x p w_size h)
          (clash_left x p u w_size h ∙ ap₂ exclusive_or (anticommute_comm w u.letters ∙ apart) pu)
          ∙ sym (ap (λ t. t || s (product x p)) (outside s group u u_in p h pu)))
      turned_in false true p h pu pw =
          outside s group u u_in (product p (pivot coin)) (product_size p (pivot coin) h (product_size u (signed w coin) u_in.size w_size))
          (clash_left p (pivot coin) u h (product_size u (signed w coin) u_in.size w_size)
          ∙ ap₂ exclusive_or pu
          (clash_left u (signed w coin) u u_in.size w_size ∙ ap₂ exclusive_or (anticommute_self u.letters) (anticommute_comm w u.letters ∙ apart)))

      pub turn_collapses : (p : Signed) → length p.letters ≡ n → s (turned (pivot coin) p) ≡ collapsed w coin s p
      turn_collapses p h =
          ap (λ t. s (turned_if t (pivot coin) p)) (clash_right p u (signed w coin) u_in.size w_size)
          ∙ (turned_in (clash p u) (anticommute p.letters w) p h refl refl
          ∙ sym (ap (λ t. if t then s p else not (anticommute p.letters w) && (s p || s (product (signed w coin) p))) undecided))
