-- The map of rows in a random collapse: it makes Z at k of the code measured and X at k of Z at k, and the words after it
-- that are in the start state are those of the start state after the collapse.
use Rattle.std.proofs.Common.{◌≡◌, ◌<◌, inl, inr, ℕ, Bool, true, false, not, ◌&&◌, ◌||◌, if◌then◌else◌, List, length, set, refl, ap, ap₂, sym, subst, ◌∙◌, length-set, get_or-set_same, set-set}
use Rattle.std.proofs.lemmas.Bool.{and_parts, or_cases}
use Rattle.std.proofs.lemmas.List.{set-get_or}
use Rattle.std.specs.List.{list_all}
use Rattle.gate_table.specs.Images.{image1}
use Rattle.gate_table.specs.WordImages.{image_at}
use Rattle.gate_table.proofs.Identity.{image1-I}
use Rattle.pauli_word.specs.declared.letter.Letter.{Letter}
use Rattle.pauli_word.specs.declared.letter.Letter.TheVariants.{I, X, Y, Z}
use Rattle.pauli_word.specs.Letters.{is_minus, letter_product, letter_power, letters_clash}
use Rattle.pauli_word.specs.Parity.{exclusive_or}
use Rattle.pauli_word.specs.States.{is_I_or_Z, start_state, collapsed}
use Rattle.pauli_word.specs.Words.{Signed, signed, with_sign_changed, anticommute, product, lone_letter, letter_at}
use Rattle.pauli_word.proofs.Groups.{IsGroup-start}
use Rattle.pauli_word.proofs.LetterLaws.{letters_clash_comm}
use Rattle.pauli_word.proofs.LoneLetters.{length-lone_letter, anticommute-lone_letter, letters_product-lone_letter, letters_power-lone_letter, anticommute-cleared, letters_product-cleared, letters_power-cleared}
use Rattle.pauli_word.proofs.Parities.{exclusive_or-false, exclusive_or_self}
use Rattle.pauli_word.proofs.SignedLaws.{product_comm, product-sign_changed_right}
use Rattle.pauli_word.proofs.WordLaws.{anticommute_comm, anticommute_self}
use Rattle.tableau.specs.private.CliffordMaps.{IsClifford, turned, twisted}
use Rattle.tableau.specs.private.EncodingSteps.{lone, without, turning_gate, row_map}
use Rattle.tableau.proofs.DiagonalWords.{Z_in_start, at_one, diagonal_at, diagonal_without, lone_product, lone_image}
use Rattle.tableau.proofs.EncodingGates.{image_clifford}
use Rattle.tableau.proofs.RowMaps.{clifford_after}
use Rattle.tableau.proofs.SameStates.{same_states}
use Rattle.tableau.proofs.Turns.{clash, clash_comm, product_size, clash_left, clash_right, regrouped, turned_if, turned_clifford, undecided, turn_collapses}
use Rattle.tableau.proofs.Twists.{twist_along, twist_across, twist_clifford, twist_fixes, y_y_u}

turns_Z : (a : Letter) → letters_clash a Z ≡ true → image1 (turning_gate a) Z ≡ (X, false)
turns_Z I h = cc
turns_Z X h = refl
turns_Z Y h = refl
turns_Z Z h = cc

-- what the twist makes of the letter becomes Z, and its sign plus
turns_back : (a : Letter) → letters_clash a Z ≡ true → image1 (turning_gate a) (letter_product a Z) ≡ (Z, not (is_minus (letter_power a Z)))
turns_back I h = cc
turns_back X h = refl
turns_back Y h = refl
turns_back Z h = cc

module _ (n k : ℕ) (l : List Letter) (c : Bool) (size : length l ≡ n) (inside : k < n) (clashes : letters_clash (letter_at l k) Z ≡ true) where
  abbrev a : Letter
  a = letter_at l k

  abbrev A : Signed
  A = lone n k a

  abbrev u : Signed
  u = lone n k Z

  abbrev x : Signed
  x = signed l c

  abbrev y : Signed
  y = without k x

  A_size : length A.letters ≡ n
  A_size = length-lone_letter n k a

  u_size : length u.letters ≡ n
  u_size = length-lone_letter n k Z

  pub y_size : length y.letters ≡ n
  y_size = length-set l k I ∙ size

  pub y_u : clash y u ≡ false
  y_u = anticommute_comm y.letters u.letters ∙ anticommute-cleared n l k Z size inside

  u_x : clash u x ≡ true
  u_x = anticommute-lone_letter n l k Z size inside ∙ (letters_clash_comm Z a ∙ clashes)

  A_y : clash A y ≡ false
  A_y = anticommute-cleared n l k a size inside

  -- the code is its letter at k times the rest
  x_split : product A y ≡ x
  x_split =
      ap₂ signed (letters_product-cleared n l k a size inside ∙ set-get_or l k I)
      (ap (λ t. exclusive_or (exclusive_or false c) (is_minus t)) (letters_power-cleared n l k a size inside) ∙ exclusive_or-false c)

  x_y : clash x y ≡ false
  x_y =
      ap (λ t. clash t y) (sym x_split)
      ∙ (clash_left n A y y A_size y_size ∙ ap₂ exclusive_or A_y (anticommute_self y.letters))

  abbrev map : Signed → Signed
  map = row_map n k x

  pub map_clifford : IsClifford n map
  map_clifford =
      clifford_after n (image_at (turning_gate a) k) (twisted u y) (image_clifford n (turning_gate a) k inside) (twist_clifford n u y u_size y_size y_u)

  pub replaced : map u ≡ lone n k X
  replaced =
      ap (image_at (turning_gate a) k) (twist_fixes n u y u_size y_size y_u)
      ∙ (lone_image n k inside (turning_gate a) Z false
      ∙ ap (λ i. signed (lone_letter n k i.0) (exclusive_or false i.1)) (turns_Z a clashes))

  yu_size : length (product y u).letters ≡ n
  yu_size = product_size n y u y_size u_size

  twisted_x : twisted u y x ≡ with_sign_changed true (product A u)
  twisted_x =
      twist_across n u y u_size y_size y_u x size (clash_comm x u ∙ u_x)
      ∙ (ap (λ t. if t then product x y else product x (with_sign_changed true (product y u))) x_y
      ∙ (product-sign_changed_right true x (product y u)
      ∙ ap (with_sign_changed true)
      (ap (λ t. product t (product y u)) (sym x_split)
      ∙ (regrouped n A y (product y u) A_size y_size yu_size
      ∙ ap₂ with_sign_changed
      (ap₂ (λ s t. s && t)
      (clash_right n A y u y_size u_size ∙ ap₂ exclusive_or A_y (at_one n k a Z inside ∙ clashes))
      (ap₂ exclusive_or A_y (clash_right n y y u y_size u_size ∙ ap₂ exclusive_or (anticommute_self y.letters) y_u)))
      (ap (product A) (y_y_u n u y u_size y_size y_u))))))

  pub measured : map x ≡ u
  measured =
      let minus = is_minus (letter_power a Z) in
      ap (image_at (turning_gate a) k) (twisted_x ∙ ap (with_sign_changed true) (lone_product n k inside a Z))
      ∙ (lone_image n k inside (turning_gate a) (letter_product a Z) (not minus)
      ∙ (ap (λ i. signed (lone_letter n k i.0) (exclusive_or (not minus) i.1)) (turns_back a clashes)
      ∙ ap (signed (lone_letter n k Z)) (exclusive_or_self (not minus))))

  -- a word of the start state that commutes with the code
  module _ (v : Signed) (v_size : length v.letters ≡ n) (v_in : start_state v ≡ true) (v_x : clash v x ≡ false) where
    abbrev b : Letter
    b = letter_at v.letters k

    parts : (list_all is_I_or_Z v.letters ≡ true) × (not v.negative ≡ true)
    parts = and_parts (list_all is_I_or_Z v.letters) (not v.negative) v_in

    v_u : clash v u ≡ false
    v_u = (IsGroup-start n).commuting v u (record { size = v_size; member = v_in }) (Z_in_start n k)

    v_y : exclusive_or (letters_clash b a) (clash v y) ≡ false
    v_y =
        ap (λ t. exclusive_or t (clash v y))
        (sym (clash_comm v A ∙ (anticommute-lone_letter n v.letters k a v_size inside ∙ letters_clash_comm a b)))
        ∙ (sym (clash_right n v A y A_size y_size) ∙ (ap (clash v) x_split ∙ v_x))

    cleared : (d : Letter) → b ≡ d → is_I_or_Z d ≡ true → twisted u y v ≡ signed (set v.letters k I) v.negative
    cleared I e h =
        let along : clash v y ≡ false = ap (λ t. exclusive_or (letters_clash t a) (clash v y)) (sym e) ∙ v_y in
        twist_along n u y u_size y_size y_u v v_size v_u
        ∙ (ap (λ t. turned_if t u v) along
        ∙ ap (λ p. signed p v.negative) (sym (ap (set v.letters k) (sym e) ∙ set-get_or v.letters k I)))
    cleared X e h = cc
    cleared Y e h = cc
    cleared Z e h =
        let along : clash v y ≡ true =
        only_one (clash v y)
        (ap (λ t. exclusive_or t (clash v y)) (sym (letters_clash_comm Z a ∙ clashes)) ∙ (ap (λ t. exclusive_or (letters_clash t a) (clash v y)) (sym e) ∙ v_y)) in
        twist_along n u y u_size y_size y_u v v_size v_u
        ∙ (ap (λ t. turned_if t u v) along
        ∙ (product_comm v u v_u
        ∙ ap₂ signed
        (letters_product-lone_letter n v.letters k Z v_size inside ∙ ap (λ d. set v.letters k (letter_product Z d)) e)
        (ap (λ t. exclusive_or v.negative (is_minus t)) (letters_power-lone_letter n v.letters k Z v_size inside ∙ ap (letter_power Z) e)
        ∙ exclusive_or-false v.negative)))
      where
        only_one : (t : Bool) → exclusive_or true t ≡ false → t ≡ true
        only_one true h = refl
        only_one false h = cc

    pub stays_in : start_state (map v) ≡ true
    stays_in =
        let v' = set v.letters k I in
        let here : letter_at v' k ≡ I = get_or-set_same v.letters k I I (subst (λ m. k < m) (sym v_size) inside) in
        let image = ap (image1 (turning_gate a)) here ∙ image1-I (turning_gate a) in
        ap start_state
        (ap (image_at (turning_gate a) k) (cleared b refl (diagonal_at v.letters k parts.0))
        ∙ (ap (λ i. signed (set v' k i.0) (exclusive_or v.negative i.1)) image
        ∙ ap₂ signed (set-set v.letters k I I) (exclusive_or-false v.negative)))
        ∙ ap₂ (λ s t. s && t) (diagonal_without v.letters k parts.0) parts.1

  not_false : (t : Bool) → not t ≡ true → t ≡ false
  not_false false h = refl
  not_false true h = cc

  into : (v : Signed) → length v.letters ≡ n → start_state (turned (product u x) v) ≡ true → start_state (map v) ≡ true
  into v v_size e =
      let group = IsGroup-start n in
      let u_in = Z_in_start n k in
      let is_in : collapsed l c start_state v ≡ true = sym (turn_collapses n start_state group u u_in l size u_x c v v_size) ∙ e in
      let split = sym (ap (λ t. if t then start_state v else not (anticommute v.letters l) && (start_state v || start_state (product x v))) (undecided n start_state group u u_in l size u_x)) ∙ is_in in
      let both = and_parts (not (anticommute v.letters l)) (start_state v || start_state (product x v)) split in
      let v_x : clash v x ≡ false = not_false (anticommute v.letters l) both.0 in
      elim (or_cases (start_state v) (start_state (product x v)) both.1) [
        | inl m ↦ stays_in v v_size m v_x
        | inr m ↦
            (let xv = product x v in
            let xv_size = product_size n x v size v_size in
            let xv_x : clash xv x ≡ false = clash_left n x v x size v_size ∙ ap₂ exclusive_or (anticommute_self l) v_x in
            let mapped_in = stays_in xv xv_size m xv_x in
            let mapped_size = map_clifford.keeps.size v v_size in
            let mapped_is : map xv ≡ product u (map v) = map_clifford.keeps.product x v size v_size ∙ ap (λ t. product t (map v)) measured in
            let apart : clash u (map v) ≡ false =
            ap (λ t. clash t (map v)) (sym measured) ∙ (map_clifford.keeps.anticommuting x v size v_size ∙ (clash_comm x v ∙ v_x)) in
            ap start_state (sym (ap (product u) mapped_is ∙ y_y_u n (map v) u mapped_size u_size apart))
            ∙ group.closed u (map xv) u_in (record { size = map_clifford.keeps.size xv xv_size; member = mapped_in }))
      ]

  pub collapses : (v : Signed) → length v.letters ≡ n → start_state (map v) ≡ collapsed l c start_state v
  collapses v v_size =
      same_states n (turned (product u x)) map (turned_clifford n (product u x) (product_size n u x u_size size)) map_clifford into v v_size
      ∙ turn_collapses n start_state (IsGroup-start n) u (Z_in_start n k) l size u_x c v v_size
