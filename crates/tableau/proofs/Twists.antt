-- A twist about a word u by a word y that commutes with it: what it makes of words that commute with u and of those that
-- don't.
use Rattle.std.proofs.Common.{◌≡◌, ℕ, Bool, true, false, ◌&&◌, if◌then◌else◌, length, refl, ap, ap₂, sym, ◌∙◌}
use Rattle.pauli_word.specs.Parity.{exclusive_or}
use Rattle.pauli_word.specs.Words.{Signed, product, with_sign_changed}
use Rattle.pauli_word.specs.Groups.{identity_word}
use Rattle.pauli_word.proofs.WordLaws.{anticommute_self}
use Rattle.pauli_word.proofs.SignedLaws.{product_self, product_of_identity, product-sign_changed_right}
use Rattle.tableau.specs.private.CliffordMaps.{IsClifford, turned, twisted}
use Rattle.tableau.proofs.Turns.{changed_back, clash, clash_comm, turned_if, product_size, clash_left, clash_right, regrouped, turned_clifford}
use Rattle.tableau.proofs.RowMaps.{clifford_after}

module _ (n : ℕ) (u y : Signed) (u_size : length u.letters ≡ n) (y_size : length y.letters ≡ n) (along : clash y u ≡ false) where
  y_times_u : clash y (product y u) ≡ false
  y_times_u = clash_right n y y u y_size u_size ∙ ap₂ exclusive_or (anticommute_self y.letters) along

  pub y_y_u : product y (product y u) ≡ u
  y_y_u =
      sym
      (regrouped n y y u y_size y_size u_size
      ∙ ap (λ t. with_sign_changed (t && exclusive_or (clash y y) (clash y u)) (product y (product y u))) along)
      ∙ (ap (λ t. product t u) (product_self y ∙ ap identity_word y_size) ∙ product_of_identity n u u_size)

  both_size : length (product y u).letters ≡ n
  both_size = product_size n y u y_size u_size

  twist_if : (c : Bool) (v : Signed) → length v.letters ≡ n → clash v u ≡ false → clash v y ≡ c → turned (with_sign_changed true (product y u)) (turned_if c y v) ≡ turned_if c u v
  twist_if false v h vu vy =
      ap (λ t. turned_if t (with_sign_changed true (product y u)) v) (clash_right n v y u y_size u_size ∙ ap₂ exclusive_or vy vu)
  twist_if true v h vu vy =
      let v_both : clash v (product y u) ≡ true = clash_right n v y u y_size u_size ∙ ap₂ exclusive_or vy vu in
      ap (λ t. turned_if t (with_sign_changed true (product y u)) (product v y))
      (clash_left n v y (product y u) h y_size ∙ ap₂ exclusive_or v_both y_times_u)
      ∙ (product-sign_changed_right true (product v y) (product y u)
      ∙ (ap (with_sign_changed true)
      (regrouped n v y (product y u) h y_size both_size
      ∙ ap₂ with_sign_changed
      (ap₂ (λ a b. a && b) v_both (ap₂ exclusive_or vy y_times_u))
      (ap (product v) y_y_u))
      ∙ changed_back (product v u)))

  -- what commutes with u stays or is multiplied by u
  pub twist_along : (v : Signed) → length v.letters ≡ n → clash v u ≡ false → twisted u y v ≡ turned_if (clash v y) u v
  twist_along v h vu = twist_if (clash v y) v h vu refl

  pub twist_clifford : IsClifford n (twisted u y)
  twist_clifford =
      clifford_after n (turned (with_sign_changed true (product y u))) (turned y) (turned_clifford n (with_sign_changed true (product y u)) both_size) (turned_clifford n y y_size)

  pub twist_fixes : twisted u y u ≡ u
  twist_fixes = twist_along u u_size (anticommute_self u.letters) ∙ ap (λ t. turned_if t u u) (clash_comm u y ∙ along)

  -- what doesn't is multiplied by y, or by its product with u
  pub twist_across : (v : Signed) → length v.letters ≡ n → clash v u ≡ true → twisted u y v ≡ (if clash v y then product v y else product v (with_sign_changed true (product y u)))
  twist_across v h vu = by_clash (clash v y) refl where
    by_clash : (c : Bool) → clash v y ≡ c → turned (with_sign_changed true (product y u)) (turned_if c y v) ≡ (if c then product v y else product v (with_sign_changed true (product y u)))
    by_clash false vy =
        ap (λ t. turned_if t (with_sign_changed true (product y u)) v) (clash_right n v y u y_size u_size ∙ ap₂ exclusive_or vy vu)
    by_clash true vy =
        ap (λ t. turned_if t (with_sign_changed true (product y u)) (product v y))
        (clash_left n v y (product y u) h y_size
        ∙ ap₂ exclusive_or (clash_right n v y u y_size u_size ∙ ap₂ exclusive_or vy vu) y_times_u)
