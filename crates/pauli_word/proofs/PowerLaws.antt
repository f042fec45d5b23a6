-- The laws of powers of i: a commutative group of four, in which is_minus adds up for real factors.
use Rattle.std.proofs.Common.{◌≡◌, Bool, true, false, not, refl, ap, sym, ◌∙◌}
use Rattle.pauli_word.specs.Letters.{Power, one, i, minus_one, minus_i, times_i, power_product, is_minus, sign_power}
use Rattle.pauli_word.specs.Parity.{exclusive_or}

pub power_product-one : (p : Power) → power_product p one ≡ p
power_product-one one = refl
power_product-one i = refl
power_product-one minus_one = refl
power_product-one minus_i = refl

pub four_times_i : (p : Power) → times_i (times_i (times_i (times_i p))) ≡ p
four_times_i one = refl
four_times_i i = refl
four_times_i minus_one = refl
four_times_i minus_i = refl

pub times_i-power_product : (p q : Power) → power_product (times_i p) q ≡ times_i (power_product p q)
times_i-power_product one q = refl
times_i-power_product i q = refl
times_i-power_product minus_one q = refl
times_i-power_product minus_i q = sym (four_times_i q)

pub power_product_assoc : (p q r : Power) → power_product (power_product p q) r ≡ power_product p (power_product q r)
power_product_assoc one q r = refl
power_product_assoc i q r = times_i-power_product q r
power_product_assoc minus_one q r = times_i-power_product (times_i q) r ∙ ap times_i (times_i-power_product q r)
power_product_assoc minus_i q r =
    times_i-power_product (times_i (times_i q)) r ∙ ap times_i (times_i-power_product (times_i q) r ∙ ap times_i (times_i-power_product q r))

power_product-times_i : (p q : Power) → power_product p (times_i q) ≡ times_i (power_product p q)
power_product-times_i one q = refl
power_product-times_i i q = refl
power_product-times_i minus_one q = refl
power_product-times_i minus_i q = refl

power_product-i : (p : Power) → power_product p i ≡ times_i p
power_product-i p = power_product-times_i p one ∙ ap times_i (power_product-one p)

power_product-minus_one : (p : Power) → power_product p minus_one ≡ times_i (times_i p)
power_product-minus_one p = power_product-times_i p i ∙ ap times_i (power_product-i p)

pub power_product_comm : (p q : Power) → power_product p q ≡ power_product q p
power_product_comm p one = power_product-one p
power_product_comm p i = power_product-i p
power_product_comm p minus_one = power_product-minus_one p
power_product_comm p minus_i = power_product-times_i p minus_one ∙ ap times_i (power_product-minus_one p)

pub fourth_power : (p : Power) → power_product p (power_product p (power_product p p)) ≡ one
fourth_power one = refl
fourth_power i = refl
fourth_power minus_one = refl
fourth_power minus_i = refl

-- the inner two of four swapped
pub power_product_middle : (p q r s : Power) → power_product (power_product p q) (power_product r s) ≡ power_product (power_product p r) (power_product q s)
power_product_middle p q r s =
    power_product_assoc p q (power_product r s)
    ∙ ap (power_product p) (sym (power_product_assoc q r s) ∙ ap (λ t. power_product t s) (power_product_comm q r) ∙ power_product_assoc r q s)
    ∙ sym (power_product_assoc p r (power_product q s))

-- whether a power of i is 1 or -1
abbrev pub is_real : Power → Bool
is_real one = true
is_real i = false
is_real minus_one = true
is_real minus_i = false

-- a real power is a sign, and a sign is real
pub sign_power-is_minus : (p : Power) → is_real p ≡ true → p ≡ sign_power (is_minus p)
sign_power-is_minus one h = refl
sign_power-is_minus minus_one h = refl
sign_power-is_minus i h = cc
sign_power-is_minus minus_i h = cc

pub is_real-sign_power : (a : Bool) → is_real (sign_power a) ≡ true
is_real-sign_power false = refl
is_real-sign_power true = refl

-- minus signs add up where the first factor is real
pub is_minus-power_product : (p q : Power) → is_real p ≡ true → is_minus (power_product p q) ≡ exclusive_or (is_minus p) (is_minus q)
is_minus-power_product one q h = refl
is_minus-power_product minus_one one h = refl
is_minus-power_product minus_one i h = refl
is_minus-power_product minus_one minus_one h = refl
is_minus-power_product minus_one minus_i h = refl
is_minus-power_product i q h = cc
is_minus-power_product minus_i q h = cc

pub is_real-power_product : (p q : Power) → is_real (power_product p q) ≡ not (exclusive_or (not (is_real p)) (not (is_real q)))
is_real-power_product one one = refl
is_real-power_product one i = refl
is_real-power_product one minus_one = refl
is_real-power_product one minus_i = refl
is_real-power_product i one = refl
is_real-power_product i i = refl
is_real-power_product i minus_one = refl
is_real-power_product i minus_i = refl
is_real-power_product minus_one one = refl
is_real-power_product minus_one i = refl
is_real-power_product minus_one minus_one = refl
is_real-power_product minus_one minus_i = refl
is_real-power_product minus_i one = refl
is_real-power_product minus_i i = refl
is_real-power_product minus_i minus_one = refl
is_real-power_product minus_i minus_i = refl

pub sign_power-exclusive_or : (a b : Bool) → sign_power (exclusive_or a b) ≡ power_product (sign_power a) (sign_power b)
sign_power-exclusive_or false b = refl
sign_power-exclusive_or true false = refl
sign_power-exclusive_or true true = refl
