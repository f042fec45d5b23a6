-- Laws of sums over the numbers below a bound.
use Rattle.std.proofs.Common.{◌≡◌, ℕ, zero, suc, ◌+◌, ◌*◌, ◌%◌, ◌<◌, ◌≤◌, ◌-◌, refl, sym, ap, ◌∙◌, arith}
use Rattle.std.proofs.Math.Nat.{add-mod-mod, mod-add-mod, add-suc, add-zero, suc-mul, zero-mul}
use Rattle.bit_rows.specs.private.Totals.{total}

-- remainders of sums
pub same_remainder_add : (m a b c d : ℕ) → a % m ≡ b % m → c % m ≡ d % m → (a + c) % m ≡ (b + d) % m
same_remainder_add m a b c d p q =
    sym (mod-add-mod a m c) ∙ ap (λ v. (v + c) % m) p ∙ mod-add-mod b m c ∙ sym (add-mod-mod b c m) ∙ ap (λ v. (b + v) % m) q ∙ add-mod-mod b d m

pub total_same : (f g : ℕ → ℕ) (n : ℕ) → ((i : ℕ) → i < n → f i ≡ g i) → total f n ≡ total g n
unfolding total
total_same f g zero same = refl
total_same f g (suc n) same =
    let rest = total_same f g n (λ i h. same i (omega arith)) in
    let last = same n (omega arith) in
    cc

pub total_same_remainder : (m : ℕ) (f g : ℕ → ℕ) (n : ℕ) → ((i : ℕ) → i < n → f i % m ≡ g i % m) → total f n % m ≡ total g n % m
unfolding total
total_same_remainder m f g zero same = refl
total_same_remainder m f g (suc n) same =
    same_remainder_add m (total f n) (total g n) (f n) (g n)
    (total_same_remainder m f g n (λ i h. same i (omega arith))) (same n (omega arith))

pub total-add : (f g : ℕ → ℕ) (n : ℕ) → total (λ i. f i + g i) n ≡ total f n + total g n
unfolding total
total-add f g zero = refl
total-add f g (suc n) = omega (arith, total-add f g n)

pub total-twice : (f : ℕ → ℕ) (n : ℕ) → total (λ i. 2 * f i) n ≡ 2 * total f n
unfolding total
total-twice f zero = refl
total-twice f (suc n) = omega (arith, total-twice f n)

pub total_none : (f : ℕ → ℕ) (n : ℕ) → ((i : ℕ) → i < n → f i ≡ 0) → total f n ≡ 0
unfolding total
total_none f zero none = refl
total_none f (suc n) none = omega (arith, total_none f n (λ i h. none i (omega arith)), none n (omega arith))

-- a sum in two parts
pub total-split : (f : ℕ → ℕ) (m n : ℕ) → total f (m + n) ≡ total f m + total (λ i. f (m + i)) n
unfolding total
total-split f m zero = ap (total f) (add-zero m) ∙ sym (add-zero (total f m))
total-split f m (suc n) = rw (add-suc m n) (omega (arith, total-split f m n))

-- the first term apart
pub total_first : (f : ℕ → ℕ) (n : ℕ) → total f (suc n) ≡ f 0 + total (λ i. f (suc i)) n
unfolding total
total_first f zero = omega arith
total_first f (suc n) = omega (arith, total_first f n)

-- a sum in blocks of k terms
pub total-blocks : (f : ℕ → ℕ) (k n : ℕ) → total f (n * k) ≡ total (λ b. total (λ j. f (b * k + j)) k) n
unfolding total
total-blocks f k zero = ap (total f) (zero-mul k)
total-blocks f k (suc n) =
    ap (total f) (suc-mul n k) ∙ total-split f (n * k) k ∙ ap (λ s. s + total (λ j. f (n * k + j)) k) (total-blocks f k n)

-- terms that are 0 add nothing
pub total_blank : (f : ℕ → ℕ) (m n : ℕ) → m ≤ n → ((i : ℕ) → m ≤ i → f i ≡ 0) → total f n ≡ total f m
total_blank f m n le blank =
    let e : n ≡ m + (n - m) = omega arith in
    ap (total f) e ∙ omega (arith, total-split f m (n - m), total_none (λ i. f (m + i)) (n - m) (λ i h. blank (m + i) (omega arith)))

pub total_le : (m : ℕ) (f : ℕ → ℕ) (n : ℕ) → ((i : ℕ) → i < n → f i ≤ m) → total f n ≤ n * m
unfolding total
total_le m f zero each = omega (arith, zero-mul m)
total_le m f (suc n) each = omega (arith, suc-mul n m, total_le m f n (λ i h. each i (omega arith)), each n (omega arith))
