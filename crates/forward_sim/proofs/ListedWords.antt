-- A word's list of numbers is read again as the qubits with X and those with Z.
use Rattle.std.proofs.Common.{◌≡◌, ℕ, zero, suc, ◌-◌, ◌≤◌, List, [], ◌∷◌, ◌++◌, length, set, get_or, take, drop, Some, refl, sym, ap, ap₂, ◌∙◌, arith}
use Rattle.std.specs.Prelude.{min}
use Rattle.std.proofs.lemmas.List.{drop_at, drop_min, length-take-le, take_all, take_at, take_min, take_rest}
use Rattle.forward_sim.specs.References.{entry_of, terms_with}
use Rattle.forward_sim.specs.private.Kept.{terms_listed}

-- a list with the number of its first part at its head
parts_listed : (ms xs zs : List ℕ) (k : ℕ) → k ≤ length ms → take k ms ≡ xs → terms_listed (k ∷ take k ms ++ zs) ≡ terms_with xs zs
parts_listed ms xs zs k inside is =
    ap₂ terms_with (take_at (take k ms) zs k (length-take-le k ms inside) ∙ is) (drop_at (take k ms) zs k (length-take-le k ms inside))

pub listed_parts : (numbers mid : List ℕ) (end k : ℕ) (xs zs : List ℕ) → end ≡ suc k → end ≤ length mid → 1 ≤ length numbers → take end mid ≡ take 1 numbers ++ xs → terms_listed (take end (set mid 0 k) ++ zs) ≡ terms_with xs zs
listed_parts [] mid end k xs zs e within some is = absurd (omega (arith, some))
listed_parts (n ∷ ns) [] end k xs zs e within some is = absurd (omega (arith, e, within))
listed_parts (n ∷ ns) (m ∷ ms) end k xs zs e within some is =
    let inside : k ≤ length ms = omega (arith, e, within) in
    let rest : take k ms ≡ xs = ap (drop 1) (ap (λ i. take i (m ∷ ms)) (sym e) ∙ is) in
    ap (λ i. terms_listed (take i (k ∷ ms) ++ zs)) e ∙ parts_listed ms xs zs k inside rest

-- and a longer one for a word
some_part : (count q : ℕ) (qubits : List ℕ) → Some (terms_with (take count (q ∷ qubits)) (drop count (q ∷ qubits))) ≡ entry_of (terms_with (take count (q ∷ qubits)) (drop count (q ∷ qubits)))
some_part zero q qubits = refl
some_part (suc count) q qubits = refl

pub long_listed : (list : List ℕ) → 2 ≤ length list → Some (terms_listed list) ≡ entry_of (terms_listed list)
long_listed [] h = absurd (omega (arith, h))
long_listed (count ∷ []) h = absurd (omega (arith, h))
long_listed (count ∷ q ∷ qubits) h = some_part count q qubits

-- the two parts, cut where the list says
parts_cut : (head : ℕ) (rest qubits : List ℕ) (count : ℕ) → 1 ≤ length rest → qubits ≡ rest → count ≡ min head (length qubits) → Some (terms_with (take count qubits) (take (length qubits - count) (drop count qubits))) ≡ entry_of (terms_listed (head ∷ rest))
parts_cut head rest qubits count some same is =
    let xs : take count qubits ≡ take head rest = ap (λ k. take k qubits) is ∙ take_min head qubits ∙ ap (take head) same in
    let zs : take (length qubits - count) (drop count qubits) ≡ drop head rest = take_rest qubits count ∙ ap (λ k. drop k qubits) is ∙ drop_min head qubits ∙ ap (drop head) same in
    let long : 2 ≤ length (head ∷ rest) = omega (arith, some) in
    ap Some (ap₂ terms_with xs zs) ∙ long_listed (head ∷ rest) long

pub list_cut : (list : List ℕ) (count : ℕ) → 2 ≤ length list → count ≡ min (get_or list 0 0) (length (take (length list - 1) (drop 1 list)))
    → Some (terms_with (take count (take (length list - 1) (drop 1 list))) (take (length (take (length list - 1) (drop 1 list)) - count) (drop count (take (length list - 1) (drop 1 list))))) ≡ entry_of (terms_listed list)
list_cut [] count long is = absurd (omega (arith, long))
list_cut (head ∷ rest) count long is =
    let some : 1 ≤ length rest = omega (arith, long) in
    let all : length rest ≤ length (head ∷ rest) - 1 = omega arith in
    parts_cut head rest (take (length (head ∷ rest) - 1) rest) count some (take_all (length (head ∷ rest) - 1) rest all) is

-- a slice that is written back to the vector that lent it
pub written : (len : ℕ) (new items : List ℕ) → length new ≡ len → take len (new ++ drop (length new) items) ≡ new
written len new items size = take_at new (drop (length new) items) len size
