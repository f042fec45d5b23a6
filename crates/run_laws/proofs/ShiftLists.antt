-- Lists of truth values changed by flips, and the parities of records that are changed by flips.
use Rattle.std.proofs.Common.{◌≡◌, ℕ, zero, suc, ◌&&◌, Bool, true, false, List, [], ◌∷◌, ◌++◌, length, get_or, replicate, refl, ap, ap₂, ◌∙◌}
use Rattle.std.proofs.Math.Nat.{suc_inj}
use Rattle.pauli_word.specs.Parity.{exclusive_or}
use Rattle.pauli_word.proofs.Parities.{exclusive_or-false, exclusive_or_middle}
use Rattle.run_laws.specs.Shifts.{flipped_by}
use Rattle.step_model.specs.Targets.{parity}

pub joined-append : (flips later values rest : List Bool) → length flips ≡ length values → flipped_by (flips ++ later) (values ++ rest) ≡ flipped_by flips values ++ flipped_by later rest
joined-append [] later [] rest h = refl
joined-append [] later (x ∷ values) rest h = cc
joined-append (f ∷ flips) later [] rest h = cc
joined-append (f ∷ flips) later (x ∷ values) rest h = ap (λ xs. exclusive_or f x ∷ xs) (joined-append flips later values rest (suc_inj h))

pub length-joined : (flips values : List Bool) → length flips ≡ length values → length (flipped_by flips values) ≡ length values
length-joined [] values h = refl
length-joined (f ∷ flips) [] h = cc
length-joined (f ∷ flips) (x ∷ values) h = ap suc (length-joined flips values (suc_inj h))

-- flips that are all 0 change nothing
pub joined-no_flips : (n : ℕ) (values : List Bool) → n ≡ length values → flipped_by (replicate n false) values ≡ values
joined-no_flips zero values h = refl
joined-no_flips (suc n) [] h = cc
joined-no_flips (suc n) (x ∷ values) h = ap (λ xs. x ∷ xs) (joined-no_flips n values (suc_inj h))

-- values that are all 0 become the flips
pub joined-zeros : (flips : List Bool) → flipped_by flips (replicate (length flips) false) ≡ flips
joined-zeros [] = refl
joined-zeros (f ∷ flips) = ap₂ (λ x xs. x ∷ xs) (exclusive_or-false f) (joined-zeros flips)

pub get_or-joined : (flips values : List Bool) (r : ℕ) → get_or (flipped_by flips values) r false ≡ exclusive_or (get_or flips r false) (get_or values r false)
get_or-joined [] values r = refl
get_or-joined (f ∷ flips) values zero = refl
get_or-joined (f ∷ flips) [] (suc r) = get_or-joined flips [] r
get_or-joined (f ∷ flips) (x ∷ values) (suc r) = get_or-joined flips values r

-- the parity of changed records differs by that of the flips
pub parity-joined : (named : List ℕ) (flips values : List Bool) → parity named (flipped_by flips values) ≡ exclusive_or (parity named flips) (parity named values)
parity-joined [] flips values = refl
parity-joined (r ∷ named) flips values =
    ap₂ exclusive_or (get_or-joined flips values r) (parity-joined named flips values)
    ∙ exclusive_or_middle (get_or flips r false) (get_or values r false) (parity named flips) (parity named values)

pub get_or-zeros : (n r : ℕ) → get_or (replicate n false) r false ≡ false
get_or-zeros zero r = refl
get_or-zeros (suc n) zero = refl
get_or-zeros (suc n) (suc r) = get_or-zeros n r

pub parity-zeros : (named : List ℕ) (n : ℕ) → parity named (replicate n false) ≡ false
parity-zeros [] n = refl
parity-zeros (r ∷ named) n = ap₂ exclusive_or (get_or-zeros n r) (parity-zeros named n)

and-exclusive_or : (c d b : Bool) → exclusive_or (c && b) (d && b) ≡ exclusive_or c d && b
and-exclusive_or false d b = refl
and-exclusive_or true false false = refl
and-exclusive_or true false true = refl
and-exclusive_or true true false = refl
and-exclusive_or true true true = refl
