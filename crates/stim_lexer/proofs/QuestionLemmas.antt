-- Questions of which none applies.
use Rattle.std.proofs.Common.{◌≡◌, ℕ, ◌<◌, ◌==◌, Bool, true, false, List, [], ◌∷◌, ◌++◌, None, refl, arith}
use Rattle.std.specs.Prelude.{⊤, find, option_map, nat_le}
use Rattle.step_model.specs.declared.fault.Cause.{Cause}

abbrev pub NoneApplies : List (Bool × Cause) → Type 0
NoneApplies [] = ⊤
NoneApplies (asked ∷ rest) = (asked.0 ≡ false) × NoneApplies rest

pub none_applies : (asked : List (Bool × Cause)) → option_map (λ (a : Bool × Cause). a.1) (find (λ a. a.0) asked) ≡ None → NoneApplies asked
none_applies [] h = tt
none_applies ((true, c) ∷ rest) h = absurd (cc)
none_applies ((false, c) ∷ rest) h = (refl, none_applies rest h)

-- of two lists none of the second applies
pub none_behind : (xs ys : List (Bool × Cause)) → NoneApplies (xs ++ ys) → NoneApplies ys
none_behind [] ys h = h
none_behind (x ∷ xs) ys h = none_behind xs ys h.1

pub not_zero : (n : ℕ) → (n == 0) ≡ false → 0 < n
not_zero n h = grind arith

pub not_deep : (n : ℕ) → nat_le 32 n ≡ false → n < 32
not_deep n h = grind arith
