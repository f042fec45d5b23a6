-- Products target by target: whether each star stands before a factor, and whether a product names one qubit twice. And
-- products beside a set of qubits: whether a product names some qubit of the set, as for one qubit whether a product names
-- it again. (Stim's circuit format, github.com/quantumlib/Stim, doc/file_format_stim_circuit.md, "Target Types";
-- a set is this project's own way of asking.)
use Rattle.std.specs.Prelude.{ℕ, ◌==◌, Bool, true, false, ◌&&◌, ◌||◌, List, [], ◌∷◌}
use Rattle.stim_parser.specs.declared.target.Target.{Target}
use Rattle.stim_parser.specs.declared.target.Target.TheVariants.{Pauli, Star}

-- a factor of a product, with a `!` or without
abbrev pub is_factor : Target → Bool
is_factor (Pauli inverted l q) = true
is_factor target = false

abbrev pub is_joining : Target → Bool
is_joining Star = true
is_joining target = false

abbrev pub begins_with_factor : List Target → Bool
begins_with_factor [] = false
begins_with_factor (target ∷ rest) = is_factor target

-- factors and stars, each star before a factor
abbrev pub are_factors : List Target → Bool
are_factors [] = true
are_factors (target ∷ rest) =
    (is_factor target || (is_joining target && begins_with_factor rest)) && are_factors rest

abbrev pub is_factor_at : ℕ → Target → Bool
is_factor_at q (Pauli inverted l p) = q == p
is_factor_at q target = false

-- what follows a factor in its product, a star and a factor each time, names this qubit
abbrev pub goes_on_with : ℕ → List Target → Bool
goes_on_with q [] = false
goes_on_with q (a ∷ []) = false
goes_on_with q (a ∷ b ∷ rest) = is_joining a && (is_factor_at q b || goes_on_with q rest)

abbrev pub names_again : Target → List Target → Bool
names_again (Pauli inverted l q) rest = goes_on_with q rest
names_again target rest = false

-- a product that names one qubit twice
abbrev pub has_product_of_one : List Target → Bool
has_product_of_one [] = false
has_product_of_one (target ∷ rest) = names_again target rest || has_product_of_one rest

-- ---- beside a set

-- a factor at a qubit of the set
abbrev pub is_factor_within : (ℕ → Bool) → Target → Bool
is_factor_within has (Pauli inverted l q) = has q
is_factor_within has target = false

-- what follows a factor in its product, a star and a factor each time, names a qubit of the set
abbrev pub goes_on_within : (ℕ → Bool) → List Target → Bool
goes_on_within has [] = false
goes_on_within has (a ∷ []) = false
goes_on_within has (a ∷ b ∷ rest) = is_joining a && (is_factor_within has b || goes_on_within has rest)

-- so does it, or a product of these targets names one qubit twice
abbrev pub repeats_within : (ℕ → Bool) → List Target → Bool
repeats_within has targets = goes_on_within has targets || has_product_of_one targets
