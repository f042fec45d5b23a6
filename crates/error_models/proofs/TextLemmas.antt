-- The text of coordinates where there are some.
use Rattle.std.proofs.Common.{◌≡◌, ◌≤◌, ◌-◌, List, [], ◌∷◌, ◌++◌, length, get_or, take, drop, sym, ap, arith, pos}
use Rattle.std.specs.Prelude.{ℤ, codes}
use Rattle.std.specs.Fmt.{signed_decimal}
use Rattle.std.proofs.lemmas.List.{take_all}
use Rattle.error_models.specs.ModelText.{more_coordinates_text, coordinates_text}

pub coordinates_text-parts : (cs : List ℤ) → 1 ≤ length cs
    → coordinates_text cs ≡ codes "(" ++ signed_decimal (get_or cs 0 (pos 0)) ++ more_coordinates_text (take (length cs - 1) (drop 1 cs)) ++ codes ")"
coordinates_text-parts [] h = absurd (omega arith)
coordinates_text-parts (c ∷ cs) h =
    ap (λ more. codes "(" ++ signed_decimal c ++ more_coordinates_text more ++ codes ")") (sym (take_all (length (c ∷ cs) - 1) cs (omega arith)))
