use Rattle.std.proofs.Common.{◌≡◌, ℕ, suc, ◌==◌, true, eqb-true, List, [], ◌∷◌, length, get_or, Option, None, refl, ap₂, sym, ◌∙◌, arith}
use Rattle.backward.specs.Places.{place_from}
use Rattle.backward.proofs.places.lowest_random.Goals as goal

nothing_noted : (found : List (Option ℕ)) (d : ℕ) → (length found == 0) ≡ true → get_or found d None ≡ None
nothing_noted [] d none = refl
nothing_noted (o ∷ found) d none = absurd (omega (arith, eqb-true (suc (length found)) 0 none))

pub returns-then-is_empty-2-clause-none : goal.returns-then-is_empty-2-clause-none
returns-then-is_empty-2-clause-none c d lt =
    ap₂ place_from (nothing_noted c.args.latest.now d (sym c.is_empty.ensures ∙ c.if-is_empty.true)) (nothing_noted c.args.lowest.now d (sym c.is_empty-then-is_empty.ensures ∙ c.if-is_empty-2.true))
