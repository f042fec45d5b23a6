-- Lists that are made item by item: those that are ended, and the items of the next one.
-- (This project's own.)
use Rattle.std.specs.Prelude.{List, refl}
use Rattle.std.specs.Coded.{Coded, code_by, coded×, coded_list}

pub record Growing (T : Type 0) : Type 0 where
  pub lists : List (List T)
  pub next : List T

-- how they are stored, for the types that are seen as them
abbrev pub coded_growing : {T : Type 0} → Coded T → Coded (Growing T)
coded_growing {T} item =
    code_by (List (List T) × List T) (coded× (coded_list (coded_list item)) (coded_list item)) (λ g. (g.lists, g.next))
    (λ p. record { lists = p.0; next = p.1 })
    (λ _. refl)
