-- A list of numbers that is read before it is known how many things they number. (This project's own.)
use Rattle.std.specs.Prelude.{◌≡◌, ℕ, ◌<◌, ◌^◌, nat_lt, if◌then◌else◌, List, None, Some}
use Rattle.std.specs.List.{list_all}
use Rattle.std.specs.List.Sorted.{IsStrictlyIncreasing}
use Rattle.forward_sim.specs.Lists.{marks, numbers_of}

-- the numbers that a text lists, ascending: for any count it lists them where each is below that
pub record IsListOf (text numbers : List ℕ) : Type 0 where
  pub ascending : IsStrictlyIncreasing numbers
  pub marks : (count : ℕ) → numbers_of count text ≡ (if list_all (λ n. nat_lt n count) numbers then Some (marks count numbers) else None)

-- whatever the count, if it has 64 bits, a text is no list of numbers below it
abbrev pub IsNoList : List ℕ → Type 0
IsNoList text = (count : ℕ) → count < 2 ^ 64 → numbers_of count text ≡ None
