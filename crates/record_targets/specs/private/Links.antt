-- Lists of targets, linked in one list of links. A place is a number of links: its list begins with the last of that
-- many links, and at place 0 the list is empty. (This project's own.)
use Rattle.std.specs.Prelude.{◌≡◌, ◌<◌, ◌≤◌, ℕ, zero, suc, Bool, List, [], ◌∷◌, length, map, slice_index_or, All}
use Rattle.record_targets.specs.declared.record_lists.Link.{Link}
use Rattle.step_model.specs.TargetSets.{row_of_set}

abbrev pub no_link : Link
no_link = record { target = 0; next = 0 }

-- the targets of the list at a place, at most n of them
abbrev pub chain : List Link → ℕ → ℕ → List ℕ
chain links zero place = []
chain links (suc n) zero = []
chain links (suc n) (suc p) = (slice_index_or links p no_link).target ∷ chain links n (slice_index_or links p no_link).next

-- the list at a place
abbrev pub list_at : List Link → ℕ → List ℕ
list_at links place = chain links (length links) place

-- the rows of bits for which the lists at some places stand
abbrev pub rows_at : ℕ → List Link → List ℕ → List (List Bool)
rows_at targets links places = map (λ place. row_of_set targets (list_at links place)) places

-- each link leads to one before it
abbrev pub LeadBack : List Link → Type 0
LeadBack links = (p : ℕ) → p < length links → (slice_index_or links p no_link).next ≤ p

-- the targets of the lists at these places are below a bound
pub record AreLists (bound : ℕ) (links : List Link) (places : List ℕ) : Type 0 where
  pub back : LeadBack links
  pub placed : All (λ place. place ≤ length links) places
  pub below : All (λ place. All (λ target. target < bound) (list_at links place)) places

-- a list with each of some targets put in front of it, the last in front of all
abbrev pub put_before : List ℕ → List ℕ → List ℕ
put_before [] list = list
put_before (t ∷ ts) list = put_before ts (t ∷ list)

-- links with more put behind them: the lists at all earlier places stay
pub record IsGrown (links new_links : List Link) : Type 0 where
  pub back : LeadBack new_links
  pub longer : length links ≤ length new_links
  pub others : (k : ℕ) → k ≤ length links → list_at new_links k ≡ list_at links k

-- the list at a place, with some targets put before it, is at another place of more links
pub record IsPutAt (targets : List ℕ) (links : List Link) (place : ℕ) (new_links : List Link) (new_place : ℕ) : Type 0 where
  pub grown : IsGrown links new_links
  pub placed : new_place ≤ length new_links
  pub put : list_at new_links new_place ≡ put_before targets (list_at links place)
