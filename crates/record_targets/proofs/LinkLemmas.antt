-- Lists of targets as links of one list of links: what a link more leaves, and targets put in front.
use Rattle.std.proofs.Common.{◌≡◌, ℕ, zero, suc, ◌+◌, ◌-◌, ◌<◌, ◌≤◌, Bool, false, List, [], ◌∷◌, ◌++◌, length, get_or, set, inl, inr, refl, ap, ap₂, subst, sym, ◌∙◌, arith}
use Rattle.std.specs.Prelude.{All, replicate}
use Rattle.std.proofs.Math.ListN.{get_or-append}
use Rattle.std.proofs.Math.Seq.{get_or-append_seam}
use Rattle.std.proofs.lemmas.List.{append_assoc, ext_get_or, get_or_default, get_or-map, get_or-replicate, length-append, length-replicate, length-map, map-set}
use Rattle.std.proofs.lemmas.List.Elements.{All-set}
use Rattle.std.proofs.lemmas.List.FromFn.{fill_by_all}
use Rattle.std.proofs.lemmas.Bool.{cases_lt}
use Rattle.pauli_word.specs.Parity.{exclusive_or}
use Rattle.pauli_word.proofs.Parities.{exclusive_or-false}
use Rattle.step_model.specs.Targets.{is_listed}
use Rattle.record_targets.specs.declared.record_lists.Link.{Link}
use Rattle.record_targets.specs.ListingSets.{toggled_each}
use Rattle.record_targets.specs.private.Links.{no_link, chain, list_at, rows_at, LeadBack, AreLists, IsGrown, IsPutAt, put_before}
use Rattle.record_targets.specs.private.RecordSets.{AreAsLong}
use Rattle.step_model.specs.TargetSets.{members, row_of_set}
use Rattle.record_targets.proofs.OrderLemmas.{map_agree_on}
use Rattle.record_targets.proofs.SetLemmas.{length-toggled_each, toggled_each_at}
use Rattle.step_model.proofs.MemberLemmas.{listed_in_range}
use Rattle.step_model.proofs.RowLemmas.{row_of_no_set, row_of_more, length-row_of_set, get_or-row_of_set}

-- ---- how many links are gone over, and which stand behind, changes no list
enough : (links : List Link) (n m k : ℕ) → LeadBack links → k ≤ length links → k ≤ n → k ≤ m → chain links n k ≡ chain links m k
enough links zero zero k back within kn km = refl
enough links zero (suc m) zero back within kn km = refl
enough links zero (suc m) (suc p) back within kn km = absurd (omega (arith, kn))
enough links (suc n) zero zero back within kn km = refl
enough links (suc n) zero (suc p) back within kn km = absurd (omega (arith, km))
enough links (suc n) (suc m) zero back within kn km = refl
enough links (suc n) (suc m) (suc p) back within kn km =
    let low : (get_or links p no_link).next ≤ p = back p (omega (arith, within)) in
    ap (λ l. (get_or links p no_link).target ∷ l)
    (enough links n m (get_or links p no_link).next back (omega (arith, low, within)) (omega (arith, low, kn)) (omega (arith, low, km)))

pub list_at-none : (links : List Link) → list_at links 0 ≡ []
list_at-none links = none (length links)
  where
    none : (n : ℕ) → chain links n 0 ≡ []
    none zero = refl
    none (suc n) = refl

-- the first of a list, and the rest
pub list_at-first : (links : List Link) (place : ℕ) → LeadBack links → 0 < place → place ≤ length links
    → list_at links place ≡ (get_or links (place - 1) no_link).target ∷ list_at links (get_or links (place - 1) no_link).next
list_at-first links zero back some within = absurd (omega (arith, some))
list_at-first links (suc p) back some within =
    let before : p ≡ suc p - 1 = omega arith in
    enough links (length links) (suc (length links)) (suc p) back within within (omega (arith, within))
    ∙ ap (λ q. (get_or links q no_link).target ∷ list_at links (get_or links q no_link).next) before

chain-append : (links more : List Link) (n k : ℕ) → LeadBack links → k ≤ length links → chain (links ++ more) n k ≡ chain links n k
chain-append links more zero k back within = refl
chain-append links more (suc n) zero back within = refl
chain-append links more (suc n) (suc p) back within =
    let low : (get_or links p no_link).next ≤ p = back p (omega (arith, within)) in
    ap (λ link. link.target ∷ chain (links ++ more) n link.next) (get_or-append links more no_link p (omega (arith, within)))
    ∙ ap (λ l. (get_or links p no_link).target ∷ l) (chain-append links more n (get_or links p no_link).next back (omega (arith, low, within)))

list_at-append : (links more : List Link) (k : ℕ) → LeadBack links → k ≤ length links → list_at (links ++ more) k ≡ list_at links k
list_at-append links more k back within =
    chain-append links more (length (links ++ more)) k back within
    ∙ enough links (length (links ++ more)) (length links) k back within (omega (arith, within, length-append links more)) within

-- ---- a target put in front
LeadBack-more : (links : List Link) (link : Link) → LeadBack links → link.next ≤ length links → LeadBack (links ++ link ∷ [])
LeadBack-more links link back low p lt =
    elim (cases_lt p (length links)) as (λ _. (get_or (links ++ link ∷ []) p no_link).next ≤ p) [
      | inl within ↦
          let same = ap (λ (l : Link). l.next) (get_or-append links (link ∷ []) no_link p within) in
          let there : (get_or links p no_link).next ≤ p = back p within in
          omega (arith, same, there)
      | inr past ↦
          let last : length links ≡ p = omega (arith, past, lt, length-append links (link ∷ [])) in
          let same = ap (λ (l : Link). l.next) (ap (λ q. get_or (links ++ link ∷ []) q no_link) (sym last) ∙ get_or-append_seam links link [] no_link) in
          omega (arith, same, low, last)
    ]

pub grown_none : (links : List Link) → LeadBack links → IsGrown links links
grown_none links back = record { back = back; longer = omega arith; others = λ k low. refl }

pub grown_on : (links more most : List Link) → IsGrown links more → IsGrown more most → IsGrown links most
grown_on links more most first second =
    record {
      back = second.back;
      longer = omega (arith, first.longer, second.longer);
      others = λ k low. second.others k (omega (arith, low, first.longer)) ∙ first.others k low;
    }

pub put_in_front : (target : ℕ) (links : List Link) (place : ℕ) → LeadBack links → place ≤ length links
    → IsPutAt (target ∷ []) links place (links ++ record { target = target; next = place } ∷ []) (length (links ++ record { target = target; next = place } ∷ []))
put_in_front target links place back within =
    record {
      grown = record { back = leads; longer = omega (arith, long); others = λ k low. list_at-append links (link ∷ []) k back low };
      placed = omega arith;
      put =
          ap (list_at more) long
          ∙ (list_at-first more (length links + 1) leads (omega arith) (omega (arith, long))
          ∙ (ap (λ (l : Link). l.target ∷ list_at more l.next) last
          ∙ ap (λ l. target ∷ l) (list_at-append links (link ∷ []) place back within)));
    }
  where
    link : Link
    link = record { target = target; next = place }

    more : List Link
    more = links ++ link ∷ []

    long : length more ≡ length links + 1
    long = length-append links (link ∷ [])

    leads : LeadBack more
    leads = LeadBack-more links link back within

    last : get_or more (length links + 1 - 1) no_link ≡ link
    last = let before : length links + 1 - 1 ≡ length links = omega arith in ap (λ q. get_or more q no_link) before ∙ get_or-append_seam links link [] no_link

-- ---- a list read off
pub list_at-read : (links : List Link) (place : ℕ) (read rest whole : List ℕ) → LeadBack links → 0 < place → place ≤ length links → read ++ list_at links place ≡ whole
    → rest ≡ read ++ (get_or links (place - 1) no_link).target ∷ [] → rest ++ list_at links (get_or links (place - 1) no_link).next ≡ whole
list_at-read links place read rest whole back some within so_far next =
    let link = get_or links (place - 1) no_link in
    ap (λ l. l ++ list_at links link.next) next
    ∙ (append_assoc read (link.target ∷ []) (list_at links link.next)
    ∙ (ap (λ l. read ++ l) (sym (list_at-first links place back some within)) ∙ so_far))

-- ---- the set of a record
pub rows_counted : (m : ℕ) (links : List Link) (places : List ℕ) (rows : List (List Bool)) → rows_at m links places ≡ rows → length places ≡ length rows
rows_counted m links places rows is = sym (length-map places (λ k. row_of_set m (list_at links k))) ∙ ap length is

-- the row of a list at a place that is read from the places
pub row_at : (m rec place : ℕ) (links : List Link) (places : List ℕ) (rows : List (List Bool)) → rows_at m links places ≡ rows → rec < length rows → place ≡ get_or places rec place
    → row_of_set m (list_at links place) ≡ get_or rows rec []
row_at m rec place links places rows is low read =
    ap row read ∙ (sym (get_or-map row places rec place [] within) ∙ ap (λ (r : List (List Bool)). get_or r rec []) is)
  where
    row : ℕ → List Bool
    row k = row_of_set m (list_at links k)

    within : rec < length places
    within = omega (arith, low, rows_counted m links places rows is)

-- the row of a record that has no list
pub row_of_no_list : (m rec place : ℕ) (links : List Link) (places : List ℕ) (rows : List (List Bool)) → rows_at m links places ≡ rows → rec < length rows → place ≡ get_or places rec place → place ≡ 0
    → get_or rows rec [] ≡ replicate (length (get_or rows rec [])) false
row_of_no_list m rec place links places rows is low read none =
    let row : row_of_set m (list_at links place) ≡ get_or rows rec [] = row_at m rec place links places rows is low read in
    let empty : list_at links place ≡ [] = ap (list_at links) none ∙ list_at-none links in
    sym row
    ∙ (ap (row_of_set m) empty
    ∙ (row_of_no_set m
    ∙ ap (λ n. replicate n false) (sym (sym (ap length row) ∙ length-row_of_set m (list_at links place)))))

-- where targets are low in the view of a set, its record has a place, and they are below the number of targets
pub low_at : (m rec place : ℕ) (links : List Link) (places : List ℕ) (rows : List (List Bool)) (targets : List ℕ) → rows_at m links places ≡ rows → rec < length rows → place ≡ get_or places rec place
    → All (λ t. t < length (get_or rows rec [])) targets → (rec < length places) × All (λ t. t < m) targets
low_at m rec place links places rows targets is low read below =
    let row = row_at m rec place links places rows is low read in (
      omega (arith, low, rows_counted m links places rows is),
      subst (λ n. All (λ t. t < n) targets) (sym (ap length row) ∙ length-row_of_set m (list_at links place)) below,
    )

pub below_at : (m rec place : ℕ) (links : List Link) (places : List ℕ) (rows : List (List Bool)) → AreLists m links places → rows_at m links places ≡ rows → rec < length rows → place ≡ get_or places rec place
    → All (λ t. t < m) (list_at links place)
below_at m rec place links places rows lists is low read =
    let within : rec < length places = omega (arith, low, rows_counted m links places rows is) in
    subst (λ k. All (λ t. t < m) (list_at links k)) (sym read) (lists.below rec place within)

-- ---- the lists of all records
below_put : (m : ℕ) (targets list : List ℕ) → All (λ t. t < m) targets → All (λ t. t < m) list → All (λ t. t < m) (put_before targets list)
below_put m [] list low below = below
below_put m (t ∷ ts) list low below =
    below_put m ts (t ∷ list) (λ k d lt. low (suc k) d (omega (arith, lt))) more
  where
    more : All (λ t. t < m) (t ∷ list)
    more zero d lt = low 0 d (omega arith)
    more (suc k) d lt = below k d (omega (arith, lt))

pub lists_put : (m r : ℕ) (links : List Link) (places : List ℕ) (place : ℕ) (new_links : List Link) (new_place : ℕ) (targets : List ℕ) → AreLists m links places → r < length places → place ≡ get_or places r place
    → All (λ t. t < m) targets → IsPutAt targets links place new_links new_place → AreLists m new_links (set places r new_place)
lists_put m r links places place new_links new_place targets lists within read low t =
    record {
      back = t.grown.back;
      placed = All-set (λ k. k ≤ length new_links) places r new_place t.placed (λ k d lt. let before : get_or places k d ≤ length links = lists.placed k d lt in omega (arith, before, t.grown.longer));
      below =
          All-set (λ k. All (λ t. t < m) (list_at new_links k)) places r new_place
          (subst (All (λ t. t < m)) (sym t.put) (below_put m targets (list_at links place) low (subst (λ k. All (λ t. t < m) (list_at links k)) (sym read) (lists.below r place within))))
          (λ k d lt. subst (All (λ t. t < m)) (sym (t.grown.others (get_or places k d) (lists.placed k d lt))) (lists.below k d lt));
    }

row_of_put : (m : ℕ) (targets list : List ℕ) → All (λ t. t < m) targets → row_of_set m (put_before targets list) ≡ toggled_each targets (row_of_set m list)
row_of_put m [] list low = refl
row_of_put m (t ∷ ts) list low =
    let first : t < m = low 0 t (omega arith) in
    row_of_put m ts (t ∷ list) (λ k d lt. low (suc k) d (omega (arith, lt)))
    ∙ ap (toggled_each ts) (row_of_more m t list first)

pub rows_put : (m r : ℕ) (links : List Link) (places : List ℕ) (place : ℕ) (new_links : List Link) (new_place : ℕ) (targets : List ℕ) → LeadBack links → All (λ k. k ≤ length links) places → r < length places → place ≡ get_or places r place
    → All (λ t. t < m) targets → IsPutAt targets links place new_links new_place → rows_at m new_links (set places r new_place) ≡ set (rows_at m links places) r (toggled_each targets (get_or (rows_at m links places) r []))
rows_put m r links places place new_links new_place targets back placed within read low t =
    map-set row places r new_place
    ∙ ap₂ (λ rows bits. set rows r bits)
    (map_agree_on row (λ k. row_of_set m (list_at links k)) places (λ k d lt. ap (row_of_set m) (t.grown.others (get_or places k d) (placed k d lt))))
    (ap (row_of_set m) t.put
    ∙ (row_of_put m targets (list_at links place) low
    ∙ ap (toggled_each targets) (ap (λ k. row_of_set m (list_at links k)) read ∙ sym (get_or-map (λ k. row_of_set m (list_at links k)) places r place [] within))))
  where
    row : ℕ → List Bool
    row k = row_of_set m (list_at new_links k)

-- the lists stay where only links were added
pub lists_grown : (m : ℕ) (links new_links : List Link) (places : List ℕ) → AreLists m links places → IsGrown links new_links → AreLists m new_links places
lists_grown m links new_links places lists t =
    record {
      back = t.back;
      placed = λ k d lt. let before : get_or places k d ≤ length links = lists.placed k d lt in omega (arith, before, t.longer);
      below = λ k d lt. subst (All (λ t. t < m)) (sym (t.others (get_or places k d) (lists.placed k d lt))) (lists.below k d lt);
    }

-- ---- no links
pub no_lists : (m n : ℕ) → AreLists m [] (replicate n 0)
no_lists m n =
    record {
      back = λ p lt. absurd (omega (arith, lt));
      placed = λ k d lt. let none : get_or zeros k d ≡ 0 = get_or-replicate n k zero d (omega (arith, lt, length-replicate n zero)) in omega (arith, none);
      below = λ k d lt. subst (λ place. All (λ t. t < m) (list_at [] place)) (sym (get_or-replicate n k zero d (omega (arith, lt, length-replicate n zero)))) (λ q e at. absurd (omega (arith, at)));
    }
  where
    zeros : List ℕ
    zeros = replicate n 0

pub no_rows : (m n : ℕ) → rows_at m [] (replicate n 0) ≡ replicate n (replicate m false)
no_rows m zero = refl
no_rows m (suc n) = ap₂ (λ row rows. row ∷ rows) (row_of_no_set m) (no_rows m n)

-- ---- a list as a set, each of its targets toggled
pub toggled_from_none : (m : ℕ) (set : List ℕ) → toggled_each set (replicate m false) ≡ row_of_set m set
toggled_from_none m set =
    fill_by_all (is_listed set) (toggled_each set (replicate m false)) m false
    (length-toggled_each set (replicate m false) ∙ length-replicate m false)
    (λ k lt. toggled_each_at set k (replicate m false) (omega (arith, lt, length-replicate m false))
    ∙ (ap (λ b. exclusive_or (is_listed set k) b) (get_or-replicate m k false false lt) ∙ exclusive_or-false (is_listed set k)))

-- all rows are of the number of targets
pub rows_of_length : (m : ℕ) (links : List Link) (places : List ℕ) (rows : List (List Bool)) (k : ℕ) → rows_at m links places ≡ rows → k < length rows → length (get_or rows k []) ≡ m
rows_of_length m links places rows k is low =
    sym (ap length (row_at m k (get_or places k 0) links places rows is low (get_or_default places k 0 _ within)))
    ∙ length-row_of_set m (list_at links (get_or places k 0))
  where
    within : k < length places
    within = omega (arith, low, ap length is, length-map places (λ place. row_of_set m (list_at links place)))

-- the members of a row, toggled in a row of none, make the row
pub put_members : (row : List Bool) (list : List ℕ) (none : List Bool) → list ≡ members row → none ≡ replicate (length row) false → toggled_each list none ≡ row
put_members row list none is blank =
    ap₂ toggled_each is blank
    ∙ (toggled_from_none (length row) (members row)
    ∙ ext_get_or false (row_of_set (length row) (members row)) row (length-row_of_set (length row) (members row))
    (λ k lt.
    let within : k < length row = omega (arith, lt, length-row_of_set (length row) (members row)) in
    get_or-row_of_set (length row) (members row) k within ∙ listed_in_range (λ t. get_or row t false) k 0 (length row) (omega arith) (omega (arith, within))))

-- all rows are of the number of targets, so they stay as long
pub rows_as_long : (m : ℕ) (links new_links : List Link) (places new_places : List ℕ) (rows : List (List Bool)) → rows_at m links places ≡ rows → length new_places ≡ length places → AreAsLong rows (rows_at m new_links new_places)
rows_as_long m links new_links places new_places rows is same =
    let new_rows = rows_at m new_links new_places in
    let count : length new_rows ≡ length rows = omega (arith, rows_counted m new_links new_places new_rows refl, same, rows_counted m links places rows is) in
    record {
      len = count;
      long = λ n all k d lt.
          let within : k < length rows = omega (arith, lt, count) in
          ap length (get_or_default new_rows k d [] lt)
          ∙ (rows_of_length m new_links new_places new_rows k refl lt
          ∙ (sym (rows_of_length m links places rows k is within) ∙ all k [] within));
    }

-- ---- one list made empty
pub lists_without : (m r : ℕ) (links : List Link) (places : List ℕ) → AreLists m links places → AreLists m links (set places r 0)
lists_without m r links places lists =
    record {
      back = lists.back;
      placed = All-set (λ k. k ≤ length links) places r 0 (omega arith) lists.placed;
      below =
          All-set (λ k. All (λ t. t < m) (list_at links k)) places r 0
          (subst (All (λ t. t < m)) (sym (list_at-none links)) (λ k d lt. absurd (omega (arith, lt))))
          lists.below;
    }

pub rows_without : (m n r : ℕ) (links : List Link) (places : List ℕ) (rows : List (List Bool)) → rows_at m links places ≡ rows → r < length rows → All (λ set. length set ≡ n) rows → rows_at m links (set places r 0) ≡ set rows r (replicate n false)
rows_without m n r links places rows is within all =
    map-set (λ place. row_of_set m (list_at links place)) places r 0
    ∙ ap₂ (λ rows bits. set rows r bits) is
    (ap (row_of_set m) (list_at-none links)
    ∙ (row_of_no_set m ∙ ap (λ k. replicate k false) (sym (rows_of_length m links places rows r is within) ∙ all r [] within)))
