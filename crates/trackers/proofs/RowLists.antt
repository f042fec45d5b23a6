-- The places at which a row of bits has a one, listed one after another within a word of 64 of them.
use Rattle.std.proofs.Common.{◌≡◌, ℕ, ◌+◌, ◌-◌, ◌<◌, ◌≤◌, List, [], ◌∷◌, ◌++◌, Bool, true, false, cond, eqb, length, get_or, refl, ap, sym, ◌∙◌, arith, ⊎_elim}
use Rattle.std.specs.Prelude.{filter}
use Rattle.std.specs.List.{range_with_len}
use Rattle.std.proofs.lemmas.Bool.{cases_eq, cases_lt, eq-eqb, ne_eqb, true≢false}
use Rattle.std.proofs.lemmas.List.{get_or_past}
use Rattle.bit_rows.specs.Lanes.{lane_bit}
use Rattle.step_model.specs.TargetSets.{members}
use Rattle.step_model.proofs.MemberLemmas.{filter_range_taken}
use Rattle.trackers.proofs.MemberLists.{none_chosen}

-- the places before a number at which the row has a one
abbrev pub listed_below : List Bool → ℕ → List ℕ
listed_below row n = filter (λ t. get_or row t false) (range_with_len 0 n)

-- Of the 64 places from `base` on those before some lane are listed, and the lanes from it on are left. There is room for those.
pub record IsUnderWay (row : List Bool) (base rest : ℕ) (items : List ℕ) (len capacity : ℕ) : Type 0 where
  pub start : ℕ
  pub within : start ≤ 64
  pub listed : items ≡ listed_below row (base + start)
  pub gone : (j : ℕ) → j < start → lane_bit j rest ≡ false
  pub left : (j : ℕ) → start ≤ j → j < 64 → lane_bit j rest ≡ get_or row (base + j) false
  pub room : len + (64 - start) ≤ capacity

pub begun : (row : List Bool) (base rest : ℕ) (items : List ℕ) (len capacity : ℕ) → items ≡ listed_below row base → ((j : ℕ) → j < 64 → lane_bit j rest ≡ get_or row (base + j) false)
    → len + 64 ≤ capacity → IsUnderWay row base rest items len capacity
begun row base rest items len capacity listed same room =
    record {
      start = 0;
      within = omega arith;
      listed = let e : base ≡ base + 0 = omega arith in listed ∙ ap (listed_below row) e;
      gone = λ j h. absurd (omega (arith, h));
      left = λ j from below. same j below;
      room = omega (arith, room);
    }

module _ (row : List Bool) (base rest : ℕ) (items : List ℕ) (len capacity : ℕ) (held : IsUnderWay row base rest items len capacity) where
  -- before a lane from which on lanes may be left no place has a one
  none_to : (lane : ℕ) → held.start ≤ lane → lane ≤ 64 → ((j : ℕ) → j < lane → lane_bit j rest ≡ false) → items ≡ listed_below row (base + lane)
  none_to lane from within none =
      held.listed
      ∙ none_chosen (λ t. get_or row t false) (base + held.start) (lane - held.start) (base + lane) (omega (arith, from))
      (λ t low high.
      let j : ℕ = t - base in
      let here : base + j ≡ t = omega (arith, low) in
      sym (ap (λ v. get_or row v false) here) ∙ (sym (held.left j (omega (arith, low)) (omega (arith, high, within))) ∙ none j (omega (arith, low, high))))

  module _ (lane : ℕ) (below : lane < 64) (set : lane_bit lane rest ≡ true) where
    -- a lane that is left comes after those that are listed
    pub comes_after : held.start ≤ lane
    comes_after = ⊎_elim (λ (h : lane < held.start). absurd (true≢false (sym set ∙ held.gone lane h))) (λ (h : held.start ≤ lane). h) (cases_lt lane held.start)

    pub one_there : get_or row (base + lane) false ≡ true
    one_there = sym (held.left lane comes_after below) ∙ set

    pub room_there : len < capacity
    room_there = omega (arith, held.room, comes_after, below)

    -- the first lane that is left is listed, and taken out
    pub one_more : (next : ℕ) (more : List ℕ) (len_then capacity_then : ℕ) → ((j : ℕ) → j < lane → lane_bit j rest ≡ false) → ((j : ℕ) → lane_bit j next ≡ cond (eqb j lane) false (lane_bit j rest))
        → more ≡ items ++ (base + lane) ∷ [] → len_then ≡ len + 1 → capacity_then ≡ capacity → IsUnderWay row base next more len_then capacity_then
    one_more next more len_then capacity_then before taken put longer as_roomy =
        let from : held.start ≤ lane = comes_after in
        record {
          start = lane + 1;
          within = omega (arith, below);
          listed = put ∙ filter_range_taken (λ t. get_or row t false) (base + lane) items one_there (none_to lane from (omega (arith, below)) before) ∙ ap (listed_below row) next_place;
          gone = λ j h. taken j ∙ ⊎_elim
              (λ e. ap (λ b. cond b false (lane_bit j rest)) (eq-eqb j lane e))
              (λ ne. ap (λ b. cond b false (lane_bit j rest)) (ne_eqb j lane ne) ∙ before j (omega (arith, h, ne)))
              (cases_eq j lane);
          left = λ j low high. taken j ∙ (ap (λ b. cond b false (lane_bit j rest)) (ne_eqb j lane (λ e. omega (arith, low, e))) ∙ held.left j (omega (arith, low, from)) high);
          room = omega (arith, held.room, from, below, longer, as_roomy);
        }
      where
        next_place : base + lane + 1 ≡ base + (lane + 1)
        next_place = omega arith

  -- none is left
  pub all_listed : ((j : ℕ) → j < 64 → lane_bit j rest ≡ false) → items ≡ listed_below row (base + 64)
  all_listed none = none_to 64 held.within (omega arith) none

-- the places of a word of zeros
pub none_in_word : (row : List Bool) (base : ℕ) (items : List ℕ) → items ≡ listed_below row base → ((j : ℕ) → j < 64 → get_or row (base + j) false ≡ false) → items ≡ listed_below row (base + 64)
none_in_word row base items listed none =
    listed
    ∙ none_chosen (λ t. get_or row t false) base 64 (base + 64) refl
    (λ t low high. let here : base + (t - base) ≡ t = omega (arith, low) in sym (ap (λ v. get_or row v false) here) ∙ none (t - base) (omega (arith, high)))

-- past the row no place has a one
pub listed_all : (row : List Bool) (n : ℕ) → length row ≤ n → listed_below row n ≡ members row
listed_all row n long =
    sym (none_chosen (λ t. get_or row t false) (length row) (n - length row) n (omega (arith, long)) (λ t low high. get_or_past row t false low))
