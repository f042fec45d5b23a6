-- Turns that repeat, gone back over at once: what is kept before them.
use Rattle.std.proofs.Common.{◌≡◌, ℕ, ◌+◌, ◌-◌, ◌*◌, ◌<◌, ◌≤◌, Bool, true, false, List, length, take, drop, refl, ap, subst, sym, ◌∙◌, arith}
use Rattle.std.specs.Prelude.{All}
use Rattle.step_model.specs.Targets.{targets_of}
use Rattle.step_model.specs.WellFormed.{IsWellFormed, collapse_count, faults_named, records_made, step_faults}
use Rattle.step_model.specs.Listing.{Applies, Effect, Fault, Flips, ListedFault, Listing, effect_word, fault_at}
use Rattle.std.proofs.lemmas.Option.{slice_get-get_or}
use Rattle.circuit_walk.specs.Programs.{KeptProgram}
use Rattle.circuit_walk.specs.Turns.{AreFedFrom, Repeat, RepeatFaults, moved_effect, moved_fault}
use Rattle.circuit_walk.specs.Programs.{Walked}
use Rattle.trackers.specs.Tracked.{Fit, Tracked, restored}
use Rattle.backward.specs.declared.found.Found.{Found}
use Rattle.backward.specs.declared.turns.Period.{Period}
use Rattle.backward.specs.private.MovedTargets.{grown_list, grown_lists}
use Rattle.backward.specs.private.Passes.{HoldsLists, IsPassed, records_before, tracked_before}
use Rattle.backward.specs.private.Repeats.{AreMoved, AreRepeated}
use Rattle.backward.specs.private.Stretches.{lines_between}
use Rattle.backward.specs.private.TurnLines.{AreClear, turn_lines}
use Rattle.backward.specs.private.Turns.{IsPeriod}
use Rattle.backward.proofs.TurnLemmas.{step_of}
use Rattle.backward.proofs.LinesTurned.{FaultAlike}
use Rattle.std.proofs.lemmas.List.{length-map}
use Rattle.backward.proofs.GrownLists.{below-grown_lists}
use Rattle.backward.proofs.PassWords.{words_count}
use Rattle.backward.proofs.PassSteps.{words_of_size}
use Rattle.backward.proofs.TurnPasses.{Knows, judged_turns, lines_turned, none_turns, words_turns}
use Rattle.backward.proofs.PassRecords.{records_before-earlier}
use Rattle.backward.proofs.TurnRecords.{lists_stay, none_turned, own_turned}

-- how many records' lists are held with so many records before a place: as many as before where lists are kept
pub record IsKnownAt {A : Type 0} (found : Found A) (records known : ℕ) : Type 0 where
  pub kept : found.keeps ≡ true → known ≡ found.known
  pub fewer : found.keeps ≡ false → known ≡ records

-- a fault that does the same a turn later
moved_word : (n records : ℕ) (e : Effect) → effect_word n (moved_effect records e) ≡ effect_word n e
moved_word n records (Applies terms) = refl
moved_word n records (Flips r) = refl

fault_alike : (program : Listing) (records faults f : ℕ) → fault_at program (f + faults) ≡ moved_fault records (fault_at program f) → FaultAlike program faults f
fault_alike program records faults f e =
    record {
      text = ap (λ (g : ListedFault). g.text) e;
      word = ap (λ (g : ListedFault). effect_word program.qubits g.effect) e ∙ moved_word program.qubits records (fault_at program f).effect;
    }

module _ {A : Type 0} (program : KeptProgram) (found : Found A) (period : Period A) (fits : IsWellFormed program.listing) (h : IsPeriod program found period) (from turns faults : ℕ)
    (back : period.point.walk.place ≡ from + turns * (period.later.walk.place - period.point.walk.place))
    (repeat : Repeat program.listing.steps from period.point.walk.place (period.later.walk.place - period.point.walk.place) (records_before program.listing period.later.walk.place - records_before program.listing period.point.walk.place) faults)
    (low : period.low ≤ records_before program.listing from) where
  abbrev to : ℕ
  to = period.point.walk.place

  abbrev steps : ℕ
  steps = period.later.walk.place - period.point.walk.place

  later_is : period.later.walk.place ≡ to + steps
  later_is = let less = h.earlier in omega (arith, less)

  knows : Knows program.listing from to steps faults period.low period.shift
  knows =
      record {
        fits = fits;
        repeat = subst (λ k. Repeat program.listing.steps from to steps (records_before program.listing k - records_before program.listing to) faults) later_is repeat;
        back = omega (arith, back);
        some = let less = h.earlier in omega (arith, less);
        lowest = low;
        shift = h.shift;
        moved = subst (AreMoved program.listing period.shift to) later_is h.moved;
        repeated = subst (AreRepeated program.listing period.shift period.low to) later_is h.repeated;
        clear = subst (λ k. AreClear period.shift (lines_between program.listing to k)) later_is h.clear;
      }

  -- the lists that are held at the start of the turns
  fed_from : (low : ℕ) → AreFedFrom program.listing.steps low to period.later.walk.place → AreFedFrom program.listing.steps low to (to + steps)
  fed_from low fed = subst (AreFedFrom program.listing.steps low to) later_is fed

  within : to + steps ≤ length program.listing.steps
  within = let le = h.within in omega (arith, le, later_is)

  more : records_before program.listing (to + steps) ≡ records_before program.listing to + (records_before program.listing (to + steps) - records_before program.listing to)
  more = let up = records_before-earlier program.listing to (to + steps) (omega arith) in omega (arith, up)

  earlier : from ≤ to
  earlier = omega (arith, back)

  held_for : (known : ℕ) → records_before program.listing from ≤ known → known ≤ found.known → AreFedFrom program.listing.steps known from to → HoldsLists program.listing false from known found.lists
  held_for known enough less fed =
      let lists = h.lists in
      let few = lists.few in
      record {
        size = lists.size;
        long = lists.long;
        rows = λ r lt. lists.rows r (omega (arith, lt, less)) ∙ sym (lists_stay program.listing known from to r fed (omega (arith, within)) earlier lt);
        enough = enough;
        few = omega (arith, few, less);
      }

  held : (known : ℕ) → IsKnownAt found (records_before program.listing from) known → (keeps : Bool) → found.keeps ≡ keeps → HoldsLists program.listing false from known found.lists
  held known is true e =
      let same = is.kept e in
      let up = records_before-earlier program.listing from to earlier in
      let enough = h.lists.enough in
      held_for known (omega (arith, same, up, enough)) (omega (arith, same))
      (none_turned program.listing from to steps _ faults (knows.repeat) more (λ low. fed_from low (h.turn.none e low)) turns (sym back) known)
  held known is false e =
      let same = is.fewer e in
      let up = records_before-earlier program.listing from to earlier in
      let enough = h.lists.enough in
      held_for known (omega (arith, same)) (omega (arith, same, up, enough))
      (subst (λ n. AreFedFrom program.listing.steps n from to) (sym same) (own_turned program.listing from to steps _ faults (knows.repeat) more (fed_from _ h.turn.own) turns (sym back)))

  pub lines_passed : RepeatFaults program.listing from to (records_before program.listing period.later.walk.place - records_before program.listing to) faults
      → lines_between program.listing from to ≡ turn_lines period.shift.staying period.shift.by turns (lines_between program.listing to period.later.walk.place)
  lines_passed alike =
      lines_turned program.listing from to steps faults period.low period.shift knows each turns (sym back)
      ∙ ap (λ k. turn_lines period.shift.staying period.shift.by turns (lines_between program.listing to k)) (sym later_is)
    where
      each : (k : ℕ) → from ≤ k → k < to → All (FaultAlike program.listing faults) (step_faults (step_of program.listing k))
      each k le lt i d less =
          let within = h.point.within in
          let one = alike.each k (step_of program.listing k) le lt (slice_get-get_or program.listing.steps k (Fault 0) (omega (arith, lt, within))) i d less in
          fault_alike program.listing _ faults _ one

  module _ (t : Tracked) (qubits : t.qubits ≡ program.listing.qubits) (size : length t.words ≡ length (targets_of program.listing)) where
    pub moved_fit : Fit t (grown_lists period.shift turns period.point.lists)
    moved_fit =
        let fit = h.point.words.fit in
        record {
          two_each = length-map period.point.lists (grown_list period.shift turns) ∙ (fit.two_each ∙ ap (λ n. 2 * n) (sym qubits));
          named =
              below-grown_lists (length t.words) period.shift turns period.point.lists
              (subst (λ m. All (All (λ k. k < m)) period.point.lists) (words_count program.listing (drop to program.listing.steps) ∙ sym size) fit.named);
        }

    pub turns_passed : (left known : ℕ) → left ≡ collapse_count (take from program.listing.steps) → IsKnownAt found (records_before program.listing from) known
        → IsPassed program.listing from (restored (grown_lists period.shift turns period.point.lists) t) (record found { left = left; known = known })
    turns_passed left known left_is known_is =
        record {
          within = let within = h.point.within in omega (arith, back, within);
          words = words_turns program.listing from to steps faults period.low period.shift knows period.point.lists t turns (sym back) h.point.words qubits size;
          lists = subst (λ b. HoldsLists program.listing b from known found.lists) (sym h.unsettled) (held known known_is found.keeps refl);
          judged = judged_turns program.listing found.settled from found.latest.items left fits h.none_latest (λ e. none_turns program.listing from to steps faults period.low period.shift knows h.none_placed) (λ e. left_is);
        }

-- what a walk that passed turns leaves, and lists that were moved as often
pub record Jumped {A : Type 0} (program : KeptProgram) (found : Found A) (period : Period A) (new : Walked) (turns : ℕ) (t : Tracked) (lists : List (List ℕ)) : Type 0 where
  pub fit : Fit t lists
  pub passed : (u : Tracked) (left known : ℕ) → u ≡ restored lists t → left ≡ collapse_count (take new.place new.program.listing.steps) → IsKnownAt found (length (records_made (take new.place new.program.listing.steps))) known
      → IsPassed program.listing new.place u (record found { left = left; known = known })
  pub below : new.place ≤ period.point.walk.place
  pub lines : lines_between program.listing new.place period.point.walk.place
      ≡ turn_lines period.shift.staying period.shift.by turns (lines_between program.listing period.point.walk.place period.later.walk.place)

pub jumped : {A : Type 0} (program : KeptProgram) (found : Found A) (period : Period A) (walk new : Walked) (turns place : ℕ) (t : Tracked) (lists : List (List ℕ)) (records : ℕ) → IsWellFormed program.listing → IsPeriod program found period
    → walk ≡ period.point.walk → new.program ≡ walk.program → walk.place ≡ new.place + turns * (period.later.walk.place - walk.place)
    → Repeat walk.program.listing.steps new.place walk.place (period.later.walk.place - walk.place)
    (length (records_made (take period.later.walk.place walk.program.listing.steps)) - length (records_made (take walk.place walk.program.listing.steps)))
    (length (faults_named (take period.later.walk.place walk.program.listing.steps)) - length (faults_named (take walk.place walk.program.listing.steps)))
    → RepeatFaults walk.program.listing new.place walk.place
    (length (records_made (take period.later.walk.place walk.program.listing.steps)) - length (records_made (take walk.place walk.program.listing.steps)))
    (length (faults_named (take period.later.walk.place walk.program.listing.steps)) - length (faults_named (take walk.place walk.program.listing.steps)))
    → records ≡ length (records_made (take new.place new.program.listing.steps)) → period.low ≤ records → lists ≡ grown_lists period.shift turns period.point.lists
    → t ≡ tracked_before program.listing (drop place program.listing.steps) → Jumped program found period new turns t lists
jumped {A} program found period walk new turns place t lists records fits h walk_is new_is back repeat alike records_are low lists_are words =
    record {
      fit = subst (Fit t) (sym lists_are) (moved_fit program found period fits h new.place turns _ here there enough t qubits size);
      passed = λ u left known u_is left_is known_is. subst (λ v. IsPassed program.listing new.place v (record found { left = left; known = known })) (ap (λ l. restored l t) (sym lists_are) ∙ sym u_is)
          (turns_passed program found period fits h new.place turns _ here there enough t qubits size left known (left_is ∙ ap (λ (p : KeptProgram). collapse_count (take new.place p.listing.steps)) same)
          (subst (λ (p : KeptProgram). IsKnownAt found (length (records_made (take new.place p.listing.steps))) known) same known_is));
      below = omega (arith, here);
      lines = lines_passed program found period fits h new.place turns faults here there enough faults_there;
    }
  where
    same : new.program ≡ program
    same = new_is ∙ (ap (λ (w : Walked). w.program) walk_is ∙ h.point.program_is)

    here : period.point.walk.place ≡ new.place + turns * (period.later.walk.place - period.point.walk.place)
    here = subst (λ (w : Walked). w.place ≡ new.place + turns * (period.later.walk.place - w.place)) walk_is back

    faults : ℕ
    faults = length (faults_named (take period.later.walk.place program.listing.steps)) - length (faults_named (take period.point.walk.place program.listing.steps))

    there : Repeat program.listing.steps new.place period.point.walk.place (period.later.walk.place - period.point.walk.place) (records_before program.listing period.later.walk.place - records_before program.listing period.point.walk.place) faults
    there =
        subst (λ (p : KeptProgram). Repeat p.listing.steps new.place period.point.walk.place (period.later.walk.place - period.point.walk.place)
        (length (records_made (take period.later.walk.place p.listing.steps)) - length (records_made (take period.point.walk.place p.listing.steps)))
        (length (faults_named (take period.later.walk.place p.listing.steps)) - length (faults_named (take period.point.walk.place p.listing.steps)))) h.point.program_is
        (subst (λ (w : Walked). Repeat w.program.listing.steps new.place w.place (period.later.walk.place - w.place)
        (length (records_made (take period.later.walk.place w.program.listing.steps)) - length (records_made (take w.place w.program.listing.steps)))
        (length (faults_named (take period.later.walk.place w.program.listing.steps)) - length (faults_named (take w.place w.program.listing.steps)))) walk_is repeat)

    faults_there : RepeatFaults program.listing new.place period.point.walk.place (records_before program.listing period.later.walk.place - records_before program.listing period.point.walk.place) faults
    faults_there =
        subst (λ (p : KeptProgram). RepeatFaults p.listing new.place period.point.walk.place
        (length (records_made (take period.later.walk.place p.listing.steps)) - length (records_made (take period.point.walk.place p.listing.steps)))
        (length (faults_named (take period.later.walk.place p.listing.steps)) - length (faults_named (take period.point.walk.place p.listing.steps)))) h.point.program_is
        (subst (λ (w : Walked). RepeatFaults w.program.listing new.place w.place
        (length (records_made (take period.later.walk.place w.program.listing.steps)) - length (records_made (take w.place w.program.listing.steps)))
        (length (faults_named (take period.later.walk.place w.program.listing.steps)) - length (faults_named (take w.place w.program.listing.steps)))) walk_is alike)

    enough : period.low ≤ records_before program.listing new.place
    enough = let e = ap (λ (p : KeptProgram). length (records_made (take new.place p.listing.steps))) same in omega (arith, records_are, low, e)

    qubits : t.qubits ≡ program.listing.qubits
    qubits = ap (λ (u : Tracked). u.qubits) words

    size : length t.words ≡ length (targets_of program.listing)
    size = words_of_size program.listing (drop place program.listing.steps) t words
