use Rattle.std.proofs.Common.{◌≡◌, ℕ, Bool, false, Option, Some, List, [], ◌-◌, ◌<◌, ◌≤◌, length, get_or, drop, ◌∙◌, reverse, ap, ap₂, subst, sym, arith}
use Rattle.std.specs.Prelude.{IfSome, if◌then◌else◌}
use Rattle.std.proofs.lemmas.Result.{IfOk-weaker}
use Rattle.step_model.specs.Listing.{Listing}
use Rattle.step_model.specs.TargetSets.{members}
use Rattle.record_targets.specs.ListingSets.{listing_set}
use Rattle.circuit_walk.specs.Programs.{KeptProgram}
use Rattle.backward.specs.private.Passes.{HoldsLists, records_before}
use Rattle.backward.specs.private.Repeats.{AreListed, IsTurn}
use Rattle.backward.specs.private.Stretches.{Gives, lines_between}
use Rattle.backward.proofs.PassRecords.{records_before-earlier}
use Rattle.backward.proofs.turns.pass_turns.Given.{Over}
use Rattle.backward.proofs.turns.pass_turns.Goals as goal
use Rattle.backward.proofs.turns.pass_turns.Goals.{After-records-records}

-- the records before the turn, and before the place
first_records : (g : Over) (c : After-records-records g) → c.in-Some.to.records ≡ records_before c.args.program.now.listing c.in-Some.to.place
first_records g c = c.in-Some.ensures.records ∙ ap (λ (p : KeptProgram). records_before p.listing c.in-Some.to.place) c.requires.program

last_records : (g : Over) (c : After-records-records g) → c.records-records.result ≡ records_before c.args.program.now.listing c.args.at.now.walk.place
last_records g c = c.records-records.ensures ∙ ap (λ (p : KeptProgram). records_before p.listing c.args.at.now.walk.place) c.requires.program

pub kept_lists-requires-clause-order : goal.kept_lists-requires-clause-order
kept_lists-requires-clause-order g c =
    let here = (goal.at.kept_lists-requires-clause-order g c).After-records-records in
    let up = records_before-earlier c.args.program.now.listing c.in-Some.to.place c.args.at.now.walk.place (let place = c.in-Some.ensures.place.1 in omega (arith, place)) in
    omega (arith, first_records g here, last_records g here, up)

pub kept_lists-requires-clause-within : goal.kept_lists-requires-clause-within
kept_lists-requires-clause-within g c =
    let here = (goal.at.kept_lists-requires-clause-within g c).After-records-records in
    let lists = c.requires.passed.lists in
    let enough = lists.enough in
    let few = lists.few in
    let size = lists.size in
    omega (arith, last_records g here, enough, few, size)

pub repeats-requires-clause-turn : goal.repeats-requires-clause-turn
repeats-requires-clause-turn g c =
    let program = c.args.program.now.listing in
    let above = c.in_ok-turn.ensures.above in
    let start : c.given_turn.new.at.walk.place ≡ c.in-Some.to.place = omega (arith, above, c.place-3.ensures, c.if-place-to-2.false) in
    let later = ap (λ w. w.place) c.in_ok-later.ensures.walk in
    let first = subst (λ (p : KeptProgram). IsTurn p.listing c.in-Some.to.place c.args.at.now.walk.place c.args.found.now.keeps) c.requires.program c.in-Some.ensures.turn in
    subst (λ k. IsTurn program k c.in_ok-later.later.walk.place c.given_turn.new.found.keeps) (sym start)
    (subst (λ k. IsTurn program c.in-Some.to.place k c.given_turn.new.found.keeps) (sym later) (subst (IsTurn program c.in-Some.to.place c.args.at.now.walk.place) (sym c.in_ok-turn.ensures.stays.keeps) first))

pub repeats-requires-clause-lines : goal.repeats-requires-clause-lines
repeats-requires-clause-lines g c =
    ap (λ turn. turn.lines) c.in_ok-turn.ensures.turn
    ∙ ap (λ j. reverse (lines_between c.args.program.now.listing c.given_turn.new.at.walk.place j)) (sym (ap (λ w. w.place) c.in_ok-later.ensures.walk))

-- lists that were kept are those of the records between two places
listed_between : (program : Listing) (settled : Bool) (place known : ℕ) (sets : List (List Bool)) (kept : Option (List (List ℕ))) (listed : List (List ℕ)) (from to start later : ℕ) → HoldsLists program settled place known sets → settled ≡ false → kept ≡ Some listed
    → IfSome kept (λ kept. length kept ≡ to - from) → IfSome kept (λ kept. (r : ℕ) → from ≤ r → r < to → get_or kept (r - from) [] ≡ members (get_or sets r []))
    → from ≡ records_before program start → to ≡ records_before program later → later ≡ place → AreListed program start later listed
listed_between program settled place known sets kept listed from to start later lists unsettled is count each from_is to_is later_is =
    let counted : length listed ≡ to - from = subst (λ o. IfSome o (λ kept. length kept ≡ to - from)) is count in
    let one = subst (λ o. IfSome o (λ kept. (r : ℕ) → from ≤ r → r < to → get_or kept (r - from) [] ≡ members (get_or sets r []))) is each in
    record {
      count = counted ∙ ap₂ (λ (a b : ℕ). a - b) to_is from_is;
      each = λ r low high.
          ap (λ (n : ℕ). get_or listed (r - n) []) (sym from_is)
          ∙ (one r (omega (arith, low, from_is)) (omega (arith, high, to_is))
          ∙ ap members
          (lists.rows r (omega (arith, high, ap (records_before program) later_is, lists.enough))
          ∙ (ap (λ b. listing_set program (drop (if b then 0 else place) program.steps) r) unsettled
          ∙ ap (λ k. listing_set program (drop k program.steps) r) (sym later_is))));
    }

pub repeats-requires-clause-listed : goal.repeats-requires-clause-listed
repeats-requires-clause-listed g c = λ unsettled.
    let program = c.args.program.now.listing in
    let here = (goal.at.repeats-requires-clause-listed g c).After-records-records in
    let lists = c.requires.passed.lists in
    let above = c.in_ok-turn.ensures.above in
    let start : c.given_turn.new.at.walk.place ≡ c.in-Some.to.place = omega (arith, above, c.place-3.ensures, c.if-place-to-2.false) in
    listed_between program c.args.found.now.settled c.args.at.now.walk.place c.args.found.now.known c.args.found.now.lists c.in_ok-listed.field-0 c.in-Some-2.listed c.in-Some.to.records c.records-records.result c.given_turn.new.at.walk.place c.in_ok-later.later.walk.place
    lists (sym c.in_ok-turn.ensures.stays.settled ∙ unsettled) c.in-Some-2.is c.in_ok-listed.ensures.count c.in_ok-listed.ensures.each
    (first_records g here ∙ ap (records_before program) (sym start)) (last_records g here ∙ ap (records_before program) (sym (ap (λ w. w.place) c.in_ok-later.ensures.walk))) (ap (λ w. w.place) c.in_ok-later.ensures.walk)

pub returns-clause-lines : goal.returns-clause-lines
returns-clause-lines g c =
    let program = c.args.program.now.listing in
    let holds = g.L.LineStore.holds in
    let to = c.args.at.now.walk.place in
    IfOk-weaker c.repeats.result _ _
    (λ kept end. subst (λ k. Gives (holds c.args.lines.now) (holds c.given_turn.new.lines) (reverse (lines_between program k to))) (sym end) c.in_ok-turn.ensures.lines)
    c.repeats.ensures.end
