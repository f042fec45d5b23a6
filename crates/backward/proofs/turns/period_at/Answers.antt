use Rattle.std.proofs.Common.{◌≡◌, ◌+◌, ℕ, true, false, length, take, ap, subst, ◌∙◌, arith}
use Rattle.std.proofs.lemmas.Bool.Decides.{nat_tests}
use Rattle.step_model.specs.WellFormed.{records_made}
use Rattle.circuit_walk.specs.Programs.{KeptProgram}
use Rattle.backward.specs.private.MovedTargets.{IsShiftOf, earlier_list, list_then}
use Rattle.step_model.specs.Targets.{targets_of}
use Rattle.backward.specs.private.Passes.{HoldsLists, records_before}
use Rattle.backward.proofs.TurnPasses.{moved_first, none_noted}
use Rattle.backward.specs.private.Stretches.{lines_between}
use Rattle.backward.specs.private.TurnLines.{AreClear}
use Rattle.backward.proofs.TurnLineLemmas.{clear-reverse}
use Rattle.backward.proofs.TurnLists.{repeated_there}
use Rattle.backward.proofs.turns.period_at.Goals as goal

pub returns-clause-period : goal.returns-clause-period
returns-clause-period g c =
    let program = c.args.program.now in
    let point = c.args.point in
    let later = c.args.later in
    let found = c.args.found.now in
    let is = c.requires.point in
    let later_is = c.requires.later in
    let shift = c.guessed_shift-shift.result in
    let made : ℕ → KeptProgram → ℕ = λ k p. length (records_made (take k p.listing.steps)) in
    let end : c.records-end.result ≡ records_before program.listing point.walk.place = c.records-end.ensures ∙ ap (made point.walk.place) is.program_is in
    let none : length found.latest.items ≡ 0 = grind (arith, nat_tests, c.is_random.ensures, c.if-is_random.false) in
    let unsettled : found.settled ≡ false = grind (arith, c.if-found.false) in
    let lists : HoldsLists program.listing false point.walk.place found.known found.lists = subst (λ b. HoldsLists program.listing b point.walk.place found.known found.lists) unsettled c.requires.known.lists in
    let shift_is : IsShiftOf (length program.listing.detectors) (length (targets_of program.listing)) shift = subst (λ n. IsShiftOf n (length (targets_of program.listing)) shift) c.detector_count-detectors.ensures
    (subst (λ n. IsShiftOf c.detector_count-detectors.result n shift) c.target_count-targets.ensures.count c.guessed_shift-shift.ensures) in
    let earlier : c.are_earlier.result ≡ true = grind (arith, c.if-not-are_earlier.false) in
    let clear : AreClear shift (lines_between program.listing point.walk.place later.walk.place) =
    clear-reverse shift (lines_between program.listing point.walk.place later.walk.place) (subst (AreClear shift) c.requires.lines (c.are_clear.ensures (grind (arith, c.if-not-are_clear.false)))) in
    record {
      point = is;
      later_is = later_is.program_is;
      within = later_is.within;
      earlier = c.requires.earlier;
      shift = shift_is;
      turn = c.requires.turn;
      moved = moved_first program.listing shift shift_is point.lists later.lists point.walk.place later.walk.place is.words later_is.words (c.are_earlier.ensures earlier);
      unsettled = unsettled;
      lists = lists;
      none_latest = none;
      none_placed = none_noted program.listing found.settled point.walk.place found.latest.items found.left none c.requires.known.judged unsettled;
      repeated = repeated_there program.listing point.walk.place later.walk.place found.known found.lists c.args.listed.now shift c.repeated_from-low.result lists c.requires.turn.own later_is.within (omega (arith, c.requires.earlier)) (c.requires.listed unsettled)
          (λ r low high. c.repeated_from-low.ensures.each r low (omega (arith, high, end)) ∙ ap (λ e. earlier_list shift (list_then found.lists e c.args.listed.now (r + length c.args.listed.now))) end);
      clear = clear;
    }
