use Rattle.std.proofs.Common.{◌≡◌, ◌<◌, ℕ, None, get_or, length, subst, sym, arith}
use Rattle.step_model.specs.Targets.{targets_of}
use Rattle.backward.specs.Places.{IsLowestRandom, NoneIsRandom, place_from}
use Rattle.backward.specs.private.Passes.{IsJudged, latest_before, lowest_below, opened}
use Rattle.backward.proofs.Judging.{none_left, none_weaker, some_both, some_weaker, random_found, none_found}
use Rattle.backward.proofs.places.random_target.Goals as goal

pub lowest_at_start-requires : goal.lowest_at_start-requires
lowest_at_start-requires g c = c.requires.passed.words

pub returns-clause-none : goal.returns-clause-none
returns-clause-none g c =
    let program = c.args.program.now.listing in
    let fits = c.well_formed-2.ensures in
    let f = c.args.found.now in
    let judged = subst (λ s. IsJudged program s 0 f.latest.items f.left) c.requires.first c.requires.passed.judged in
    let count = c.target_count-targets.ensures.count in
    let latest = subst (λ (l : _). opened (length (targets_of program)) l ≡ latest_before program f.left program.steps) (sym c.as_slice.ensures.value) judged.0 in
    let lowest = subst (λ (l : _). opened (length (targets_of program)) l ≡ lowest_below program program.qubits) (sym c.as_slice-2.ensures.value) c.in_ok-lowest.ensures.lowest in
    none_weaker c.lowest_random.result ((d : ℕ) → d < c.target_count-targets.result → place_from (get_or c.as_slice.result.now d None) (get_or c.as_slice-2.result.now d None) ≡ None) (NoneIsRandom program)
    (λ none. none_found program f.left c.as_slice.result.now c.as_slice-2.result.now fits (none_left program f.left fits judged.1) latest lowest
    (λ d lt. none d (omega (arith, lt, count))))
    c.lowest_random.ensures.none

pub returns-clause-lowest : goal.returns-clause-lowest
returns-clause-lowest g c =
    let program = c.args.program.now.listing in
    let fits = c.well_formed-2.ensures in
    let f = c.args.found.now in
    let judged = subst (λ s. IsJudged program s 0 f.latest.items f.left) c.requires.first c.requires.passed.judged in
    let count = c.target_count-targets.ensures.count in
    let latest = subst (λ (l : _). opened (length (targets_of program)) l ≡ latest_before program f.left program.steps) (sym c.as_slice.ensures.value) judged.0 in
    let lowest = subst (λ (l : _). opened (length (targets_of program)) l ≡ lowest_below program program.qubits) (sym c.as_slice-2.ensures.value) c.in_ok-lowest.ensures.lowest in
    let found = c.lowest_random.ensures in
    some_weaker c.lowest_random.result _ _ (λ r. IsLowestRandom program r.0 r.1)
    (λ r here before. random_found program f.left c.as_slice.result.now c.as_slice-2.result.now r.0 r.1 fits (none_left program f.left fits judged.1) latest lowest (omega (arith, here.0, count)) here.1 before)
    (some_both c.lowest_random.result _ _ found.in_range found.place) found.before
