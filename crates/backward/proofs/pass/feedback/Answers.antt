use Rattle.std.proofs.Common.{◌≡◌, ◌+◌, ◌<◌, ◌∷◌, [], List, length, drop, get_or, refl, subst, sym, ◌∙◌, arith}
use Rattle.std.specs.Prelude.{All}
use Rattle.std.proofs.lemmas.List.{set-get_or}
use Rattle.std.proofs.lemmas.Result.{err_from_is_err_and, on_ok_weaker}
use Rattle.step_model.specs.declared.step.Term.{Term}
use Rattle.step_model.specs.Targets.{targets_of}
use Rattle.trackers.specs.Tracked.{anticommuting}
use Rattle.backward.proofs.LentHits.{none_hit}
use Rattle.backward.proofs.PassPlaces.{hit_in_range}
use Rattle.backward.proofs.PassSteps.{passed-fed, passed-feedback, words_of_size}
use Rattle.backward.proofs.StepLemmas.{stays_as, undone_failed}
use Rattle.backward.proofs.pass.feedback.Goals as goal

pub returns-then-found : goal.returns-then-found
returns-then-found g c =
    record {
      passed = passed-feedback c.args.program.now.listing c.args.place (g.T.Tracker.tracked c.args.tracker.now) c.args.found.now c.requires.passed c.args.term c.args.rec _ c.requires.step c.if-found.true refl;
      stays = stays_as refl refl refl;
    }

-- nothing changes where no target is hit
pub returns : goal.returns
returns g c =
    let t = g.T.Tracker.tracked c.args.tracker.now in
    let found = c.args.found.now in
    let terms : List Term = c.args.term ∷ [] in
    let p = passed-fed c.args.program.now.listing c.args.place t found c.requires.passed c.args.term c.args.rec t found.lists [] c.requires.step c.if-found.false refl
    (none_hit c.in-Some.hit.now (anticommuting terms t) c.in-Some.ensures (sym c.is_empty.ensures ∙ c.if-is_empty.true))
    (sym (set-get_or found.lists c.args.rec [])) in
    record {
      passed = record { within = p.0; words = p.1; lists = p.2; judged = p.3 };
      stays = stays_as refl refl refl;
    }

pub returns-in_err-hit : goal.returns-in_err-hit
returns-in_err-hit g c = undone_failed (err_from_is_err_and c.from_residual.result c.from_residual.ensures.1).1 (stays_as refl refl refl)

pub toggle_each-requires-clause-targets : goal.toggle_each-requires-clause-targets
toggle_each-requires-clause-targets g c =
    let program = c.args.program.now.listing in
    let tracked = g.T.Tracker.tracked c.args.tracker.now in
    let terms : List Term = c.args.term ∷ [] in
    let lists = c.requires.passed.lists in
    let within : c.args.rec < length c.args.found.now.lists = omega (arith, c.requires.step.is_record, lists.size) in
    let long : length (get_or c.args.found.now.lists c.args.rec []) ≡ length (targets_of program) = lists.long c.args.rec [] within in
    subst (λ n. All (λ t. t < n) c.as_slice.result.now) (sym long)
    (subst (All (λ t. t < length (targets_of program))) (sym (c.as_slice.ensures.value ∙ c.in_ok-hit.ensures.hit))
    (hit_in_range program terms tracked (words_of_size program (drop (c.args.place + 1) program.steps) tracked c.requires.passed.words)))

pub returns-2 : goal.returns-2
returns-2 g c =
    record {
      passed =
          on_ok_weaker c.toggle_each.result
          (λ h. let p = passed-fed c.args.program.now.listing c.args.place (g.T.Tracker.tracked c.args.tracker.now) c.args.found.now c.requires.passed c.args.term c.args.rec _ c.toggle_each.new.self c.as_slice.result.now c.requires.step c.if-found.false c.hit.ensures.same (c.as_slice.ensures.value ∙ c.in_ok-hit.ensures.hit) h in
          record { within = p.0; words = p.1; lists = p.2; judged = p.3 })
          c.toggle_each.ensures;
      stays = stays_as refl refl refl;
    }
