use Rattle.std.proofs.Common.{◌≡◌, refl, ap, sym, ◌∙◌, arith}
use Rattle.std.specs.Prelude.{List, length, reverse, ◌++◌}
use Rattle.std.proofs.lemmas.List.{reverse-append}
use Rattle.std.proofs.lemmas.Result.{on_ok_weaker}
use Rattle.step_model.specs.ErrorModels.{ErrorLine}
use Rattle.backward.specs.private.Stretches.{lines_between}
use Rattle.backward.proofs.PassLines.{lines_between-all, lines_between-none, lines_between-parts}
use Rattle.backward.proofs.analysis.go_back.Goals as goal

pub loop-at-init : goal.loop-at-init
loop-at-init g c =
    let program = c.args.program.now.listing in
    record {
      program_is = c.requires.program;
      store = c.requires.store;
      first = c.requires.first;
      passed = c.requires.passed;
      lines = c.requires.none ∙ ap (reverse {A = ErrorLine}) (sym (lines_between-none program (length program.steps)) ∙ ap (λ k. lines_between program k (length program.steps)) (sym c.requires.place));
    }

pub steps_back-requires-clause-stands : goal.steps_back-requires-clause-stands
steps_back-requires-clause-stands g c =
    let i = c.loop-at.invariant in
    record { program_is = i.program_is; store = i.store; passed = i.passed }

pub loop-at-preserved : goal.loop-at-preserved
loop-at-preserved g c =
    let program = c.args.program.now.listing in
    let l = c.loop-at in
    let e = c.in_ok-steps_back.ensures in
    let k = c.steps_back.new.at.walk.place in
    let to = length program.steps in
    record {
      program_is = e.program_is ∙ l.invariant.program_is;
      store = e.store ∙ l.invariant.store;
      first = e.stays.settled ∙ l.invariant.first;
      passed = e.passed;
      lines =
          e.lines l.lines.model.lines refl
          ∙ (ap (λ (lines : List ErrorLine). lines ++ reverse (lines_between program k l.at.walk.place)) l.invariant.lines
          ∙ (sym (reverse-append (lines_between program k l.at.walk.place) (lines_between program l.at.walk.place to))
          ∙ ap (reverse {A = ErrorLine}) (lines_between-parts program k l.at.walk.place to (omega (arith, e.below)) l.invariant.passed.within)));
    }

pub returns-clause-lines : goal.returns-clause-lines
returns-clause-lines g c =
    let program = c.args.program.now.listing in
    let none : c.loop-at.at.walk.place ≡ 0 = omega (arith, c.loop-at-test.false, c.place.ensures) in
    on_ok_weaker c.random_target.result
    (λ _. c.loop-at.invariant.lines ∙ ap (reverse {A = ErrorLine}) (ap (λ k. lines_between program k (length program.steps)) none ∙ lines_between-all program c.well_formed-2.ensures))
    c.random_target.ensures.words
