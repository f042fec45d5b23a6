use Rattle.std.proofs.Common.{None, refl, subst, sym}
use Rattle.std.proofs.lemmas.Result.{err_from_is_err_and}
use Rattle.backward.specs.private.Passes.{IsCollapseAt}
use Rattle.backward.proofs.StepLemmas.{over_failed, stays_as}
use Rattle.backward.proofs.collapse.collapse_word.Goals as goal

pub collapse-requires-clause-step : goal.collapse-requires-clause-step
collapse-requires-clause-step g c =
    subst (λ terms. IsCollapseAt c.args.program.now c.args.place terms None c.args.rec c.args.flip) (sym c.in_ok-terms.ensures) c.requires.step

pub collapse-requires-clause-passed : goal.collapse-requires-clause-passed
collapse-requires-clause-passed g c =
    let p = c.requires.passed in
    record { within = p.within; words = p.words; lists = p.lists; judged = p.judged }

pub returns-in_err-terms : goal.returns-in_err-terms
returns-in_err-terms g c = over_failed (err_from_is_err_and c.from_residual.result c.from_residual.ensures.1).1 (stays_as refl refl refl) refl

pub returns-in_err-collapse : goal.returns-in_err-collapse
returns-in_err-collapse g c =
    let e = c.collapse.ensures in
    let stays = e.undone.stays in
    over_failed (err_from_is_err_and c.from_residual-in_err-collapse.result c.from_residual-in_err-collapse.ensures.1).1
    record { settled = stays.settled; keeps = stays.keeps; known = stays.known } e.store

pub returns : goal.returns
returns g c =
    let e = c.in_ok-collapse.ensures in
    let p = e.undone.passed in
    let stays = e.undone.stays in
    record {
      undone =
          record {
            passed = record { within = p.within; words = p.words; lists = p.lists; judged = p.judged };
            stays = record { settled = stays.settled; keeps = stays.keeps; known = stays.known };
          };
      lines = e.lines;
      store = e.store;
    }
