use Rattle.std.proofs.Common.{ap, sym, ◌∙◌, refl, arith}
use Rattle.std.specs.Prelude.{length}
use Rattle.std.proofs.lemmas.List.{drop_all}
use Rattle.step_model.specs.Targets.{targets_of}
use Rattle.step_model.specs.WellFormed.{collapse_count}
use Rattle.backward.specs.private.Passes.{latest_before, opened, tracked_before}
use Rattle.backward.proofs.PassPlaces.{latest_before-none}
use Rattle.backward.proofs.PassRecords.{holds-last}
use Rattle.backward.proofs.PassSteps.{holds_same}
use Rattle.backward.proofs.PassWords.{tracked_before-none}
use Rattle.backward.proofs.found.Found.new.Goals as goal

pub returns-clause-passed : goal.returns-clause-passed
returns-clause-passed g c =
    let program = c.args.program.now.listing in
    let fits = c.well_formed-2.ensures in
    let none = drop_all (length program.steps) program.steps (omega arith) in
    record {
      within = omega arith;
      words = tracked_before-none program ∙ ap (tracked_before program) (sym none);
      lists = holds_same program _ _ (length program.steps) _ _ _ _ refl c.record_count.ensures c.in_ok-lists.ensures (holds-last program (length program.steps) fits refl);
      judged = (
        ap (opened (length (targets_of program))) c.new-2.ensures.items ∙ (latest_before-none program c.collapse_count.result ∙ ap (latest_before program c.collapse_count.result) (sym none)),
        omega (arith, c.collapse_count.ensures, ap collapse_count none),
      );
    }
