-- At the start all steps are left; behind all of them the records are those of the run, and what is kept is its entries.
use Rattle.std.proofs.Common.{◌≡◌, List, [], length, drop, ap, ◌∙◌, arith}
use Rattle.std.proofs.lemmas.List.{drop_all}
use Rattle.step_model.specs.Frames.{zero_coins}
use Rattle.step_model.specs.Listing.{ListedStep}
use Rattle.step_model.specs.Runs.{records_of}
use Rattle.forward_sim.specs.References.{walking_qubits, walking_run}
use Rattle.forward_sim.proofs.ReferenceSteps.{entries_at_end, keeps_at_start, reference_records}
use Rattle.forward_sim.proofs.RunLoops.{along_start}
use Rattle.forward_sim.proofs.RunRecords.{length-records_of}
use Rattle.forward_sim.proofs.keeping.run_and_keep.Given.{Over}
use Rattle.forward_sim.proofs.keeping.run_and_keep.Goals as goal
use Rattle.forward_sim.proofs.keeping.run_and_keep.Goals.{Else-failed}

pub take_all-requires : goal.take_all-requires
take_all-requires g c _ =
    let program = c.args.program.now.listing in
    let walk = c.in_ok-start.field-0 in
    let made = c.in_ok-start.ensures in
    record {
      along = along_start program [] [] (walking_qubits walk) walk.room (walking_run walk) c.well_formed-2.ensures made.qubits made.room made.run;
      keeps = λ whole. keeps_at_start program (walking_run walk) c.in_ok-new.field-0.replaced c.well_formed-2.ensures made.run c.in_ok-new.ensures;
    }

-- behind all steps nothing is left
none : (steps : List ListedStep) → drop (length steps) steps ≡ []
none steps = drop_all (length steps) steps (omega arith)

all_records : (g : Over) (c : Else-failed g) → c.take_all.new.taker.walk.records ≡ records_of c.args.program.now.listing [] (zero_coins c.args.program.now.listing)
all_records g c =
    let program = c.args.program.now.listing in
    reference_records program (length program.steps) (walking_run c.take_all.new.taker.walk) (none program.steps) (c.take_all.ensures c.if-failed.false).along.rest

pub returns-clause-records : goal.returns-clause-records
returns-clause-records g c = c.take_records.ensures ∙ all_records g (goal.at.returns-clause-records g c).Else-failed

pub returns-clause-count : goal.returns-clause-count
returns-clause-count g c =
    let program = c.args.program.now.listing in
    ap length (c.take_records.ensures ∙ all_records g (goal.at.returns-clause-count g c).Else-failed)
    ∙ length-records_of program [] (zero_coins program) c.well_formed-2.ensures

pub returns-clause-kept : goal.returns-clause-kept
returns-clause-kept g c whole =
    let program = c.args.program.now.listing in
    let keeping = c.take_all.new.taker in
    entries_at_end program (length program.steps) (walking_run keeping.walk) keeping.kept.replaced (none program.steps) ((c.take_all.ensures c.if-failed.false).keeps whole)
