-- All lines went out, and then the last one.
use Rattle.std.proofs.Common.{refl, subst, arith, rules}
use Rattle.std.specs.Prelude.{OnErr}
use Rattle.step_model.specs.Ends.{TakesBeginning}
use Rattle.step_model.proofs.Pushing.{Pushes-trans}
use Rattle.step_model.proofs.Finishing.{all-finished, beginning-finished, count-finished}
use Rattle.fault_list.specs.FaultLines.{list_text}
use Rattle.fault_list.proofs.HeldLineLemmas.{all_out, nothing_held}
use Rattle.fault_list.proofs.text.write.Goals as goal

pub take_faults-requires : goal.take_faults-requires
take_faults-requires g c = (refl, omega arith, c.new-2.ensures, nothing_held)

pub returns-clause-all : goal.returns-clause-all
returns-clause-all g c =
    let lines = all_out c.take_faults.ensures.3 c.push.ensures in
    let pushed = rw (c.new.ensures, c.collapse_count.ensures) at (Pushes-trans lines c.write_coins.ensures) in
    let same = c.take_faults.ensures.0 in
    let done = all-finished pushed c.finish.ensures.after_failure c.finish.ensures.all in
    search rules

pub returns-clause-beginning : goal.returns-clause-beginning
returns-clause-beginning g c =
    let lines = all_out c.take_faults.ensures.3 c.push.ensures in
    let pushed = rw (c.new.ensures, c.collapse_count.ensures) at (Pushes-trans lines c.write_coins.ensures) in
    let done = beginning-finished pushed c.finish.ensures.after_failure c.finish.ensures.beginning in
    let same = c.take_faults.ensures.0 in
    subst (λ (s : g.row.W.Denot). OnErr c.finish.result (TakesBeginning (g.W.Sink.taken c.args.sink.now) (g.W.Sink.taken s) (list_text c.args.program.now.listing))) (search rules) done

pub returns-clause-count : goal.returns-clause-count
returns-clause-count g c =
    let lines = all_out c.take_faults.ensures.3 c.push.ensures in
    let pushed = rw (c.new.ensures, c.collapse_count.ensures) at (Pushes-trans lines c.write_coins.ensures) in
    let same = c.take_faults.ensures.0 in
    let done = count-finished pushed c.finish.ensures.after_failure c.finish.ensures.count in
    search rules
