use Rattle.step_model.proofs.Finishing.{all-finished, beginning-finished, count-finished}
use Rattle.error_models.proofs.text.write.Goals as goal

pub returns-clause-all : goal.returns-clause-all
returns-clause-all g c =
    let pushed = rw c.new-out.ensures at c.push_model.ensures in
    all-finished pushed c.finish.ensures.after_failure c.finish.ensures.all

pub returns-clause-beginning : goal.returns-clause-beginning
returns-clause-beginning g c =
    let pushed = rw c.new-out.ensures at c.push_model.ensures in
    beginning-finished pushed c.finish.ensures.after_failure c.finish.ensures.beginning

pub returns-clause-count : goal.returns-clause-count
returns-clause-count g c =
    let pushed = rw c.new-out.ensures at c.push_model.ensures in
    count-finished pushed c.finish.ensures.after_failure c.finish.ensures.count
