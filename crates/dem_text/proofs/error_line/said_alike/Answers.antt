use Rattle.dem_text.proofs.AlikeLemmas.{begins_with_said}
use Rattle.dem_text.proofs.error_line.said_alike.Goals as goal

pub returns : goal.returns
returns g c depth number =
    let begins = rw c.in-Some-2.is at c.in_ok-after.ensures in
    begins_with_said c.args.text.now c.in-Some.rest.now c.in-Some-2.after.now c.in-Some.arguments c.put_targets.new.targets.items depth number c.in-Some.ensures begins
