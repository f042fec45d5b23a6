-- The step that is faced behind it.
use Rattle.circuit_walk.proofs.Takings.{is_listed, is_named}
use Rattle.circuit_walk.proofs.course.Course.take_back.Goals as goal

pub returns-clause-step : goal.returns-clause-step
returns-clause-step g c program course =
    let e = c.step_back.ensures in
    is_listed program c.step_back.new.self (e.course program course) e.facing c.next.result c.next.ensures

pub returns-clause-named : goal.returns-clause-named
returns-clause-named g c program course =
    let e = c.step_back.ensures in
    is_named program c.step_back.new.self (e.course program course) e.facing c.next.result c.next.ensures
