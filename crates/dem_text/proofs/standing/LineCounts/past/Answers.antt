use Rattle.std.proofs.Common.{None, Some, subst}
use Rattle.dem_text.specs.Shifts.{Shift}
use Rattle.dem_text.proofs.StandingLemmas.{IsShifted, far-coordinate, far-detector, near-line}
use Rattle.dem_text.proofs.standing.LineCounts.past.Goals as goal

pub returns-in_default : goal.returns-in_default
returns-in_default c i h =
    far-detector c.args.shift.now i c.args.line.now c.args.stated.now h
    (subst (λ (s : Shift). IsShifted s.detectors c.args.line.now.extent.detectors None) c.shift.view_is (rw c.in_default.is at c.shifted.ensures))

pub returns-then-not-gives_near : goal.returns-then-not-gives_near
returns-then-not-gives_near c i h =
    far-coordinate c.args.shift.now i c.args.line.now c.args.stated.now h c.gives_near.result c.gives_near.ensures
    c.if-not-gives_near.true

pub returns : goal.returns
returns c i h =
    near-line c.args.shift.now i c.args.line.now c.args.stated.now h c.in-Some.detectors
    (subst (λ (s : Shift). IsShifted s.detectors c.args.line.now.extent.detectors (Some c.in-Some.detectors)) c.shift.view_is (rw c.in-Some.is at c.shifted.ensures))
    c.gives_near.result c.gives_near.ensures
    c.if-not-gives_near.false
    c.args.self _ c.max.ensures c.max-2.ensures c.errors_past.ensures
