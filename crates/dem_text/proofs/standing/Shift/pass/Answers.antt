use Rattle.std.proofs.Common.{◌≤◌, All, subst, sym, arith}
use Rattle.std.specs.Prelude.{nat_abs}
use Rattle.dem_text.specs.Shifts.{Shift}
use Rattle.dem_text.specs.private.Offsets.{HasRoom}
use Rattle.dem_text.proofs.ShiftLemmas.{reach-held}
use Rattle.dem_text.proofs.standing.Shift.pass.Goals as goal

pub invariant_of-self : goal.invariant_of-self
invariant_of-self c =
    let known = c.requires.known.brief_is in
    let room = (subst (λ (s : Shift). HasRoom s 1) (sym c.self.view_is) c.requires.room).offset in
    subst (All (λ o. nat_abs o ≤ c.saturating_add-self-inside.result)) (sym c.add_stated.ensures)
    (reach-held c.self.inside.offset.items c.args.stated.now c.self.inside.reach c.args.line.now.reach _
    (λ k d below. let one = room k d below in omega (arith, one))
    known.known.small c.self.invariant (omega (arith, known.reach_is)) c.saturating_add-self-inside.ensures)
