use Rattle.std.proofs.Common.{◌≡◌, false, subst, arith}
use Rattle.std.specs.List.{list_any}
use Rattle.std.proofs.lemmas.Bool.{leb-true}
use Rattle.stim_parser.specs.Offsets.{moved}
use Rattle.dem_text.specs.Models.{is_coordinate_beyond}
use Rattle.dem_text.specs.Shifts.{Shift}
use Rattle.dem_text.proofs.ShiftLemmas.{near-moved}
use Rattle.dem_text.proofs.standing.Shift.keeps_near.Goals as goal

pub returns : goal.returns
returns c near stated e =
    let few = leb-true c.saturating_add.result 999_999_999_999_999_999 near in
    subst (λ (s : Shift). list_any is_coordinate_beyond (moved s.offset stated) ≡ false) c.self.view_is
    (near-moved c.self.inside.offset.items stated c.self.inside.reach c.args.reach c.self.invariant (omega (arith, e)) (omega (arith, few, c.saturating_add.ensures)))
