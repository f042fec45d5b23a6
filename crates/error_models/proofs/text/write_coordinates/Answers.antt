use Rattle.step_model.proofs.Pushing.{Pushes-trans}
use Rattle.std.proofs.Common.{◌≡◌, get_or, arith, pos}
use Rattle.std.proofs.lemmas.Int.{to_z-of_z}
use Rattle.error_models.proofs.TextLemmas.{coordinates_text-parts}
use mir.Val.{of_z, to_z}
use mir.Syntax.{w64}
use Rattle.error_models.proofs.text.write_coordinates.Goals as goal

pub returns-in-len1-up : goal.returns-in-len1-up
returns-in-len1-up g c =
    let list = c.args.coordinates.now in
    let same : to_z w64 (of_z w64 (get_or list 0 (pos 0))) ≡ get_or list 0 (pos 0) = grind (arith, to_z-of_z) in
    let whole = rw same at c.write_whole.ensures in
    let parts = Pushes-trans (Pushes-trans (Pushes-trans c.push.ensures whole) c.write_more_coordinates.ensures) c.push-in-len1-up.ensures in
    rw (coordinates_text-parts list (omega (arith, c.in-len1-up.len_at_least))) parts
