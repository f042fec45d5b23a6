use Rattle.std.proofs.Common.{◌≡◌, ◌++◌, get_or, arith, pos}
use Rattle.std.specs.Prelude.{codes}
use Rattle.std.specs.Fmt.{signed_decimal}
use Rattle.std.proofs.lemmas.Int.{to_z-of_z}
use mir.Val.{of_z, to_z}
use mir.Syntax.{w64}
use Rattle.step_model.proofs.Items.{Pushes-item}
use Rattle.step_model.proofs.Pushing.{Pushes-trans}
use Rattle.error_models.proofs.text.write_more_coordinates.Goals as goal

pub loop-coordinate-preserved : goal.loop-coordinate-preserved
loop-coordinate-preserved g c =
    let list = c.args.coordinates.now in
    let i = c.loop-coordinate.coordinate-index in
    let same : to_z w64 (of_z w64 (get_or list i (pos 0))) ≡ get_or list i (pos 0) = grind (arith, to_z-of_z) in
    Pushes-item (λ n. codes ", " ++ signed_decimal n) list i (pos 0) (omega arith)
    c.loop-coordinate.invariant (Pushes-trans c.push.ensures (rw same at c.write_whole.ensures))
