use Rattle.std.proofs.Common.{◌≡◌, ◌-◌, ℕ, List, length, take, ap, ap₂, ◌∙◌, length-append, arith}
use Rattle.std.proofs.Math.Seq.{take-append_seam}
use Rattle.dem_text.proofs.error_line.up_to.Goals as goal

pub returns : goal.returns
returns c front is =
    let text = c.args.text.now in
    let rest = c.args.rest.now in
    let long : length text - length rest ≡ length front = omega (arith, ap length is, length-append front rest) in
    ap₂ (λ (n : ℕ) (bs : List ℕ). take n bs) long is ∙ take-append_seam front rest
