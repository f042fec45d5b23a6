-- The faults of the runs, and then the others.
use Rattle.std.proofs.Common.{◌≡◌, ◌+◌, ◌-◌, ◌++◌, length, length-append, take, drop, refl, sym, ap, subst, ◌∙◌, arith}
use borrow.Rule.Slice.PartMut.{put_mid}
use Rattle.forward_sim.specs.private.AllLanes.{AllDrawn, DrawnUpTo, fault_hits}
use Rattle.forward_sim.specs.private.BoundRuns.{bounds_above, bounds_in}
use Rattle.forward_sim.proofs.AllLaneLemmas.{part_drawn}
use Rattle.forward_sim.proofs.HitLemmas.{fault_behind, fault_front}
use Rattle.forward_sim.proofs.fault_draws.draw_faults.Goals as goal

pub returns : goal.returns
returns g c =
    let inside = c.bounds.inside in
    let xs = bounds_in inside.runs.items in
    let ys = bounds_above inside.greatest.items in
    let all = fault_hits (xs ++ ys) in
    let total = length c.args.faults.now in
    let from = c.args.generators.now in
    let runs = c.draw_runs-start in
    let at = runs.result in
    let old = runs.new.faults in
    let rest = length old - at in
    let new = c.draw_pieces.new in
    let front : length xs ≡ at = sym (runs.ensures.count ∙ ap (λ rs. length (bounds_in rs)) c.as_slice.ensures.value) in
    let fits : total ≡ length (xs ++ ys) = c.requires.fits ∙ ap length (sym c.bounds.view_is) in
    let whole : at + rest ≡ total = omega (arith, runs.ensures.drawn.size, fits, length-append xs ys, front) in
    let first : DrawnUpTo at total (fault_hits xs) from old runs.new.generators =
    subst (λ rs. DrawnUpTo at total (fault_hits (bounds_in rs)) from old runs.new.generators) c.as_slice.ensures.value runs.ensures.drawn in
    let later : AllDrawn (length (take rest (drop at old))) (fault_hits ys) runs.new.generators new.words new.generators =
    subst (λ words. AllDrawn (length (take rest (drop at old))) (fault_hits (bounds_above words)) runs.new.generators new.words new.generators) c.as_slice-2.ensures.value c.draw_pieces.ensures in
    let both : DrawnUpTo (at + rest) total all from (put_mid at rest old new.words) new.generators =
    part_drawn all rest rest refl (omega (arith, whole)) first later
    (λ k w h. fault_front xs ys k w (omega (arith, h, front))) (λ k w h. fault_behind xs ys at k w front) in
    subst (λ bounds. AllDrawn (length bounds) (fault_hits bounds) from (put_mid at rest old new.words) new.generators) c.bounds.view_is
    (subst (λ n. AllDrawn n all from (put_mid at rest old new.words) new.generators) fits
    (subst (λ n. DrawnUpTo n total all from (put_mid at rest old new.words) new.generators) whole both))
