use Rattle.std.proofs.Common.{List, length, refl, ap, sym, ◌∙◌, arith}
use Rattle.std.specs.Prelude.{slice_get}
use Rattle.stim_lexer.specs.Flat.{tree_of}
use Rattle.stim_lexer.proofs.PassLemmas.{passing-can, passing-done, passing-first, passing-next}
use Rattle.dem_text.specs.Texts.{Item}
use Rattle.dem_text.specs.private.Unrolled.{counting, nothing_counted}
use Rattle.dem_text.proofs.UnrolledLemmas.{counted}
use Rattle.dem_text.proofs.kept.Kept.block_lines.Goals as goal

pub loop-place-init : goal.loop-place-init
loop-place-init g c = rw (c.new-counting.ensures.counts, c.new-counting.ensures.blocks) (passing-first counting (tree_of c.args.self.now) nothing_counted c.requires.fits)

pub pass-requires : goal.pass-requires
pass-requires g c =
    let at = c.get.ensures.item ∙ ap (λ (is : List Item). slice_get is c.loop-place.place) (c.self.view_is ∙ sym c.requires.written) in
    passing-can counting (tree_of c.args.self.now) nothing_counted c.loop-place.place c.loop-place.counting.counts c.loop-place.counting.blocks.items _ c.loop-place.invariant at

pub loop-place-preserved : goal.loop-place-preserved
loop-place-preserved g c =
    let at = c.get.ensures.item ∙ ap (λ (is : List Item). slice_get is c.loop-place.place) (c.self.view_is ∙ sym c.requires.written) in
    passing-next counting (tree_of c.args.self.now) nothing_counted c.loop-place.place _ c.loop-place.counting.counts c.loop-place.counting.blocks.items _ _ _ c.loop-place.invariant at c.pass.ensures refl

pub returns : goal.returns
returns g c =
    let t = tree_of c.args.self.now in
    let long = ap length (c.self.view_is ∙ sym c.requires.written) in
    c.in_blocks.ensures
    ∙ counted t c.loop-place.counting.counts c.requires.fits.fit
    (passing-done counting t nothing_counted c.loop-place.place c.loop-place.counting.counts c.loop-place.counting.blocks.items c.loop-place.invariant (omega (arith, c.loop-place-test.false, c.len-place-end.ensures, long)))
    (omega (arith, c.len-place-end.ensures, c.len-place-end.type_inv, long))
