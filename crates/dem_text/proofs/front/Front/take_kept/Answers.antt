use Rattle.std.proofs.Common.{List, [], sym, subst, refl, arith}
use Rattle.stim_lexer.specs.Flat.{tree_of}
use Rattle.dem_text.specs.Texts.{Item}
use Rattle.dem_text.specs.private.Making.{IsMaking}
use Rattle.dem_text.proofs.MakingLemmas.{making-written}
use Rattle.dem_text.proofs.PassedLemmas.{folded-same, kept-few, passed-unit}
use Rattle.dem_text.proofs.front.Front.take_kept.Goals as goal

pub fold_kept-requires-clause-written : goal.fold_kept-requires-clause-written
fold_kept-requires-clause-written g c = let kept = c.requires.kept in making-written c.args.self.now.read kept.lines c.args.kept.now kept.making

pub fold_kept-requires-clause-room : goal.fold_kept-requires-clause-room
fold_kept-requires-clause-room g c = omega (arith, c.requires.room, kept-few c.args.text.now c.args.rest.now c.args.self.now.read c.args.read c.args.kept.now c.requires.kept)

pub returns : goal.returns
returns g c =
    let kept = c.requires.kept in
    let written = (making-written c.args.self.now.read kept.lines c.args.kept.now kept.making).written in
    passed-unit c.args.self.now _ c.args.text.now c.args.rest.now kept.lines (tree_of c.args.kept.now) kept.behind
    (subst (λ (is : List Item). IsMaking c.args.self.now.read kept.lines (record { items = is; opened = [] })) (sym written) kept.making)
    kept.read_is c.fold_kept.ensures.unrolled (folded-same _ c.args.self.now c.fold_kept.new.self _ c.fold_kept.ensures.folded refl refl) c.requires.ready
