use Rattle.std.proofs.Common.{length, ap, arith}
use Rattle.stim_lexer.specs.Flat.{tree_of}
use Rattle.cursor.proofs.Nested.{are_nested}
use Rattle.dem_text.specs.Fitting.{Fits}
use Rattle.dem_text.proofs.UnrolledLemmas.{few-reached}
use Rattle.dem_text.proofs.front.Front.fold_kept.Goals as goal

pub go_over-requires-clause-nested : goal.go_over-requires-clause-nested
go_over-requires-clause-nested g c = are_nested Fits c.args.kept.now c.requires.written

pub go_over-requires-clause-few : goal.go_over-requires-clause-few
go_over-requires-clause-few g c =
    let reached_few = few-reached (tree_of c.args.kept.now) in
    let long = ap length c.requires.written.written in
    let few = c.requires.ready.few in
    let capped = c.requires.ready.capped in
    omega (arith, reached_few, long, few, capped, c.requires.room, c.block_lines.ensures, c.min-self.ensures, c.if-self-gt-MOST_LINES.false)
