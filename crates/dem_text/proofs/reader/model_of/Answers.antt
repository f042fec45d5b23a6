use Rattle.std.proofs.Common.{arith}
use Rattle.stim_lexer.specs.Flat.{tree_of}
use Rattle.dem_text.specs.Models.{placed_lines}
use Rattle.dem_text.proofs.BuildLemmas.{built}
use Rattle.dem_text.proofs.NearLemmas.{few-counts}
use Rattle.dem_text.proofs.reader.model_of.Goals as goal

pub push_errors-requires-clause-few : goal.push_errors-requires-clause-few
push_errors-requires-clause-few g c =
    let few = few-counts (placed_lines (tree_of c.args.kept.now)) c.requires.within in
    omega (arith, few, c.requires.counts_are.detectors_are, c.requires.counts_are.observables_are)

pub returns : goal.returns
returns g c =
    let counts = c.args.counts in
    built (placed_lines (tree_of c.args.kept.now)) counts.detectors counts.observables counts.errors _ _ _ c.requires.counts_are
    c.in_ok-coordinates.ensures c.new-model.ensures c.in_ok-push_errors.ensures
