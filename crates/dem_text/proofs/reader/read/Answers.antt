use Rattle.std.proofs.Common.{arith}
use Rattle.dem_text.proofs.ReaderLemmas.{kept-model, model-kept}
use Rattle.dem_text.proofs.reader.read.Goals as goal

pub model_of-requires : goal.model_of-requires
model_of-requires g c =
    kept-model c.args.text.now _ _ c.in_ok-kept.ensures.ok c.in_ok-counts.ensures.ok
    (omega (arith, c.in_ok-kept.ensures.few))

pub returns-clause-ok : goal.returns-clause-ok
returns-clause-ok g c =
    model-kept c.args.text.now _ _ c.in_ok-kept.ensures.ok c.in_ok-counts.ensures.ok _ c.in_ok-model_of.ensures
