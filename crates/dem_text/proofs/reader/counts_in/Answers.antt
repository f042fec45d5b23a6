use Rattle.std.proofs.Common.{[]}
use Rattle.dem_text.proofs.ReaderLemmas.{at-end, counts-found, refusal-found}
use Rattle.dem_text.proofs.reader.counts_in.Goals as goal

pub returns-clause-ok : goal.returns-clause-ok
returns-clause-ok g c =
    let found = at-end [] 0 _ _ _ _ _ c.in_ok-front.ensures.read c.in_ok-ended.ensures in
    counts-found _ _ _ _ c.verdict.result found.1 c.verdict.ensures

pub returns-clause-err : goal.returns-clause-err
returns-clause-err g c =
    let found = at-end [] 0 _ _ _ _ _ c.in_ok-front.ensures.read c.in_ok-ended.ensures in
    refusal-found _ _ _ _ c.verdict.result found.1 c.verdict.ensures
