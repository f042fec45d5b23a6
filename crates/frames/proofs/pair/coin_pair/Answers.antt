use Rattle.frames.specs.Pairs.{PairDiffers}
use Rattle.frames.proofs.pair.coin_pair.Goals as goal

pub returns-in-Ok-clause-differ : goal.returns-in-Ok-clause-differ
returns-in-Ok-clause-differ g c d is =
    let law = c.pair_disagrees.ensures c.args.program.now.listing d c.args.place c.well_formed-2.ensures is in
    let differ : PairDiffers c.args.program.now.listing d c.in-Ok.pair.0.items c.in-Ok.pair.1.items =
    rw (c.in-Ok.ensures.first, c.in-Ok.ensures.second) (record { first_size = law.first; second_size = law.second; parities = law.parities }) in
    differ
