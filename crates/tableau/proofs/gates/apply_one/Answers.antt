use Rattle.std.proofs.Common.{length, set, ap, sym, subst}
use Rattle.tableau.specs.private.Encoding.{HasLength}
use Rattle.tableau.proofs.PairWords.{pair_size, pair_apart, one_made}
use Rattle.tableau.proofs.gates.apply_one.Goals as goal

pub set_preimages-requires-clause-size : goal.set_preimages-requires-clause-size
set_preimages-requires-clause-size g c =
    let size = pair_size c.args.rows.now.items c.requires.tableau c.args.qubit c.index_mut.result.now c.requires.inside c.index_mut.ensures.value in
    subst (λ m. HasLength m c.index_mut.result.now) (sym size.x) size

pub set_preimages-requires-clause-apart : goal.set_preimages-requires-clause-apart
set_preimages-requires-clause-apart g c = pair_apart c.args.rows.now.items c.requires.tableau c.args.qubit c.index_mut.result.now c.requires.inside c.index_mut.ensures.value

pub returns : goal.returns
returns g c =
    let size = pair_size c.args.rows.now.items c.requires.tableau c.args.qubit c.index_mut.result.now c.requires.inside c.index_mut.ensures.value in
    ap (set c.args.rows.now.items c.args.qubit)
    (one_made c.args.rows.now.items c.requires.tableau c.args.gate c.args.qubit c.requires.inside (length c.index_mut.result.now.0.letters) c.index_mut.result.now c.set_preimages.new.pair size.x
    c.index_mut.ensures.value c.set_preimages.ensures)
