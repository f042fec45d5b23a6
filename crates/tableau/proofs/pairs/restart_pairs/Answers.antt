use Rattle.std.proofs.Common.{◌<◌, length, sym, ◌∙◌, arith}
use Rattle.std.proofs.lemmas.List.{ext_get_or}
use Rattle.std.proofs.lemmas.List.FromFn.{get_or-map-range_with_len, length-map-range_with_len}
use Rattle.pauli_word.specs.Groups.{identity_word}
use Rattle.tableau.specs.private.EncodingSteps.{start_pair, start_rows}
use Rattle.tableau.proofs.pairs.restart_pairs.Goals as goal

pub returns : goal.returns
returns g c =
    let n = length c.args.rows.now.items in
    let none = identity_word n in
    ext_get_or (none, none) c.loop-qubit.rows.items (start_rows n)
    (c.loop-qubit.invariant.size ∙ sym (length-map-range_with_len (start_pair n) 0 n))
    (λ q below.
    let within : q < n = omega (arith, below, c.loop-qubit.invariant.size) in
    let before : q < c.loop-qubit.qubit = omega (arith, within, c.loop-qubit-test.false, c.loop-qubit.auto.qubit-end, c.len-qubit-end.ensures) in
    c.loop-qubit.invariant.begun q before ∙ sym (get_or-map-range_with_len (start_pair n) 0 n q q (none, none) within (omega arith)))
