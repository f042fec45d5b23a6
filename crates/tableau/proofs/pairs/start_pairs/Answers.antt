use Rattle.std.proofs.Common.{◌≡◌, ◌++◌, ◌∷◌, [], map, ap, ap₂, sym, ◌∙◌, arith}
use Rattle.std.specs.List.{range_with_len}
use Rattle.std.proofs.lemmas.List.FromFn.{map-range_with_len_more}
use Rattle.tableau.specs.private.EncodingSteps.{start_pair}
use Rattle.tableau.proofs.pairs.start_pairs.Goals as goal

pub push_reserved-requires : goal.push_reserved-requires
push_reserved-requires g c = omega (arith, c.loop-qubit.invariant.room, c.loop-qubit-test.true)

pub loop-qubit-preserved : goal.loop-qubit-preserved
loop-qubit-preserved g c =
    record {
      made =
          c.push_reserved.ensures.items
          ∙ (ap₂ (λ rows r. rows ++ r ∷ []) c.loop-qubit.invariant.made c.in_ok-start_pair.ensures
          ∙ sym (map-range_with_len_more (start_pair c.args.n) 0 c.loop-qubit.qubit c.loop-qubit.qubit (omega arith)));
      room = omega (arith, c.loop-qubit.invariant.room, c.push_reserved.ensures.len, c.push_reserved.ensures.capacity, c.loop-qubit-test.true);
    }

pub returns : goal.returns
returns g c =
    let here : c.loop-qubit.qubit ≡ c.args.n = omega (arith, c.loop-qubit-test.false, c.loop-qubit.auto.qubit-end) in
    c.loop-qubit.invariant.made ∙ ap (λ m. map (start_pair c.args.n) (range_with_len 0 m)) here
