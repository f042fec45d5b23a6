use Rattle.std.proofs.Common.{◌≡◌, ◌++◌, ◌∷◌, [], List, false, length, ap, ap₂, ◌∙◌, arith}
use Rattle.std.specs.Prelude.{replicate}
use Rattle.std.proofs.lemmas.List.{replicate-append-replicate, length-replicate}
use Rattle.pauli_word.specs.declared.letter.Letter.{Letter}
use Rattle.pauli_word.specs.Words.{no_letters}
use Rattle.trackers.specs.private.Transposed.{tracked_of}
use Rattle.trackers.proofs.TransposedLemmas.{tracked_fresh, columns_fresh, column_of_none}
use Rattle.trackers.proofs.words.Words.of_sets.Goals as goal

pub loop-made-preserved : goal.loop-made-preserved
loop-made-preserved g c =
    let m = c.args.targets in
    let column = c.in_ok-of_copies.ensures ∙ column_of_none m _ _ c.requires.none c.requires.none in
    c.in_ok-push.ensures.items
    ∙ (ap₂ (λ (columns : List (List Letter)) (column : List Letter). columns ++ column ∷ []) c.loop-made.invariant column
    ∙ replicate-append-replicate c.loop-made._made 1 (no_letters m))

pub invariant_of-result : goal.invariant_of-result
invariant_of-result g c =
    let m = c.args.targets in
    let first = c.in_ok-first.ensures ∙ column_of_none m _ _ c.requires.none c.requires.none in
    let second = c.in_ok-second.ensures ∙ column_of_none m _ _ c.requires.none c.requires.none in
    record {
      columns_long = columns_fresh m c.loop-made._made c.loop-made.columns.items c.loop-made.invariant;
      first_long = ap length first ∙ length-replicate m _;
      second_long = ap length second ∙ length-replicate m _;
      set_long = ap length (c.in_ok-set.ensures ∙ c.requires.none) ∙ length-replicate m false;
      spare_long = ap length c.requires.none ∙ length-replicate m false;
      few = c.requires.few;
    }

pub returns : goal.returns
returns g c =
    let m = c.args.targets in
    let done : c.loop-made._made ≡ c.args.qubits = omega (arith, c.loop-made-test.false, c.loop-made.auto._made-end) in
    ap (tracked_of m) (c.loop-made.invariant ∙ ap (λ n. replicate n (no_letters m)) done) ∙ tracked_fresh c.args.qubits m
