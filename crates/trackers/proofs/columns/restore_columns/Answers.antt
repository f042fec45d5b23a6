use Rattle.std.proofs.Common.{◌≢◌, ◌<◌, ◌+◌, ◌*◌, List, ℕ, [], length, get_or, ap, ap₂, subst, sym, ◌∙◌, arith, below_more, get_or-set_same, get_or-set_other}
use Rattle.std.specs.Prelude.{All}
use Rattle.std.proofs.lemmas.List.{get_or_default}
use Rattle.trackers.specs.private.Transposed.{column_of}
use Rattle.trackers.proofs.KeptLemmas.{length_there, lengths-set}
use Rattle.trackers.proofs.columns.restore_columns.Goals as goal

pub restore-requires-clause-x : goal.restore-requires-clause-x
restore-requires-clause-x g c =
    let q = c.loop-q.q in
    let lists = c.args.lists.now in
    let some : 2 * q + 1 < length lists = omega (arith, c.loop-q-test.true, c.len-q-end.ensures) in
    let low : q < length c.args.columns.now = omega (arith, some, c.requires.two_each) in
    let within : q < length c.loop-q.columns = omega (arith, low, c.loop-q.auto.columns) in
    let long = ap length (get_or_default c.loop-q.columns q c.index-columns-q.result [] within) ∙ length_there c.args.columns.now c.loop-q.columns q c.loop-q.invariant.long c.loop-q.auto.columns low in
    let named = c.requires.named q [] low (2 * q) [] (omega (arith, some)) in
    subst (λ (xs : List ℕ). All (λ t. t < length (get_or c.loop-q.columns q c.index-columns-q.result)) xs) (sym c.get.ensures.value)
    (subst (λ n. All (λ t. t < n) (get_or lists (2 * q) [])) (sym long) named)

pub restore-requires-clause-z : goal.restore-requires-clause-z
restore-requires-clause-z g c =
    let q = c.loop-q.q in
    let lists = c.args.lists.now in
    let some : 2 * q + 1 < length lists = omega (arith, c.loop-q-test.true, c.len-q-end.ensures) in
    let low : q < length c.args.columns.now = omega (arith, some, c.requires.two_each) in
    let within : q < length c.loop-q.columns = omega (arith, low, c.loop-q.auto.columns) in
    let long = ap length (get_or_default c.loop-q.columns q c.index-columns-q.result [] within) ∙ length_there c.args.columns.now c.loop-q.columns q c.loop-q.invariant.long c.loop-q.auto.columns low in
    let named = c.requires.named q [] low (2 * q + 1) [] some in
    subst (λ (xs : List ℕ). All (λ t. t < length (get_or c.loop-q.columns q c.index-columns-q.result)) xs) (sym c.get-in-loop-q.ensures.value)
    (subst (λ n. All (λ t. t < n) (get_or lists (2 * q + 1) [])) (sym long) named)

pub returns-in_err-restore-clause-long : goal.returns-in_err-restore-clause-long
returns-in_err-restore-clause-long g c =
    let q = c.loop-q.q in
    let within : q < length c.loop-q.columns = omega (arith, c.loop-q-test.true, c.len-q-end.ensures, c.requires.two_each, c.loop-q.auto.columns) in
    lengths-set c.loop-q.columns q c.restore.new.self within (c.restore.ensures.len ∙ ap length (get_or_default c.loop-q.columns q c.index-columns-q.result [] within)) ∙ c.loop-q.invariant.long

pub loop-q-preserved : goal.loop-q-preserved
loop-q-preserved g c =
    let q = c.loop-q.q in
    let lists = c.args.lists.now in
    let columns = c.loop-q.columns in
    let made = c.restore.new.self in
    let low : q < length c.args.columns.now = omega (arith, c.loop-q-test.true, c.len-q-end.ensures, c.requires.two_each) in
    let within : q < length columns = omega (arith, low, c.loop-q.auto.columns) in
    let here = ap length (get_or_default columns q c.index-columns-q.result [] within) in
    record {
      long = lengths-set columns q made within (c.restore.ensures.len ∙ here) ∙ c.loop-q.invariant.long;
      done =
          below_more _ _
          (λ k before. let ne : k ≢ q = omega (arith, before) in get_or-set_other columns q k made [] ne ∙ c.loop-q.invariant.done k before)
          (get_or-set_same columns q made [] within
          ∙ (c.in_ok-restore.ensures.ok
          ∙ (ap (λ n. column_of n c.get.result.now c.get-in-loop-q.result.now) (here ∙ length_there c.args.columns.now columns q c.loop-q.invariant.long c.loop-q.auto.columns low)
          ∙ ap₂ (column_of (length (get_or c.args.columns.now q []))) c.get.ensures.value c.get-in-loop-q.ensures.value)));
    }
