use Rattle.std.proofs.Common.{◌≡◌, ◌<◌, ◌+◌, suc, length, get_or, set, inl, inr, ap, sym, ◌∙◌, arith, length-set, get_or-set_same, get_or-set_other}
use Rattle.std.proofs.lemmas.Bool.{cases_eq}
use Rattle.std.proofs.lemmas.List.{get_or_read}
use Rattle.record_targets.specs.private.ListedTargets.{start_of}
use Rattle.record_targets.proofs.listed_targets.set_starts.Goals as goal

pub loop-r-preserved : goal.loop-r-preserved
loop-r-preserved g c =
    let held = c.loop-r.invariant in
    let counts = c.loop-r.counts.items in
    let r = c.loop-r.r in
    let start = c.loop-r.start in
    let there : r < length counts = omega (arith, c.loop-r-test.true, held.long, c.len-r-end.ensures) in
    let count : c.index-count.result.now ≡ get_or counts r 0 = get_or_read counts r c.index-count.result.now there c.index-count.ensures 0 in
    let next : suc r ≡ r + 1 = omega arith in
    record {
      long = length-set counts r start ∙ held.long;
      starts = λ whole are k lt.
          elim (cases_eq k r) as (λ _. get_or (set counts r start) k 0 ≡ start_of whole k) [
            | inl e ↦ ap (λ i. get_or (set counts r start) i 0) e ∙ get_or-set_same counts r start 0 there ∙ held.start whole are ∙ ap (start_of whole) (sym e)
            | inr ne ↦ get_or-set_other counts r k start 0 ne ∙ held.starts whole are k (omega (arith, lt, ne))
          ];
      start = λ whole are.
          let sum : start + c.index-count.result.now ≡ start_of whole (suc r) = omega (arith, held.start whole are, count, held.left r (omega arith), are r (omega (arith, there, held.long))) in
          sum ∙ ap (start_of whole) next;
      left = λ k low. get_or-set_other counts r k start 0 (omega (arith, low)) ∙ held.left k (omega (arith, low));
    }

pub returns-clause-sum : goal.returns-clause-sum
returns-clause-sum g c = λ whole are.
    let done : c.loop-r.r ≡ length c.args.counts.now.items = omega (arith, c.loop-r-test.false, c.loop-r.auto.r-end, c.len-r-end.ensures) in
    c.loop-r.invariant.start whole are ∙ ap (start_of whole) done

pub returns-clause-starts : goal.returns-clause-starts
returns-clause-starts g c = λ whole are r lt.
    c.loop-r.invariant.starts whole are r (omega (arith, lt, c.loop-r-test.false, c.loop-r.invariant.long, c.len-r-end.ensures))
