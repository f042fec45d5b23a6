use Rattle.std.proofs.Common.{◌<◌, ◌+◌, length, get_or, ap, subst, sym, ◌∙◌, refl, arith}
use Rattle.std.specs.Prelude.{All}
use Rattle.std.proofs.lemmas.List.Elements.{All-tail}
use Rattle.circuit_walk.specs.NamedRecords.{records_in}
use Rattle.record_targets.specs.private.ListedTargets.{times_in}
use Rattle.record_targets.proofs.ListedLemmas.{counted}
use Rattle.record_targets.proofs.counting.count_each.Goals as goal

pub loop-rec-init : goal.loop-rec-init
loop-rec-init c = record { counts = λ r lt. refl; there = c.requires }

pub bounds-counts-rec : goal.bounds-counts-rec
bounds-counts-rec c =
    omega (arith, c.loop-rec.auto.counts, subst (All (λ r. r < length c.args.counts.now)) c.in-Some.ensures c.loop-rec.invariant.there 0 0 (omega arith))

pub bounds-counts-rec-in-Some : goal.bounds-counts-rec-in-Some
bounds-counts-rec-in-Some c =
    omega (arith, c.loop-rec.auto.counts, subst (All (λ r. r < length c.args.counts.now)) c.in-Some.ensures c.loop-rec.invariant.there 0 0 (omega arith))

pub loop-rec-smaller : goal.loop-rec-smaller
loop-rec-smaller c = omega (arith, ap length c.in-Some.ensures)

pub loop-rec-preserved : goal.loop-rec-preserved
loop-rec-preserved c =
    let held = c.loop-rec.invariant in
    let counts = c.loop-rec.counts in
    let rec = c.in-Some.rec in
    let rest = records_in c.in-Some.rest in
    let all = subst (All (λ r. r < length c.args.counts.now)) c.in-Some.ensures held.there in
    let there : rec < length counts = omega (arith, c.loop-rec.auto.counts, all 0 0 (omega arith)) in
    record {
      counts = λ r lt.
          counted counts rest rec r there (omega (arith, lt, c.loop-rec.auto.counts))
          ∙ ap (λ l. get_or counts r 0 + times_in r l) (sym c.in-Some.ensures)
          ∙ held.counts r lt;
      there = All-tail (λ r. r < length c.args.counts.now) rec rest all;
    }

pub returns-clause-counts : goal.returns-clause-counts
returns-clause-counts c = λ r lt. omega (arith, c.loop-rec.invariant.counts r lt, ap (times_in r) c.in_default.ensures)
