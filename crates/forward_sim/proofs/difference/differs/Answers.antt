-- One record more leaves both parities.
use Rattle.std.proofs.Common.{◌<◌, length, subst}
use Rattle.std.specs.Prelude.{All}
use Rattle.std.proofs.lemmas.List.Elements.{All-tail}
use Rattle.circuit_walk.specs.NamedRecords.{records_in}
use Rattle.forward_sim.proofs.AnswerLemmas.{one_more}
use Rattle.forward_sim.proofs.difference.differs.Goals as goal

pub loop-rec-preserved : goal.loop-rec-preserved
loop-rec-preserved g c =
    let first = c.args.records.now in
    let second = c.args.reference.now in
    let rec = c.in-Some.rec in
    let rest = records_in c.in-Some.rest in
    let held = c.loop-rec.invariant in
    record {
      made = one_more first second rec (records_in c.loop-rec.left) rest c.loop-rec.differ c.get.result c.get-in-Some.result _ c.in-Some.ensures c.get.ensures c.get-in-Some.ensures held.made;
      there = All-tail (λ r. r < length first) rec rest (subst (All (λ r. r < length first)) c.in-Some.ensures held.there);
      there_too = All-tail (λ r. r < length second) rec rest (subst (All (λ r. r < length second)) c.in-Some.ensures held.there_too);
    }
