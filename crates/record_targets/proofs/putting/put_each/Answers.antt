-- The mark that is read stands before the last number, since its record is left to be put.
use Rattle.std.proofs.Common.{◌+◌, ◌<◌, ◌∷◌, ◌++◌, List, ℕ, length, get_or, set, ap, subst, sym, arith}
use Rattle.std.specs.Prelude.{All}
use Rattle.std.proofs.lemmas.List.Elements.{All-tail}
use Rattle.circuit_walk.specs.NamedRecords.{records_in}
use Rattle.record_targets.specs.private.ListedTargets.{ArePutBut, HasRoom}
use Rattle.record_targets.proofs.ListedLemmas.{mark_within}
use Rattle.record_targets.proofs.PuttingLemmas.{none_of_them, one_of_them}
use Rattle.record_targets.proofs.putting.put_each.Goals as goal
use Rattle.record_targets.proofs.putting.put_each.Goals.{In-Some}

pub loop-rec-init : goal.loop-rec-init
loop-rec-init c =
    record {
      put = none_of_them c.args.target (records_in c.args.records) c.args.marks.now c.args.numbers.now;
      there = c.requires.there;
    }

there : (c : In-Some) → c.in-Some.rec < length c.loop-rec.marks
there c =
    omega (arith, c.loop-rec.auto.marks, subst (All (λ r. r < length c.args.marks.now)) c.in-Some.ensures c.loop-rec.invariant.there 0 0 (omega arith))

pub bounds-marks-rec : goal.bounds-marks-rec
bounds-marks-rec c = there (goal.at.bounds-marks-rec c).In-Some

room : (c : In-Some) → HasRoom c.requires.room.0 (c.in-Some.rec ∷ (records_in c.in-Some.rest ++ c.requires.room.1)) c.loop-rec.marks c.loop-rec.numbers
room c =
    let later = c.requires.room.1 in
    subst (λ (l : List ℕ). HasRoom c.requires.room.0 (l ++ later) c.loop-rec.marks c.loop-rec.numbers) c.in-Some.ensures
    (c.loop-rec.invariant.put.room c.requires.room.0 later c.requires.room.2)

within : (c : In-Some) → get_or c.loop-rec.marks c.in-Some.rec 0 < length c.loop-rec.numbers
within c =
    mark_within c.requires.room.0 (records_in c.in-Some.rest ++ c.requires.room.1) c.loop-rec.marks c.loop-rec.numbers c.in-Some.rec c.args.target (room c) (there c)

pub put_at-requires : goal.put_at-requires
put_at-requires c = within (goal.at.put_at-requires c).In-Some

pub overflow_add-marks : goal.overflow_add-marks
overflow_add-marks c =
    let here = (goal.at.overflow_add-marks c).In-Some in
    omega (arith, within here, (room here).few)

pub bounds-marks-rec-in-Some : goal.bounds-marks-rec-in-Some
bounds-marks-rec-in-Some c = there (goal.at.bounds-marks-rec-in-Some c).In-Some

pub loop-rec-smaller : goal.loop-rec-smaller
loop-rec-smaller c = omega (arith, ap length c.in-Some.ensures)

pub loop-rec-preserved : goal.loop-rec-preserved
loop-rec-preserved c =
    let a = c.args in
    let rec = c.in-Some.rec in
    let rest = records_in c.in-Some.rest in
    record {
      put =
          subst (λ (l : List ℕ). ArePutBut a.target (records_in a.records) rest a.marks.now a.numbers.now (set c.loop-rec.marks rec (get_or c.loop-rec.marks rec 0 + 1)) l) (sym c.put_at.ensures)
          (one_of_them a.target rec (records_in a.records) rest a.marks.now a.numbers.now c.loop-rec.marks c.loop-rec.numbers (there (goal.at.loop-rec-preserved c).In-Some)
          (subst (λ (l : List ℕ). ArePutBut a.target (records_in a.records) l a.marks.now a.numbers.now c.loop-rec.marks c.loop-rec.numbers) c.in-Some.ensures c.loop-rec.invariant.put));
      there =
          All-tail (λ r. r < length a.marks.now) rec rest
          (subst (All (λ r. r < length a.marks.now)) c.in-Some.ensures c.loop-rec.invariant.there);
    }

pub returns : goal.returns
returns c =
    let a = c.args in
    subst (λ (l : List ℕ). ArePutBut a.target (records_in a.records) l a.marks.now a.numbers.now c.loop-rec.marks c.loop-rec.numbers) c.in_default.ensures c.loop-rec.invariant.put
