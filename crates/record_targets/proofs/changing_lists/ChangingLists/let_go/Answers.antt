use Rattle.std.proofs.Common.{◌≡◌, ◌∙◌, false, length, take, ap, subst, sym, arith}
use Rattle.std.specs.Prelude.{All, replicate}
use Rattle.std.proofs.lemmas.List.{take-set}
use Rattle.record_targets.specs.private.Apart.{with_apart}
use Rattle.record_targets.proofs.ApartLemmas.{all-with_apart, apart_as_long, length-with_apart, same_lengths, take-with_apart}
use Rattle.record_targets.proofs.ChangeLemmas.{all-with_changes, length-with_changes, take-with_changes}
use Rattle.record_targets.proofs.changing_lists.ChangingLists.let_go.Goals as goal

pub invariant_of-self : goal.invariant_of-self
invariant_of-self g c =
    let as_long = c.empty.ensures.as_long in
    record {
      long = c.self.invariant.long;
      of_changes = apart_as_long c.self.inside.targets c.self.inside.changes c.empty.new.self c.self.inside.apart c.self.inside.set.items as_long c.self.invariant.of_changes;
      count = λ some. as_long.len ∙ c.self.invariant.count (omega (arith, some, as_long.len));
    }

pub returns-then-rec-len-clause-kept : goal.returns-then-rec-len-clause-kept
returns-then-rec-len-clause-kept g c =
    let m = c.self.inside.targets in
    let changes = c.self.inside.changes in
    let apart = c.self.inside.apart in
    let xs = c.self.inside.set.items in
    let rec = c.args.rec in
    take-with_changes rec c.self.inside.listed (with_apart m changes apart xs) (with_apart m c.empty.new.self apart xs)
    (length-with_apart m c.empty.new.self apart xs ∙ (c.empty.ensures.as_long.len ∙ sym (length-with_apart m changes apart xs)))
    (take-with_apart m rec changes c.empty.new.self apart xs
    (ap (take rec) (c.empty.ensures.set m c.self.invariant.of_changes.long) ∙ take-set changes rec (replicate m false)))
    ∙ ap (take rec) c.self.view_is

pub returns-then-rec-len-clause-len : goal.returns-then-rec-len-clause-len
returns-then-rec-len-clause-len g c =
    length-with_changes c.self.inside.listed _ ∙ (sym (length-with_changes c.self.inside.listed _) ∙ ap length c.self.view_is)

pub returns-then-rec-len-clause-long : goal.returns-then-rec-len-clause-long
returns-then-rec-len-clause-long g c = λ n all.
    let m = c.self.inside.targets in
    let listed = c.self.inside.listed in
    let changes = c.self.inside.changes in
    let apart = c.self.inside.apart in
    let xs = c.self.inside.set.items in
    same_lengths m n _ _ (length-with_changes listed _ ∙ sym (length-with_changes listed _))
    (all-with_changes m listed (with_apart m changes apart xs) c.self.invariant.long (all-with_apart m changes apart xs c.self.invariant.of_changes.long))
    (all-with_changes m listed (with_apart m c.empty.new.self apart xs) c.self.invariant.long (all-with_apart m c.empty.new.self apart xs (c.empty.ensures.as_long.long m c.self.invariant.of_changes.long)))
    (subst (All (λ row. length row ≡ n)) (sym c.self.view_is) all)
