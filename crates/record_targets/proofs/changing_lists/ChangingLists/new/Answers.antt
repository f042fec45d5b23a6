use Rattle.std.proofs.Common.{◌≡◌, [], length, ap, subst, sym, arith}
use Rattle.std.specs.Prelude.{All}
use Rattle.step_model.specs.Targets.{targets_of}
use Rattle.record_targets.proofs.SetLemmas.{listing_sets-long}
use Rattle.record_targets.proofs.changing_lists.ChangingLists.new.Goals as goal

pub invariant_of-result : goal.invariant_of-result
invariant_of-result g c =
    let program = c.args.program.now.listing in
    record {
      long =
          subst (λ n. All (λ row. length row ≡ n) c.in_ok-listed.listed) (sym c.target_count.ensures.count)
          (subst (All (λ row. length row ≡ length (targets_of program))) (sym c.in_ok-listed.ensures) (listing_sets-long program []));
      of_changes =
          record {
            long = λ k d lt. absurd (omega (arith, lt, ap length c.none.ensures));
            within = tt;
            below = λ k d lt. absurd (omega (arith, lt, ap length c.new-2.ensures.items));
          };
      count = λ some. absurd (omega (arith, some, ap length c.none.ensures));
    }
