use Rattle.std.proofs.Common.{◌≡◌, ◌<◌, ℕ, length, ap, ap₂, subst, sym, ◌∙◌, arith}
use Rattle.std.specs.Prelude.{All, map, replicate}
use Rattle.std.proofs.lemmas.List.{length-replicate}
use Rattle.flat_lists.proofs.CutLemmas.{All-cut}
use Rattle.step_model.specs.TargetSets.{row_of_set}
use Rattle.step_model.specs.Targets.{targets_of}
use Rattle.record_targets.specs.private.ListedTargets.{left_from, start_of}
use Rattle.record_targets.proofs.ListedLemmas.{all_rows, are_ends, none_put}
use Rattle.record_targets.proofs.SetLemmas.{listing_below-all}
use Rattle.record_targets.proofs.listed_targets.ListedTargets.new.Goals as goal

pub put_all-marks-requires : goal.put_all-marks-requires
put_all-marks-requires g c =
    let program = c.args.program.now.listing in
    let whole = left_from program 0 in
    let marks = c.set_starts.new.counts.items in
    let counted = c.in_ok-marks.ensures.counts in
    let long : length marks ≡ length c.in_ok-marks.marks.items = c.in_ok-count.ensures.len in
    let sum : c.in_ok-count.count ≡ start_of whole (length marks) = c.in_ok-count.ensures.sum whole counted ∙ ap (start_of whole) (sym long) in
    let blank : c.in_ok-numbers.numbers.items ≡ replicate c.in_ok-count.count 0 = c.in_ok-numbers.ensures.items_if_clones_equal (λ y h. h) in
    none_put program marks c.in_ok-numbers.numbers.items (long ∙ c.in_ok-marks.ensures.len) (c.in_ok-count.ensures.starts whole counted)
    (blank ∙ ap (λ (n : ℕ). replicate n 0) sum) (omega (arith, ap length blank, length-replicate {A = ℕ} c.in_ok-count.count 0, c.in_ok-count.ensures.few))

pub cut-requires : goal.cut-requires
cut-requires g c = are_ends c.args.program.now.listing c.put_all-marks.result.marks.items c.put_all-marks.result.numbers.items c.put_all-marks.ensures

pub invariant_of-result : goal.invariant_of-result
invariant_of-result g c =
    let IsBelow : ℕ → Type 0 = λ t. t < length (targets_of c.args.program.now.listing) in
    subst (λ n. All (All (λ t. t < n)) c.cut.result) (sym c.target_count.ensures.count)
    (subst (All (All IsBelow)) (sym c.cut.ensures) (All-cut IsBelow 0 c.put_all-marks.result.marks.items c.put_all-marks.result.numbers.items c.put_all-marks.ensures.below))

pub returns : goal.returns
returns g c =
    let program = c.args.program.now.listing in
    let marks = c.put_all-marks.result.marks.items in
    let numbers = c.put_all-marks.result.numbers.items in
    ap₂ (λ n lists. map (row_of_set n) lists) c.target_count.ensures.count c.cut.ensures
    ∙ (all_rows program marks numbers c.put_all-marks.ensures ∙ listing_below-all program)
