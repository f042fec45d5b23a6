use Rattle.std.proofs.Common.{◌≡◌, ◌<◌, ◌+◌, ◌-◌, ◌∷◌, length, drop, get_or, refl, ap, sym, ◌∙◌, arith}
use Rattle.std.proofs.lemmas.List.{drop_all, drop_more}
use Rattle.bit_rows.specs.Rows.{xor_rows}
use Rattle.step_model.specs.TargetSets.{row_of_set, toggled}
use Rattle.step_model.proofs.RowLemmas.{length-row_of_set, none_added, row_of_more, toggled_sum}
use Rattle.trackers.proofs.target_set.toggle_down.Goals as goal

pub loop-left-init : goal.loop-left-init
loop-left-init g c =
    let row = g.S.TargetSet.bits c.args.set.now in
    let targets = c.args.targets.now in
    record {
      long = refl;
      within = omega arith;
      done = sym (ap (λ set. xor_rows row (row_of_set (length row) set)) (drop_all (length targets) targets (omega arith)) ∙ none_added row 0 (length row) refl);
    }

pub loop-left-preserved : goal.loop-left-preserved
loop-left-preserved g c =
    let row = g.S.TargetSet.bits c.args.set.now in
    let m = length row in
    let targets = c.args.targets.now in
    let left = c.loop-left.left in
    let held = c.loop-left.invariant in
    let next : left - 1 + 1 ≡ left = omega (arith, c.loop-left-test.true) in
    let within : left - 1 < length targets = omega (arith, next, held.within) in
    let t = get_or targets (left - 1) 0 in
    let fits : t < m = c.requires (left - 1) 0 within in
    let others = drop left targets in
    record {
      long = c.toggle.ensures.len ∙ held.long;
      within = omega (arith, within);
      done = c.in_ok-toggle.ensures.ok
          ∙ (ap (toggled t) held.done
          ∙ (toggled_sum row (row_of_set m others) t (sym (length-row_of_set m others))
          ∙ ap (xor_rows row)
          (sym (row_of_more m t others fits)
          ∙ ap (row_of_set m) (ap (λ n. t ∷ drop n targets) (sym next) ∙ sym (drop_more targets (left - 1) 0 within)))));
    }
