use Rattle.std.proofs.Common.{ap, ◌∙◌}
use Rattle.std.proofs.lemmas.Result.{on_ok_weaker}
use Rattle.bit_rows.specs.Rows.{xor_rows}
use Rattle.step_model.specs.TargetSets.{row_of_set}
use Rattle.trackers.proofs.target_set.toggle_all.Goals as goal

pub returns-clause-ok : goal.returns-clause-ok
returns-clause-ok g c =
    let bits = g.S.TargetSet.bits in
    on_ok_weaker c.add.result
    (λ h. h ∙ ap (xor_rows (bits c.args.set.now)) (c.in_ok-make_set.ensures.ok ∙ ap (λ n. row_of_set n c.args.targets.now) c.requires.long.made_long))
    c.add.ensures.ok
