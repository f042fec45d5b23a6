-- Each part goes before what was there, so what was held stands behind them all.
use Rattle.error_models.proofs.HeldTextLemmas.{EndsIn-trans}
use Rattle.error_models.proofs.lines_text.LinesText.put_long_line.Goals as goal

pub returns-in_err-put_either_targets-clause-kept : goal.returns-in_err-put_either_targets-clause-kept
returns-in_err-put_either_targets-clause-kept g c = EndsIn-trans c.put.ensures.kept c.put_either_targets.ensures.kept

pub returns-in_err-put-2-clause-kept : goal.returns-in_err-put-2-clause-kept
returns-in_err-put-2-clause-kept g c = EndsIn-trans (EndsIn-trans c.put.ensures.kept c.put_either_targets.ensures.kept) c.put-2.ensures.kept

pub returns-in_err-put-3-clause-kept : goal.returns-in_err-put-3-clause-kept
returns-in_err-put-3-clause-kept g c =
    EndsIn-trans (EndsIn-trans (EndsIn-trans c.put.ensures.kept c.put_either_targets.ensures.kept) c.put-2.ensures.kept) c.put-3.ensures.kept

pub returns-clause-kept : goal.returns-clause-kept
returns-clause-kept g c =
    EndsIn-trans (EndsIn-trans (EndsIn-trans (EndsIn-trans c.put.ensures.kept c.put_either_targets.ensures.kept) c.put-2.ensures.kept) c.put-3.ensures.kept)
    c.put-4.ensures.kept
