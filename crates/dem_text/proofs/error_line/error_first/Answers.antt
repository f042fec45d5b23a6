use Rattle.dem_text.proofs.AlikeLemmas.{begins_with_error}
use Rattle.dem_text.proofs.error_line.error_first.Goals as goal

pub returns : goal.returns
returns c = begins_with_error c.args.text.now _ _ _ _ c.in_ok-targets.ensures c.in_ok-found.ensures
