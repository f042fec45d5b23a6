use Rattle.stim_lexer.proofs.TreeLemmas.{judged_once}
use Rattle.dem_text.specs.Fitting.{Fits}
use Rattle.dem_text.specs.Texts.{models}
use Rattle.dem_text.proofs.FitLemmas.{reading_fits}
use Rattle.dem_text.proofs.laws.texts_are_judged_once.Goals as goal

pub returns : goal.returns
returns c = judged_once Fits models reading_fits
