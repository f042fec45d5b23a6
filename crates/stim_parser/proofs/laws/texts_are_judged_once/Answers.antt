use Rattle.stim_lexer.proofs.TreeLemmas.{judged_once}
use Rattle.stim_parser.specs.Circuits.{Fits}
use Rattle.stim_parser.specs.Texts.{circuits}
use Rattle.stim_parser.proofs.CircuitFits.{reading_fits}
use Rattle.stim_parser.proofs.laws.texts_are_judged_once.Goals as goal

pub returns : goal.returns
returns c = judged_once Fits circuits reading_fits
