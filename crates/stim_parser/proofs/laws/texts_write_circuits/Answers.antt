use Rattle.stim_lexer.proofs.TreeLemmas.{each_tree_fits}
use Rattle.stim_parser.specs.Circuits.{Fits}
use Rattle.stim_parser.specs.Texts.{circuits}
use Rattle.stim_parser.proofs.CircuitFits.{reading_fits}
use Rattle.stim_parser.proofs.laws.texts_write_circuits.Goals as goal

pub returns : goal.returns
returns c = each_tree_fits Fits circuits reading_fits
