use Rattle.stim_parser.proofs.CircuitFits.{reading_fits}
use Rattle.stim_parser.proofs.parser.parse.Goals as goal

pub read_text-requires : goal.read_text-requires
read_text-requires g c = reading_fits
