use Rattle.stim_parser.proofs.AlikeLemmas.{one_text, text_tells, with_lines_is_alike}
use Rattle.stim_parser.proofs.CircuitTexts.{circuit_is_written}
use Rattle.stim_parser.proofs.laws.circuits_are_written.Goals as goal

pub returns : goal.returns
returns c =
    record {
      written = circuit_is_written;
      alike = with_lines_is_alike;
      one_text = one_text;
      told_apart = text_tells;
    }
