use Rattle.std.proofs.Common.{length}
use Rattle.stim_lexer.proofs.TextLemmas.{IsReading}
use Rattle.stim_parser.specs.Judging.{format_of}
use Rattle.stim_parser.specs.Probabilities.{Keeps, marked_in}
use Rattle.stim_parser.proofs.reader.read_items.Given as goal

abbrev pub invariant-loop-texts : goal.invariant-loop-texts
invariant-loop-texts g l =
    (IsReading (format_of g.J.Judge.table) l.fn.text l.builder.text l.lexer) × Keeps g.J.Judge.table l.texts.items (marked_in l.builder)

abbrev pub decreases-loop-texts : goal.decreases-loop-texts
decreases-loop-texts g l = length l.lexer.lines
