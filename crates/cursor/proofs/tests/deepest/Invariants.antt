use Rattle.std.proofs.Common.{◌≡◌, ◌++◌, length, replicate}
use Rattle.stim_lexer.specs.Trees.{BlockStart, BlockEnd}
use Rattle.cursor.proofs.tests.deepest.Given as goal

abbrev pub invariant-loop-opened : goal.invariant-loop-opened
invariant-loop-opened l =
    record {
      items : l.builder.text.items ≡ replicate l._opened (BlockStart 1 1000000000);
      opened : length l.builder.text.opened ≡ l._opened;
    }

abbrev pub invariant-loop-closed : goal.invariant-loop-closed
invariant-loop-closed l = l.builder.text.items ≡ l.initial.builder.text.items ++ replicate l._closed BlockEnd
