use Rattle.std.proofs.Common.{◌-◌}
use Rattle.stim_lexer.specs.private.Special.{IsPlain}
use Rattle.stim_lexer.proofs.scan.plain_front.Given as goal

abbrev pub invariant-loop-front : goal.invariant-loop-front
invariant-loop-front l = IsPlain l.front l.text

abbrev pub decreases-loop-front : goal.decreases-loop-front
decreases-loop-front l = 4096 - l.front
