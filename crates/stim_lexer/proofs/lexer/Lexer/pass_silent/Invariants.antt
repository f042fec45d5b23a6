use Rattle.std.proofs.Common.{◌≡◌, ◌+◌, ◌<◌, ◌^◌, length}
use Rattle.stim_lexer.specs.Lexing.{after_silent}
use Rattle.stim_lexer.specs.Lines.{lines_of}
use Rattle.stim_lexer.specs.private.Special.{IsPlain}
use Rattle.stim_lexer.proofs.lexer.Lexer.pass_silent.Given as goal

abbrev pub invariant-loop-self : goal.invariant-loop-self
invariant-loop-self l =
    (after_silent l.self-inside.read (lines_of l.self-inside.rest.now) ≡ after_silent l.initial.self-inside.read (lines_of l.initial.self-inside.rest.now))
    × ((l.self-inside.read + length l.self-inside.rest.now < 2 ^ 64) × IsPlain l.self-inside.plain l.self-inside.rest.now)

abbrev pub decreases-loop-self : goal.decreases-loop-self
decreases-loop-self l = length l.self-inside.rest.now
