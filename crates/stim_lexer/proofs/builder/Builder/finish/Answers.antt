-- The line of the innermost block that is left open is the last of those that are kept.
use Rattle.std.proofs.lemmas.List.{reverse-append}
use Rattle.stim_lexer.proofs.builder.Builder.finish.Goals as goal

pub returns-in-Some-clause-err : goal.returns-in-Some-clause-err
returns-in-Some-clause-err g c = rw (← c.self.view_is, c.in-Some.ensures.items, reverse-append)
