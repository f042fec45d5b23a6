use Rattle.std.proofs.Common.{sym, ◌∙◌, ap}
use Rattle.stim_lexer.specs.Lexing.{Unread, first_found}
use Rattle.stim_lexer.proofs.LexingLemmas.{next_found-first, first_found-bad}
use Rattle.stim_lexer.proofs.lexer.Lexer.next_line.Goals as goal

pub returns-then-has_bad_byte-clause-again : goal.returns-then-has_bad_byte-clause-again
returns-then-has_bad_byte-clause-again c =
    next_found-first c.args.self.now c.pass_silent.new.self c.pass_silent.ensures.rest
    ∙ (ap (λ (u : Unread). first_found u.read u.lines) (sym c.self.view_is)
    ∙ first_found-bad _ _ _ _ (ap (λ (u : Unread). u.lines) c.self.view_is ∙ c.in-Some.ensures.lines)
    (sym c.has_bad_byte.ensures ∙ c.if-has_bad_byte.true))
