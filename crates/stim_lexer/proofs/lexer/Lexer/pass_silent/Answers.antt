use Rattle.std.proofs.Common.{sym, ◌∙◌, ap, arith}
use Rattle.std.proofs.lemmas.Bool.{eqb-true}
use Rattle.stim_lexer.specs.Lexing.{Unread, after_silent}
use Rattle.stim_lexer.proofs.ScanLemmas.{lines_of-none}
use Rattle.stim_lexer.proofs.LexingLemmas.{after_silent-passes, after_silent-stays, after_silent-done}
use Rattle.stim_lexer.proofs.lexer.Lexer.pass_silent.Goals as goal

pub returns-then-not-is_empty-clause-rest : goal.returns-then-not-is_empty-clause-rest
returns-then-not-is_empty-clause-rest c =
    sym (after_silent-stays _ _ _ _ _ _ c.first_line.ensures.lines c.content_of-content.ensures c.is_empty-in-loop-self.ensures c.if-not-is_empty.true)
    ∙ (c.loop-self.invariant.0 ∙ ap (λ (u : Unread). after_silent u.read u.lines) c.self.view_is)

pub loop-self-preserved : goal.loop-self-preserved
loop-self-preserved c = (
  sym (after_silent-passes _ _ _ _ _ _ c.first_line.ensures.lines c.content_of-content.ensures c.is_empty-in-loop-self.ensures c.if-not-is_empty.false)
      ∙ c.loop-self.invariant.0,
  (omega arith, c.judge_line-special.ensures.plain),
)

pub returns-clause-rest : goal.returns-clause-rest
returns-clause-rest c =
    sym (after_silent-done _ _ (lines_of-none c.loop-self.self-inside.rest.now (eqb-true _ _ (sym c.is_empty.ensures ∙ c.loop-self-test.false))))
    ∙ (c.loop-self.invariant.0 ∙ ap (λ (u : Unread). after_silent u.read u.lines) c.self.view_is)

pub returns-clause-none : goal.returns-clause-none
returns-clause-none c = λ none. lines_of-none c.loop-self.self-inside.rest.now (eqb-true _ _ (sym c.is_empty.ensures ∙ c.loop-self-test.false))
