use Rattle.std.proofs.Common.{Option, ◌∙◌, ap, sym}
use Rattle.std.proofs.lemmas.Result.{IfOk-weaker}
use Rattle.stim_lexer.specs.Lexing.{cut_in}
use Rattle.stim_lexer.specs.Texts.{Refuses}
use Rattle.stim_parser.specs.declared.table.Causes.{Causes}
use Rattle.stim_parser.specs.declared.table.Keyword.{Keyword}
use Rattle.stim_parser.specs.Judging.{misplaces_brace}
use Rattle.stim_parser.proofs.JudgeLemmas.{reading-keyword, reading-refused, refusal-brace, refusal-name}
use Rattle.stim_parser.proofs.judge.read_line.Goals as goal

pub returns-then-misplaces_brace-clause-reading : goal.returns-then-misplaces_brace-clause-reading
returns-then-misplaces_brace-clause-reading g c =
    let table = g.J.Judge.table in
    let cut = cut_in c.args.line in
    ap (λ (causes : Causes). Refuses causes.block) c.causes-then-misplaces_brace.ensures
    ∙ sym (reading-refused table c.args.depth c.args.line.number cut table.causes.block c.in_default.not-ClosingAlone
    (refusal-brace table c.args.depth cut
    (ap (λ (named : Option (Keyword g.row.O.Denot)). misplaces_brace named c.args.line.braces) (sym c.keyword_named-keyword.ensures)
    ∙ (sym c.misplaces_brace.ensures ∙ c.if-misplaces_brace.true))))

pub returns-in-None-clause-reading : goal.returns-in-None-clause-reading
returns-in-None-clause-reading g c =
    let table = g.J.Judge.table in
    let cut = cut_in c.args.line in
    ap Refuses c.refusal_of_name.ensures
    ∙ sym (reading-refused table c.args.depth c.args.line.number cut (table.refusal_of_name c.args.line.name.now) c.in_default.not-ClosingAlone
    (refusal-name table c.args.depth cut (sym c.keyword_named-keyword.ensures ∙ c.in-None.is)
    (ap (λ (named : Option (Keyword g.row.O.Denot)). misplaces_brace named c.args.line.braces) (sym c.in-None.is)
    ∙ (sym c.misplaces_brace.ensures ∙ c.if-misplaces_brace.false))))

pub returns-in-Some-clause-reading : goal.returns-in-Some-clause-reading
returns-in-Some-clause-reading g c =
    let cut = cut_in c.args.line in
    IfOk-weaker c.said_with.result _ _
    (λ said h. h
    ∙ sym (reading-keyword g.J.Judge.table c.args.depth c.args.line.number cut c.in-Some.keyword c.in_default.not-ClosingAlone (sym c.keyword_named-keyword.ensures ∙ c.in-Some.is)
    (ap (λ (named : Option (Keyword g.row.O.Denot)). misplaces_brace named c.args.line.braces) (sym c.in-Some.is)
    ∙ (sym c.misplaces_brace.ensures ∙ c.if-misplaces_brace.false))))
    c.said_with.ensures.reading
