use Rattle.std.proofs.Common.{◌≡◌, Some, ap₂, sym, ◌∙◌}
use Rattle.stim_lexer.specs.Lexing.{cut_in}
use Rattle.stim_parser.specs.Judging.{first_of}
use Rattle.stim_parser.specs.private.Questions.{refusals_of_arguments}
use Rattle.stim_parser.proofs.JudgeLemmas.{keyword-arguments}
use Rattle.stim_parser.proofs.judge.refusal_of.Goals as goal

pub returns-in-Err-clause-refusal : goal.returns-in-Err-clause-refusal
returns-in-Err-clause-refusal g c =
    let table = g.J.Judge.table in
    let cut = cut_in c.args.line in
    let refused : first_of (refusals_of_arguments table.causes (table.argument_form c.args.keyword) cut) ≡ Some c.in-Err.cause =
    sym (ap₂ (λ causes form. first_of (refusals_of_arguments causes form cut)) c.causes.ensures c.argument_form-asked.ensures) ∙ c.in-Err.ensures.refusal in
    sym (keyword-arguments table c.args.depth c.args.keyword cut c.in-Err.cause refused)
