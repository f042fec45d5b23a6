use Rattle.std.proofs.Common.{◌≡◌, [], ap, drop, ◌∙◌, sym, arith}
use Rattle.std.proofs.lemmas.List.{nil_from_length, take_rest}
use Rattle.stim_lexer.proofs.ScanLemmas.{first_line-cut}
use Rattle.stim_lexer.proofs.scan.first_line.Goals as goal

pub returns-in-empty : goal.returns-in-empty
returns-in-empty c =
    let rest = c.cut_at.result.1.now in
    let none : rest ≡ [] = nil_from_length rest (omega arith) in
    first_line-cut c.args.text.now c.cut_at.result.0.now rest rest c.requires c.cut_at.ensures.before c.cut_at.ensures.after (none ∙ sym (ap (drop 1) none)) c.cut_at.ensures.len

pub returns-in-len1-up : goal.returns-in-len1-up
returns-in-len1-up c =
    let rest = c.cut_at.result.1.now in
    first_line-cut c.args.text.now c.cut_at.result.0.now rest _ c.requires c.cut_at.ensures.before c.cut_at.ensures.after (take_rest rest 1) c.cut_at.ensures.len
