use Rattle.std.proofs.Common.{◌≡◌, ◌==◌, [], ap, not, sym, ◌∙◌, drop, arith}
use Rattle.std.proofs.lemmas.List.{nil_from_length, take_rest}
use Rattle.stim_lexer.specs.Bytes.{is_empty}
use Rattle.stim_lexer.proofs.ScanLemmas.{drop-from_first, list_any-from_first, is_empty-length}
use Rattle.stim_lexer.proofs.scan.cut_round.Goals as goal

pub returns-in-empty-clause-found : goal.returns-in-empty-clause-found
returns-in-empty-clause-found c =
    let rest = c.cut_near.result.1.now in
    let none : rest ≡ [] = nil_from_length rest (omega arith) in
    sym (list_any-from_first (λ b. b == c.args.byte) c.args.text.now
    ∙ ap (λ xs. not (is_empty xs)) (sym c.cut_near.ensures.after ∙ none))

pub returns-in-len1-up-clause-after : goal.returns-in-len1-up-clause-after
returns-in-len1-up-clause-after c =
    take_rest c.cut_near.result.1.now 1
    ∙ (ap (drop 1) c.cut_near.ensures.after ∙ drop-from_first (λ b. b == c.args.byte) c.args.text.now)

pub returns-in-len1-up-clause-found : goal.returns-in-len1-up-clause-found
returns-in-len1-up-clause-found c =
    let rest = c.cut_near.result.1.now in
    sym (list_any-from_first (λ b. b == c.args.byte) c.args.text.now
    ∙ (ap (λ xs. not (is_empty xs)) (sym c.cut_near.ensures.after) ∙ ap not (is_empty-length rest (omega arith))))
