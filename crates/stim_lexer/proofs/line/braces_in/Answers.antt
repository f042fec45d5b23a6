use Rattle.std.proofs.Common.{sym, ◌∙◌, refl, true, false}
use Rattle.std.specs.Prelude.{◌&&◌, drop}
use Rattle.std.specs.List.{list_all}
use Rattle.stim_lexer.specs.Bytes.{begins_with, is_blank, is_open_brace}
use Rattle.stim_lexer.proofs.LexingLemmas.{braces_in-from}
use Rattle.stim_lexer.proofs.line.braces_in.Goals as goal

pub returns-then-is_empty : goal.returns-then-is_empty
returns-then-is_empty c =
    let rest = c.from_brace-rest.result.now in
    sym (braces_in-from c.args.closes true (begins_with is_open_brace rest && list_all is_blank (drop 1 rest)) c.args.body.now rest c.if-closes.false c.from_brace-rest.ensures (sym c.if-is_empty.true ∙ c.is_empty.ensures) refl)

pub returns-then-is_opening : goal.returns-then-is_opening
returns-then-is_opening c =
    sym (braces_in-from c.args.closes false true c.args.body.now c.from_brace-rest.result.now c.if-closes.false c.from_brace-rest.ensures (sym c.if-is_empty.false ∙ c.is_empty.ensures) (sym c.if-is_opening.true ∙ c.is_opening.ensures))

pub returns-else-is_opening : goal.returns-else-is_opening
returns-else-is_opening c =
    sym (braces_in-from c.args.closes false false c.args.body.now c.from_brace-rest.result.now c.if-closes.false c.from_brace-rest.ensures (sym c.if-is_empty.false ∙ c.is_empty.ensures) (sym c.if-is_opening.false ∙ c.is_opening.ensures))
