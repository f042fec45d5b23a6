use Rattle.std.proofs.Common.{◌∙◌, refl, sym}
use Rattle.stim_lexer.proofs.LexingLemmas.{silent-is}
use Rattle.stim_lexer.proofs.lexer.cut_line.Goals as goal

pub returns-then-is_empty : goal.returns-then-is_empty
returns-then-is_empty c = silent-is c.args.line.now c.content_of-content.result.now c.is_empty.result c.content_of-content.ensures c.is_empty.ensures ∙ c.if-is_empty.true

pub returns-then-has_bad_byte : goal.returns-then-has_bad_byte
returns-then-has_bad_byte c = (
  silent-is c.args.line.now c.content_of-content.result.now c.is_empty.result c.content_of-content.ensures c.is_empty.ensures ∙ c.if-is_empty.false,
  sym c.has_bad_byte.ensures ∙ c.if-has_bad_byte.true,
  refl,
)

pub returns : goal.returns
returns c = (
  silent-is c.args.line.now c.content_of-content.result.now c.is_empty.result c.content_of-content.ensures c.is_empty.ensures ∙ c.if-is_empty.false,
  sym c.has_bad_byte.ensures ∙ c.if-has_bad_byte.false,
  c.line_of.ensures.number,
  c.line_of.ensures.cut,
)
