use Rattle.std.proofs.Common.{List, ℕ, Some, sym, ap, ◌∙◌, map, slice_get}
use Rattle.stim_parser.specs.Arguments.{trimmed}
use Rattle.stim_parser.proofs.ArgumentLemmas.{arguments_in-none, arguments_in-some}
use Rattle.stim_parser.proofs.arguments.first_argument.Goals as goal

pub returns-then-is_empty : goal.returns-then-is_empty
returns-then-is_empty c =
    sym (ap (λ (all : List (List ℕ)). slice_get all 0)
    (arguments_in-none c.args.text.now c.after_blanks.result.now c.is_empty.result c.after_blanks.ensures c.is_empty.ensures c.if-is_empty.true))

pub returns : goal.returns
returns c =
    ap (λ (argument : List ℕ). Some argument) c.trimmed.ensures
    ∙ sym (ap (λ (all : List (List ℕ)). slice_get all 0)
    (arguments_in-some c.args.text.now c.after_blanks.result.now c.is_empty.result c.after_blanks.ensures c.is_empty.ensures c.if-is_empty.false
    ∙ ap (map trimmed) c.cut_at_comma.ensures.parts))
