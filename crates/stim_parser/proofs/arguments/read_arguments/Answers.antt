use Rattle.std.proofs.Common.{◌∙◌, ◌++◌, ℕ, List, Bor, Option, ap, sym, map}
use Rattle.std.proofs.lemmas.Bool.{eqb-true}
use Rattle.std.proofs.lemmas.List.{append-nil, length-map}
use Rattle.stim_parser.specs.Arguments.{arguments_in, parts_of, trimmed}
use Rattle.stim_parser.proofs.ArgumentLemmas.{arguments_in-none, arguments_in-some, one_more}
use Rattle.stim_parser.proofs.arguments.read_arguments.Goals as goal

abbrev texts : List (Bor (List ℕ)) → List (List ℕ)
texts found = map (λ argument. argument.now) found

pub returns-then-is_empty : goal.returns-then-is_empty
returns-then-is_empty c =
    ap texts c.new-found.ensures
    ∙ sym (arguments_in-none c.args.text.now c.after_blanks.result.now c.is_empty.result c.after_blanks.ensures c.is_empty.ensures c.if-is_empty.true)

pub returns-then-is_full : goal.returns-then-is_full
returns-then-is_full c =
    let found = c.loop-rest.found.items in
    one_more (texts found) c.in-Some.part.now (arguments_in c.args.text.now) _
    (length-map found (λ argument. argument.now) ∙ eqb-true _ _ (sym c.is_full.ensures.value ∙ c.if-is_full.true))
    (ap (λ (rest : Option (Bor (List ℕ))). texts found ++ map trimmed (parts_of rest)) (sym c.in-Some.is)
    ∙ (c.loop-rest.invariant
    ∙ sym (arguments_in-some c.args.text.now c.after_blanks.result.now c.is_empty.result c.after_blanks.ensures c.is_empty.ensures c.if-is_empty.false)))

pub returns : goal.returns
returns c =
    let found = c.loop-rest.found.items in
    sym (append-nil (texts found))
    ∙ (ap (λ (rest : Option (Bor (List ℕ))). texts found ++ map trimmed (parts_of rest)) (sym c.in_default.is)
    ∙ (c.loop-rest.invariant
    ∙ sym (arguments_in-some c.args.text.now c.after_blanks.result.now c.is_empty.result c.after_blanks.ensures c.is_empty.ensures c.if-is_empty.false)))
