use Rattle.std.proofs.Common.{◌≡◌, Bool, ◌||◌, sym, ◌∙◌, ap}
use Rattle.std.proofs.lemmas.Bool.{not-true}
use Rattle.std.specs.List.{before_first, list_any}
use Rattle.stim_lexer.specs.Bytes.{is_brace, is_open_brace, is_open_parenthesis, is_close_parenthesis}
use Rattle.stim_lexer.specs.Cut.{leaves_open, leaves_tag_open, braces_in}
use Rattle.stim_lexer.proofs.LexingLemmas.{cut_of-is}
use Rattle.stim_lexer.proofs.Nowhere.{brace_nowhere, none_after_brackets, open_nowhere}
use Rattle.stim_lexer.proofs.SpecialLemmas.{no_brace_in_body}
use Rattle.stim_lexer.proofs.line.line_of.Goals as goal
use Rattle.stim_lexer.proofs.line.line_of.Goals.{then-parts, else-parts}

pub returns-clause-cut : goal.returns-clause-cut
returns-clause-cut c =
    let parts = c.args.parts in
    let parentheses = c.cut_brackets-parentheses in
    let open_parentheses = leaves_open is_open_parenthesis is_close_parenthesis parts.body.now in
    let tag : (b : Bool) → parts.leaves_tag_open ≡ b → (leaves_tag_open c.args.line.now || open_parentheses) ≡ (b || open_parentheses) =
    λ b e. ap (λ t. t || open_parentheses) (sym c.requires.stays_open ∙ e) in
    let stays_open : c.if-parts.result ≡ (leaves_tag_open c.args.line.now || open_parentheses) =
    elim c.if-parts.branch [
      | then-parts w ↦ w.result-is ∙ (w.if-parts.true ∙ sym (tag _ w.if-parts.true))
      | else-parts w ↦ w.result-is ∙ (parentheses.ensures.stays_open ∙ sym (tag _ w.if-parts.false))
    ] in
    cut_of-is c.args.line.now parts.name.now parts.body.now _ _ _ _ c.requires.name c.requires.body stays_open
    parentheses.ensures.inside
    (c.before_byte.ensures ∙ ap (before_first is_open_brace) parentheses.ensures.after)
    (c.braces_in-braces.ensures ∙ ap (λ b. braces_in b parts.body.now) c.requires.closes)

pub before_byte-requires : goal.before_byte-requires
before_byte-requires c braceless =
    let body = c.args.parts.body.now in
    ap (list_any is_open_brace) c.cut_brackets-parentheses.ensures.after
    ∙ none_after_brackets is_open_brace is_open_parenthesis is_close_parenthesis body
    (open_nowhere body (brace_nowhere c.args.closes body (sym c.braces_in-braces.ensures ∙ c.has_no_brace.ensures braceless)))

pub braces_in-braces-requires : goal.braces_in-braces-requires
braces_in-braces-requires c plain =
    ap (list_any is_brace) c.requires.body
    ∙ no_brace_in_body c.args.line.now (sym c.requires.special ∙ not-true c.args.parts.special plain)
