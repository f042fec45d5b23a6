use Rattle.std.proofs.Common.{◌≡◌, ◌||◌, true, false, ap, sym, ◌∙◌}
use Rattle.std.specs.List.{list_any}
use Rattle.stim_lexer.specs.Bytes.{is_bad_byte}
use Rattle.stim_lexer.specs.Cut.{body_of, has_bad_byte, name_of}
use Rattle.stim_lexer.proofs.SpecialLemmas.{no_bad_byte}
use Rattle.stim_lexer.proofs.line.has_bad_byte.Goals as goal

pub returns-then-not-parts : goal.returns-then-not-parts
returns-then-not-parts c = sym (no_bad_byte c.args.line.now (sym c.requires.special ∙ c.if-not-parts.true))

pub returns-then-any_bad_byte : goal.returns-then-any_bad_byte
unfolding has_bad_byte
returns-then-any_bad_byte c =
    let line = c.args.line.now in
    let found : list_any is_bad_byte (name_of line) ≡ true = ap (list_any is_bad_byte) (sym c.requires.name) ∙ (sym c.any_bad_byte.ensures ∙ c.if-any_bad_byte.true) in
    c.if-any_bad_byte.true ∙ sym (ap (λ b. b || list_any is_bad_byte (body_of line)) found)

pub returns-else-any_bad_byte : goal.returns-else-any_bad_byte
unfolding has_bad_byte
returns-else-any_bad_byte c =
    let line = c.args.line.now in
    let none : list_any is_bad_byte (name_of line) ≡ false = ap (list_any is_bad_byte) (sym c.requires.name) ∙ (sym c.any_bad_byte.ensures ∙ c.if-any_bad_byte.false) in
    c.any_bad_byte-else-any_bad_byte.ensures
    ∙ (ap (list_any is_bad_byte) c.requires.body
    ∙ sym (ap (λ b. b || list_any is_bad_byte (body_of line)) none))
