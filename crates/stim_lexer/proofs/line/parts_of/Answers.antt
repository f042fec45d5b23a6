use Rattle.std.proofs.Common.{◌≡◌, ℕ, Bool, true, false, not, List, ap, sym, ◌∙◌}
use Rattle.std.proofs.lemmas.Bool.{not-true}
use Rattle.std.specs.List.{before_first, list_any}
use Rattle.stim_lexer.specs.Bytes.{after_blanks, ends_name, from_first, is_hash, is_open_bracket, is_close_bracket}
use Rattle.stim_lexer.specs.Cut.{after_brackets, after_name}
use Rattle.stim_lexer.specs.private.Special.{is_special}
use Rattle.stim_lexer.proofs.Nowhere.{content_from, none_after_brackets, none_after_name, none_behind}
use Rattle.stim_lexer.proofs.SpecialLemmas.{no_hash}
use Rattle.stim_lexer.proofs.line.parts_of.Goals as goal

-- what follows a name and a tag, from what is cut before each
behind : (line start rest after : List ℕ) → after ≡ after_brackets is_open_bracket is_close_bracket rest → rest ≡ from_first ends_name start → start ≡ after_blanks line → after ≡ after_brackets is_open_bracket is_close_bracket (after_name line)
behind line start rest after a r s = a ∙ ap (after_brackets is_open_bracket is_close_bracket) (r ∙ ap (from_first ends_name) s)

no_hash_behind : (line after : List ℕ) (special : Bool) → special ≡ list_any is_special line → after ≡ after_brackets is_open_bracket is_close_bracket (after_name line) → not special ≡ true → list_any is_hash after ≡ false
no_hash_behind line after special told after_is plain =
    ap (list_any is_hash) after_is
    ∙ none_after_brackets is_hash is_open_bracket is_close_bracket (after_name line) (none_after_name is_hash line (no_hash line (sym told ∙ not-true special plain)))

pub returns-clause-body : goal.returns-clause-body
returns-clause-body c =
    c.before_byte.ensures ∙ ap (before_first is_hash) (behind c.args.scanned.line.now _ _ _ c.cut_brackets-tag.ensures.after c.cut_name.ensures.after c.requires.start)

pub returns-clause-start : goal.returns-clause-start
returns-clause-start c =
    c.before_byte-2.ensures
    ∙ (ap (before_first is_hash) c.cut_brackets-tag.ensures.start
    ∙ (content_from c.cut_brackets-tag.result.after.now
    ∙ ap (λ t. after_blanks (before_first is_hash t)) (behind c.args.scanned.line.now _ _ _ c.cut_brackets-tag.ensures.after c.cut_name.ensures.after c.requires.start)))

pub before_byte-requires : goal.before_byte-requires
before_byte-requires c =
    no_hash_behind c.args.scanned.line.now c.cut_brackets-tag.result.after.now c.args.scanned.special c.requires.special
    (behind c.args.scanned.line.now _ _ _ c.cut_brackets-tag.ensures.after c.cut_name.ensures.after c.requires.start)

pub before_byte-requires-2 : goal.before_byte-requires-2
before_byte-requires-2 c = λ plain.
    ap (list_any is_hash) c.cut_brackets-tag.ensures.start
    ∙ none_behind is_hash _ c.cut_brackets-tag.result.after.now
    (no_hash_behind c.args.scanned.line.now c.cut_brackets-tag.result.after.now c.args.scanned.special c.requires.special
    (behind c.args.scanned.line.now _ _ _ c.cut_brackets-tag.ensures.after c.cut_name.ensures.after c.requires.start) plain)
