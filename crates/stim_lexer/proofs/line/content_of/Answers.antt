use Rattle.std.proofs.Common.{ap, sym, ◌∙◌}
use Rattle.std.proofs.lemmas.Bool.{not-true}
use Rattle.std.specs.List.{before_first, list_any}
use Rattle.stim_lexer.specs.Bytes.{is_hash}
use Rattle.stim_lexer.proofs.Nowhere.{content_from, none_behind}
use Rattle.stim_lexer.proofs.SpecialLemmas.{no_hash}
use Rattle.stim_lexer.proofs.line.content_of.Goals as goal

pub before_byte-requires : goal.before_byte-requires
before_byte-requires c plain =
    ap (list_any is_hash) c.requires.start
    ∙ none_behind is_hash _ c.args.scanned.line.now (no_hash c.args.scanned.line.now (sym c.requires.special ∙ not-true c.args.scanned.special plain))

pub returns : goal.returns
returns c =
    c.before_byte.ensures ∙ (ap (before_first is_hash) c.requires.start ∙ content_from c.args.scanned.line.now)
