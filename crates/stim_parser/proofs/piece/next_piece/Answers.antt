use Rattle.std.proofs.Common.{◌∙◌, ap, sym, length, arith, refl}
use Rattle.std.specs.Prelude.{max, unwrap_or}
use Rattle.std.proofs.lemmas.Bool.{eqb-true}
use Rattle.stim_lexer.proofs.ScanLemmas.{unwrap_or-position}
use Rattle.stim_parser.specs.Pieces.{ends_piece}
use Rattle.stim_parser.proofs.PieceLemmas.{pieces_of-cut, pieces_of-none, length-after_blanks, some_bytes}
use Rattle.stim_parser.proofs.piece.next_piece.Goals as goal

pub returns-then-is_empty-clause-pieces : goal.returns-then-is_empty-clause-pieces
returns-then-is_empty-clause-pieces c =
    pieces_of-none c.args.text.now c.after_blanks-text.result.now c.after_blanks-text.ensures (eqb-true _ _ (sym c.is_empty.ensures ∙ c.if-is_empty.true))

pub returns-clause-pieces : goal.returns-clause-pieces
returns-clause-pieces c =
    let left = c.after_blanks-text.result.now in
    pieces_of-cut c.args.text.now left _ _ c.max-end.result c.after_blanks-text.ensures (some_bytes left c.is_empty.result c.is_empty.ensures c.if-is_empty.false)
    (c.max-end.ensures
    ∙ ap (λ n. max n 1)
    (c.unwrap_or.ensures ∙ (ap (λ o. unwrap_or o (length left)) c.place_of_end.ensures ∙ unwrap_or-position ends_piece left (length left) refl)))
    c.split_at.ensures.front
    c.split_at.ensures.back

pub returns-clause-less : goal.returns-clause-less
returns-clause-less c =
    let left = c.after_blanks-text.result.now in
    omega (arith, c.split_at.ensures.back_len, c.max-end.ensures, ap length c.after_blanks-text.ensures, length-after_blanks c.args.text.now, some_bytes left c.is_empty.result c.is_empty.ensures c.if-is_empty.false)
