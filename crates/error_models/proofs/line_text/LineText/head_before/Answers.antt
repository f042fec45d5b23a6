use Rattle.std.proofs.Common.{◌≡◌, ◌≤◌, ◌+◌, ◌-◌, ◌++◌, length, take, drop, ap, ap₂, ◌∙◌, sym, arith}
use Rattle.std.specs.Prelude.{codes}
use Rattle.error_models.proofs.ShortLineLemmas.{put_from}
use Rattle.error_models.proofs.line_text.LineText.head_before.Goals as goal

pub returns-clause-written : goal.returns-clause-written
returns-clause-written c =
    let text = c.self.inside.text.now in
    let buffer = c.args.buffer.now in
    let end = c.args.end in
    let head = c.copy_from_slice.new.self in
    let seen : length c.args.self.now ≡ length text = ap length (sym c.self.view_is) in
    let short : length text ≤ 32 = omega (arith, c.requires.short, seen) in
    let start : end - (length text + 7) ≡ end - 40 + (33 - length text) = omega (arith, c.requires.room, short) in
    let whole : end - 40 + (end - (end - 40)) ≡ end = omega (arith, c.requires.room) in
    ap (λ n. drop n (take (end - 40) buffer ++ (head ++ drop (end - (end - 40)) (drop (end - 40) buffer)))) start
    ∙ (put_from (end - 40) (end - (end - 40)) (33 - length text) buffer head (omega (arith, c.requires.room, c.requires.within)) (omega (arith, c.requires.room, c.copy_from_slice.ensures.len))
    ∙ ap₂ (λ l n. l ++ drop n buffer)
    (ap (drop (33 - length text)) c.copy_from_slice.ensures.after ∙ (c.self.invariant short ∙ ap (λ t. codes "error(" ++ t ++ codes ")") c.self.view_is)) whole)
