use Rattle.std.proofs.Common.{◌≡◌, ◌+◌, ◌-◌, ◌++◌, take, drop, ap, ap₂, ◌∙◌, arith}
use Rattle.error_models.proofs.ShortLineLemmas.{put_from}
use Rattle.error_models.proofs.names.Name.before.Goals as goal

pub returns-clause-written : goal.returns-clause-written
returns-clause-written c =
    let buffer = c.args.buffer.now in
    let end = c.args.end in
    let len = c.self.inside.len in
    let bytes = c.copy_from_slice.new.self in
    let start : end - len ≡ end - 8 + (8 - len) = omega (arith, c.requires.room, c.self.invariant) in
    let whole : end - 8 + (end - (end - 8)) ≡ end = omega (arith, c.requires.room) in
    ap (λ n. drop n (take (end - 8) buffer ++ (bytes ++ drop (end - (end - 8)) (drop (end - 8) buffer)))) start
    ∙ (put_from (end - 8) (end - (end - 8)) (8 - len) buffer bytes (omega (arith, c.requires.room, c.requires.within)) (omega (arith, c.requires.room, c.copy_from_slice.ensures.len))
    ∙ ap₂ (λ l n. l ++ drop n buffer) (ap (drop (8 - len)) c.copy_from_slice.ensures.after ∙ c.self.view_is) whole)
