use Rattle.std.proofs.Common.{◌≡◌, ◌+◌, ◌-◌, ◌++◌, take, drop, ap, ap₂, ◌∙◌, arith}
use Rattle.error_models.proofs.ShortLineLemmas.{put_from}
use Rattle.error_models.proofs.detector_end.DetectorEnd.copy_before.Goals as goal

pub returns-clause-written : goal.returns-clause-written
returns-clause-written c =
    let buffer = c.args.buffer.now in
    let end = c.args.end in
    let held = c.args.self.now in
    let len = held.len in
    let bytes = c.copy_from_slice.new.self in
    let start : end - len ≡ end - 16 + (16 - len) = omega (arith, c.requires.room, held.written.within) in
    let whole : end - 16 + (end - (end - 16)) ≡ end = omega (arith, c.requires.room) in
    ap (λ n. drop n (take (end - 16) buffer ++ (bytes ++ drop (end - (end - 16)) (drop (end - 16) buffer)))) start
    ∙ (put_from (end - 16) (end - (end - 16)) (16 - len) buffer bytes (omega (arith, c.requires.room, c.requires.within)) (omega (arith, c.requires.room, c.copy_from_slice.ensures.len))
    ∙ ap₂ (λ l n. l ++ drop n buffer) (ap (drop (16 - len)) c.copy_from_slice.ensures.after ∙ held.written.text) whole)
