use Rattle.std.proofs.Common.{◌≡◌, ◌+◌, ◌-◌, length, drop, ap, ◌∙◌, arith, append-nil, length-drop}
use Rattle.std.proofs.lemmas.List.{take_all, drop-drop}
use Rattle.error_models.specs.ModelText.{target_text}
use Rattle.error_models.proofs.NameLemmas.{length-target_text}
use Rattle.error_models.proofs.names.Name.new.Goals as goal

-- the text ends where the twelve bytes do
long : (c : goal.After-bytes-2-1) → 12 - c.target_before-start.result ≡ length (target_text c.args.detectors c.args.target)
long c =
    let start = c.target_before-start.result in
    let buffer = c.target_before-start.new.buffer in
    let text = target_text c.args.detectors c.args.target in
    omega (arith, ap length (c.target_before-start.ensures.written ∙ append-nil text), length-drop start buffer, c.target_before-start.auto.buffer)

pub invariant_of-result : goal.invariant_of-result
invariant_of-result c = omega (arith, long c, length-target_text c.args.detectors c.args.target c.requires.few_detectors c.requires.few)

pub returns : goal.returns
returns c =
    let start = c.target_before-start.result in
    let buffer = c.target_before-start.new.buffer in
    let text = target_text c.args.detectors c.args.target in
    let short = length-target_text c.args.detectors c.args.target c.requires.few_detectors c.requires.few in
    let place : 4 + (8 - (12 - start)) ≡ start = omega (arith, long c, short, c.target_before-start.ensures.within) in
    ap (drop (8 - (12 - start))) (c.copy_from_slice.ensures.after ∙ take_all 8 (drop 4 buffer) (omega (arith, length-drop 4 buffer, c.target_before-start.auto.buffer)))
    ∙ drop-drop (8 - (12 - start)) 4 buffer
    ∙ ap (λ n. drop n buffer) place
    ∙ c.target_before-start.ensures.written
    ∙ append-nil text
