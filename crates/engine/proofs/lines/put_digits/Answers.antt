use Rattle.std.proofs.Common.{◌≡◌, ℕ, ◌++◌, ◌∷◌, [], false, length, map, take, length-set, refl, sym, ap, ap₂, ◌∙◌, arith}
use Rattle.std.proofs.lemmas.List.{map_more, take_all, take_more_set}
use Rattle.frames.specs.Lines.{digit_of}
use Rattle.engine.proofs.lines.put_digits.Goals as goal

pub loop-index-init : goal.loop-index-init
loop-index-init c = record { room = c.requires; digits = refl }

pub loop-index-preserved : goal.loop-index-preserved
loop-index-preserved c =
    let i = c.loop-index.index in
    let values = c.args.values.now in
    let line = c.loop-index.digits in
    record {
      room = length-set _ _ _ ∙ c.loop-index.invariant.room;
      digits = take_more_set line i c.digit.result (omega (arith, c.loop-index.invariant.room, c.loop-index-test.true))
          ∙ (ap₂ (λ front last. front ++ last ∷ []) c.loop-index.invariant.digits c.digit.ensures
          ∙ sym (map_more digit_of values i false c.loop-index-test.true));
    }

pub returns : goal.returns
returns c =
    let all : c.loop-index.index ≡ length c.args.values.now = omega arith in
    sym (take_all c.loop-index.index c.loop-index.digits (omega (arith, c.loop-index.invariant.room)))
    ∙ (c.loop-index.invariant.digits ∙ ap (map digit_of) (take_all c.loop-index.index c.args.values.now (omega (arith, all))))
