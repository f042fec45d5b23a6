use Rattle.std.proofs.Common.{◌++◌, ◌-◌, take, drop, length, ap, subst, sym, ◌∙◌, length-drop, arith}
use Rattle.std.proofs.lemmas.List.{take_rest}
use Rattle.dem_text.specs.private.ErrorTexts.{IsApart}
use Rattle.dem_text.proofs.PartLemmas.{apart-first, part-whole}
use Rattle.dem_text.proofs.front.part_of.Goals as goal

pub returns : goal.returns
returns c =
    let text = c.args.text.now in
    let least = c.min-least.result in
    let front = take least text ++ c.cut_at_space.result.0.now in
    let whole = part-whole text _ c.cut_at_space.result.0.now c.cut_at_space.result.1.now least (take_rest text least) c.cut_at_space.ensures.before c.cut_at_space.ensures.after in
    record {
      text = whole ∙ ap (λ bs. bs ++ c.cut_at_space.result.1.now) (sym (c.up_to.ensures front whole));
      apart = subst IsApart (sym c.cut_at_space.ensures.after) (apart-first (take (length text - least) (drop least text)));
      less = omega (arith, c.requires, c.min-least.ensures, c.cut_at_space.ensures.len, length-drop least text);
    }
