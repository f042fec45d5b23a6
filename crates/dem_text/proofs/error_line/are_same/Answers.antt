use Rattle.std.proofs.Common.{◌≡◌, ◌+◌, ◌-◌, ℕ, take, drop, length, ap, sym, ◌∙◌, arith}
use Rattle.std.proofs.lemmas.List.{take_rest}
use Rattle.dem_text.proofs.SameLemmas.{same-all, same-more}
use Rattle.dem_text.proofs.error_line.are_same.Goals as goal

pub loop-place-preserved : goal.loop-place-preserved
loop-place-preserved c =
    let place = c.loop-place.place in
    let text = c.args.text.now in
    let front = c.args.front.now in
    let long : (place + 8) - place ≡ 8 = omega arith in
    record {
      within = omega (arith, c.loop-place-test.true, c.loop-place.invariant.within);
      same =
          same-more place 8 text front c.loop-place.invariant.same
          (ap (λ (k : ℕ). take k (drop place text)) (sym long) ∙ c.are_alike.ensures c.if-not-are_alike.false ∙ ap (λ (k : ℕ). take k (drop place front)) long);
    }

pub returns : goal.returns
returns c same =
    let within = c.loop-place.invariant.within in
    same-all (length c.args.front.now - 8) c.loop-place.place c.args.text.now c.args.front.now (omega (arith, within, c.loop-place-test.false)) c.loop-place.invariant.same
    (sym (take_rest c.args.text.now (length c.args.front.now - 8)) ∙ c.are_alike-2.ensures same ∙ take_rest c.args.front.now (length c.args.front.now - 8))
