use Rattle.std.proofs.Common.{◌∙◌, List, ℕ, ap, length, subst, sym, take, arith}
use Rattle.dem_text.specs.private.Gathering.{IsWholeFront}
use Rattle.dem_text.specs.private.Making.{HasTaken}
use Rattle.dem_text.proofs.GatheringLemmas.{gathered-left, not-some}
use Rattle.dem_text.proofs.prediction.Gathering.take_lines.Goals as goal

pub returns-clause-gathered : goal.returns-clause-gathered
returns-clause-gathered g c named old new h =
    let self = c.args.self.now in
    let whole : ℕ = c.end_of_lines-whole.result in
    let same = c.as_slice-2.ensures.value in
    let long = ap (λ (bs : List ℕ). length bs) same in
    gathered-left named old new self _ c.in_ok-rest.rest.now whole c.in_ok-rest.ended h (not-some self.refused (sym c.is_some.ensures ∙ c.if-is_some.false)) (omega (arith, long, c.end_of_lines-whole.ensures.within))
    (subst (IsWholeFront whole) same c.end_of_lines-whole.ensures.whole)
    (subst (λ (bs : List ℕ). HasTaken (take whole bs) c.in_ok-rest.rest.now c.in_ok-rest.ended self.front c.take_lines.new.self) c.deref.ensures.value c.in_ok-rest.ensures)
    c.drop_front.ensures c.refusal_of-self.ensures
