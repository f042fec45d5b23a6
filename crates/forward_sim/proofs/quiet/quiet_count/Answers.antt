-- One fault more happens nowhere; and those past the end of the list aren't there.
use Rattle.std.proofs.Common.{◌≡◌, ◌+◌, length, inl, inr, refl, sym, ap, subst, ◌∙◌, arith}
use Rattle.std.specs.Prelude.{IfSome, slice_get}
use Rattle.std.proofs.lemmas.Bool.{cases_lt}
use Rattle.std.proofs.lemmas.Option.{slice_get_past, slice_get_read}
use Rattle.forward_sim.proofs.quiet.quiet_count.Goals as goal

pub loop-passed-preserved : goal.loop-passed-preserved
loop-passed-preserved g c =
    let faults = c.args.faults.now in
    let passed = c.loop-passed.passed in
    let place = c.min-start.result + passed in
    let here = slice_get_read faults (length faults) place c.index-faults-start.result refl (omega arith) c.index-faults-start.is in
    record {
      few = omega arith;
      none = λ f low high. elim (cases_lt f (c.args.first + passed)) [
        | inl before ↦ c.loop-passed.invariant.none f low before
        | inr behind ↦
            let same : place ≡ f = omega arith in
            subst (λ o. IfSome o g.H.Happening.nowhere) (sym here ∙ ap (slice_get faults) same) (c.happens.ensures.no c.if-happens.false)
      ];
    }

pub returns-clause-none : goal.returns-clause-none
returns-clause-none g c f low high = elim (cases_lt f (c.args.first + c.loop-passed.passed)) [
  | inl before ↦ c.loop-passed.invariant.none f low before
  | inr behind ↦ subst (λ o. IfSome o g.H.Happening.nowhere) (sym (slice_get_past c.args.faults.now f (omega arith))) tt
]

-- The fault that it stops at happens in some run.
pub returns-then-happens-clause-next : goal.returns-then-happens-clause-next
returns-then-happens-clause-next g c low nowhere =
    let faults = c.args.faults.now in
    let place = c.min-start.result + c.loop-passed.passed in
    let here = slice_get_read faults (length faults) place c.index-faults-start.result refl (omega arith) c.index-faults-start.is in
    let same : c.args.first + c.loop-passed.passed ≡ place = omega arith in
    c.happens.ensures.yes c.if-happens.true (subst (λ o. IfSome o g.H.Happening.nowhere) (ap (slice_get faults) same ∙ here) nowhere)
