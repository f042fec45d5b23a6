use Rattle.std.proofs.Common.{◌≡◌, ◌∙◌, ◌<◌, ◌++◌, ℕ, Bool, false, List, ap, sym, drop, length, take, arith}
use Rattle.std.proofs.lemmas.List.{get_or-drop, length-drop}
use Rattle.dem_text.specs.private.Tables.{most_detectors}
use Rattle.dem_text.proofs.SymptomLemmas.{part-more}
use Rattle.dem_text.proofs.prediction.symptom_of.Goals as goal

pub loop-observable-preserved : goal.loop-observable-preserved
loop-observable-preserved g c =
    let bits : List Bool = c.args.bits.now in
    let o : ℕ = c.loop-observable.observable in
    let here : o < length (drop most_detectors bits) = omega (arith, length-drop most_detectors bits, c.requires.places, c.loop-observable-test.true, c.loop-observable.auto.observable-end) in
    part-more (take c.args.counts.detectors bits) (drop most_detectors bits) c.loop-observable.found.items c.push-in-loop-observable.new.self.items o c.get-in-loop-observable.result here c.loop-observable.invariant
    (c.get-in-loop-observable.ensures ∙ sym (get_or-drop most_detectors bits o false)) c.in_ok-push-2.ensures.items

pub returns : goal.returns
returns g c =
    let bits : List Bool = c.args.bits.now in
    let all : c.loop-observable.observable ≡ c.args.counts.observables = omega (arith, c.loop-observable-test.false, c.loop-observable.auto.observable-end) in
    c.loop-observable.invariant
    ∙ ap (λ (o : ℕ). take c.args.counts.detectors bits ++ take o (drop most_detectors bits)) all
