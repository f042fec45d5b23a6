use Rattle.std.proofs.Common.{◌≡◌, length, ap, arith}
use Rattle.std.specs.List.{flat_map, range_with_len}
use Rattle.error_models.specs.ModelText.{observable_text}
use Rattle.step_model.proofs.Items.{Pushes-number}
use Rattle.step_model.proofs.Pushing.{Pushes-nil, Pushes-trans}
use Rattle.backward.proofs.StretchLemmas.{Pushes-as}
use Rattle.backward.proofs.declarations.push_declarations.Goals as goal

pub loop-observable-init : goal.loop-observable-init
loop-observable-init g c = Pushes-nil

pub loop-observable-preserved : goal.loop-observable-preserved
loop-observable-preserved g c =
    Pushes-number observable_text c.loop-observable.observable c.loop-observable.invariant c.push_observable.ensures

pub returns : goal.returns
returns g c =
    let done : c.loop-observable.observable ≡ length c.args.program.now.listing.observables = omega (arith, c.loop-observable-test.false, c.loop-observable.auto.observable-end, c.observable_count-observable-end.ensures) in
    Pushes-trans c.push_detectors.ensures
    (Pushes-as c.push_detectors.new.sink c.loop-observable.sink c.push_detectors.new.out c.loop-observable.out _ _ (ap (λ n. flat_map observable_text (range_with_len 0 n)) done) c.loop-observable.invariant)
