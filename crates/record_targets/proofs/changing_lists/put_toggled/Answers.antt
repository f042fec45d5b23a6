use Rattle.std.proofs.Common.{◌<◌, ◌++◌, get_or, length, drop, ap, ap₂, subst, sym, ◌∙◌, arith}
use Rattle.std.specs.Prelude.{All}
use Rattle.std.proofs.lemmas.List.{take_rest}
use Rattle.step_model.specs.Targets.{is_listed}
use Rattle.record_targets.proofs.ApartLemmas.{below_pushed, below_rest, merged_rest, set_goes, target_goes}
use Rattle.record_targets.proofs.changing_lists.put_toggled.Goals as goal

pub loop-i-preserved-then-x-y : goal.loop-i-preserved-then-x-y
loop-i-preserved-then-x-y g c =
    let xs = c.args.set.now in
    let i = c.loop-i.i in
    let held = c.loop-i.invariant in
    let within : i < length xs = omega (arith, c.loop-i-test.true) in
    let pushed = c.in_ok-push.ensures.items in
    record {
      first = omega (arith, within);
      second = held.second;
      parity = λ t. set_goes c.loop-i.into.items c.push.new.self.items xs (drop c.loop-i.j c.args.targets.now) i t within pushed ∙ held.parity t;
      below = λ m of_targets of_set. below_pushed m (get_or xs i 0) c.loop-i.into.items c.push.new.self.items pushed (held.below m of_targets of_set) (of_set i 0 within);
    }

pub loop-i-preserved-then-y-x : goal.loop-i-preserved-then-y-x
loop-i-preserved-then-y-x g c =
    let targets = c.args.targets.now in
    let j = c.loop-i.j in
    let held = c.loop-i.invariant in
    let within : j < length targets = omega (arith, c.if-j-targets.true) in
    let pushed = c.in_ok-push-2.ensures.items in
    record {
      first = held.first;
      second = omega (arith, within);
      parity = λ t. target_goes c.loop-i.into.items c.push-then-y-x.new.self.items (drop c.loop-i.i c.args.set.now) targets j t within pushed ∙ held.parity t;
      below = λ m of_targets of_set. below_pushed m (get_or targets j 0) c.loop-i.into.items c.push-then-y-x.new.self.items pushed (held.below m of_targets of_set) (of_targets j 0 within);
    }

pub returns : goal.returns
returns g c =
    let xs = c.args.set.now in
    let targets = c.args.targets.now in
    let i = c.loop-i.i in
    let j = c.loop-i.j in
    let into = c.loop-i.into.items in
    let held = c.loop-i.invariant in
    let first = c.in_ok-append.ensures ∙ ap (λ rest. into ++ rest) (take_rest xs i) in
    let whole = c.in_ok-append-2.ensures ∙ ap₂ (λ a b. a ++ b) first (take_rest targets j) in
    record {
      parity = λ t. ap (λ l. is_listed l t) whole ∙ (merged_rest into (drop j targets) (drop i xs) t ∙ held.parity t);
      below = λ m of_targets of_set. subst (All (λ t. t < m)) (sym whole) (below_rest m i j into xs targets (held.below m of_targets of_set) of_set of_targets);
    }
