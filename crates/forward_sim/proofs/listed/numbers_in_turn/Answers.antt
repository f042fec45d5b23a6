use Rattle.std.proofs.Common.{◌≡◌, ◌-◌, ◌^◌, ◌++◌, ℕ, List, Ok, Result, ap, subst, ◌∙◌, rules, tests}
use Rattle.std.specs.Prelude.{OnOk}
use Rattle.std.specs.List.{filter_map, slice_split}
use Rattle.std.proofs.lemmas.Iterator.Adapters.{items_from_extend}
use Rattle.std.proofs.lemmas.Iterator.Consumers.{YieldsList-at, YieldsList-from_filter_map}
use Rattle.std.proofs.lemmas.Iterator.Splits.{YieldsList-from_slice_split}
use Rattle.forward_sim.specs.private.Numbers.{is_comma, number_below}
use Rattle.forward_sim.proofs.listed.numbers_in_turn.Goals as goal

-- what holds of a call that went well
at_ok : {T E Q : Type 0} (r : Result T E) (value : T) → r ≡ Ok value → OnOk r Q → Q
at_ok {Q = Q} r value e h = subst (λ s. OnOk s Q) e h

pub returns : goal.returns
returns g c =
    let found =
    at_ok c.extend.result _ c.in_ok-extend.was
    (items_from_extend c.extend.result c.extend.ensures.ran
    (YieldsList-from_filter_map _ _
    (YieldsList-at c.filter_map.ensures.source (YieldsList-from_slice_split _ is_comma c.args.text.now (cc) (cc) (cc) (λ x b q k. search (rules, tests))))
    c.filter_map.ensures.closure (λ x r q k. search (rules, tests)))) in
    found.0
    ∙ ap (λ (s : List ℕ). s ++ filter_map (number_below (2 ^ 64 - 1)) (slice_split is_comma c.args.text.now)) c.in_ok-numbers.ensures.items
