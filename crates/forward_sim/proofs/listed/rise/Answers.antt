use Rattle.std.proofs.Common.{◌≡◌, nat_lt, rules, tests}
use Rattle.std.proofs.lemmas.Fn.{always_returns_same}
use Rattle.forward_sim.proofs.ListedLemmas.{rise_answered}
use Rattle.forward_sim.proofs.listed.rise.Goals as goal

pub returns : goal.returns
returns c =
    rise_answered c.args.numbers.now c.is_sorted_by.result
    (c.is_sorted_by.ensures.cases nat_lt (always_returns_same _ (λ a r. r ≡ nat_lt a.0.now a.1.0.now) _ (λ a r q k. search (rules, tests))))
