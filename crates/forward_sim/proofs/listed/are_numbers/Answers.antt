use Rattle.std.proofs.Common.{◌≡◌, ◌-◌, ◌^◌, true, false, rules, tests}
use Rattle.std.specs.Prelude.{is_some}
use Rattle.std.proofs.lemmas.Iterator.{cases_from_all}
use Rattle.std.proofs.lemmas.Iterator.Splits.{YieldsList-from_slice_split}
use Rattle.forward_sim.specs.private.Numbers.{is_comma, number_below}
use Rattle.forward_sim.proofs.ListedLemmas.{all_answered}
use Rattle.forward_sim.proofs.listed.are_numbers.Goals as goal

pub returns : goal.returns
returns c =
    all_answered _ _ _
    (cases_from_all _ _ _ (λ piece. is_some (number_below (2 ^ 64 - 1) piece) ≡ true) (λ piece. is_some (number_below (2 ^ 64 - 1) piece) ≡ false) c.all.ensures.ran
    (YieldsList-from_slice_split _ is_comma c.args.text.now (cc) (cc) (cc) (λ x b q k. search (rules, tests)))
    (λ x q k. search (rules, tests)) (λ x q k. search (rules, tests)))
