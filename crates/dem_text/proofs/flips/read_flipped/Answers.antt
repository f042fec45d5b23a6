use Rattle.std.proofs.Common.{◌+◌, ◌<◌, List, ℕ, ap, map, subst, sym, ◌∙◌}
use Rattle.std.specs.Prelude.{All}
use Rattle.std.proofs.lemmas.List.Sorted.{All-permutation}
use Rattle.dem_text.specs.private.Numbered.{odd_below}
use Rattle.dem_text.specs.Shifts.{shifted_target}
use Rattle.dem_text.proofs.NumberLemmas.{all-numbers, same-odd}
use Rattle.dem_text.proofs.flips.read_flipped.Goals as goal

pub returns : goal.returns
returns g c =
    let detectors = c.args.counts.detectors in
    let observables = c.args.counts.observables in
    let targets = map (shifted_target c.args.shift) c.args.targets.now in
    let n : ℕ = detectors + observables in
    let read = c.read_numbers.new.numbers.items in
    let sorted = c.put_in_order.new.numbers.items in
    let below : All (λ m. m < n) c.as_slice.result.now =
    subst (λ (ns : List ℕ). All (λ m. m < n) ns) (sym c.as_slice.ensures.value)
    (All-permutation (λ m. m < n) read sorted c.in_ok-put_in_order.ensures.same
    (subst (λ (ns : List ℕ). All (λ m. m < n) ns) (sym c.in_ok-read_numbers.ensures)
    (all-numbers detectors observables targets c.requires.detectors c.requires.observables))) in
    c.in_ok-keep_odd.ensures n below
    ∙ ap (odd_below n) c.as_slice.ensures.value
    ∙ same-odd n read sorted c.in_ok-put_in_order.ensures.same
    ∙ ap (odd_below n) c.in_ok-read_numbers.ensures
