-- At the start nothing is counted, and behind all declarations all records that targets list.
use Rattle.std.proofs.Common.{◌≡◌, List, ℕ, length, get_or, ap, ◌∙◌, arith}
use Rattle.std.specs.Prelude.{replicate}
use Rattle.std.proofs.lemmas.List.{get_or-replicate, length-replicate}
use Rattle.record_targets.proofs.DeclarationLemmas.{times_named}
use Rattle.record_targets.proofs.counting.counts_of.Goals as goal

pub take_declarations-requires : goal.take_declarations-requires
take_declarations-requires g c =
    let n = c.record_count.result in
    let counts = c.in_ok-from_elem.field-0.items in
    let blank : counts ≡ replicate n 0 = c.in_ok-from_elem.ensures.items_if_clones_equal (λ y h. h) in
    let long : length counts ≡ n = ap length blank ∙ length-replicate {A = ℕ} n 0 in
    record {
      size = long ∙ c.record_count.ensures;
      counted = λ well r lt. ap (λ (l : List ℕ). get_or l r 0) blank ∙ get_or-replicate {A = ℕ} n r 0 0 (omega (arith, lt, long));
    }

pub returns-clause-counts : goal.returns-clause-counts
returns-clause-counts g c r lt =
    let taken = c.take_declarations.ensures in
    taken.2.counted c.if-failed.false r lt ∙ times_named r c.args.program.now.listing taken.0 taken.1
