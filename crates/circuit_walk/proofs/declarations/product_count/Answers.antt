-- Behind all targets all products are counted.
use Rattle.std.proofs.Common.{◌≡◌, ◌<◌, ◌≤◌, ◌⊎◌, inl, inr, ℕ, true, List, length, arith}
use Rattle.std.proofs.lemmas.Bool.{cases_lt}
use Rattle.stim_parser.specs.declared.target.Target.{Target}
use Rattle.stim_parser.specs.Limits.{are_products, products_of}
use Rattle.circuit_walk.specs.private.InstructionSteps.{product_words}
use Rattle.circuit_walk.proofs.ProductPlaces.{place_below, place_of, place_within}
use Rattle.circuit_walk.proofs.ProductWords.{words_number}
use Rattle.circuit_walk.proofs.declarations.product_count.Goals as goal

all_counted : (ts : List Target) (k at : ℕ) → are_products ts ≡ true → at ≡ place_of ts k → length ts ≤ at → k ≤ length (product_words ts) → k ≡ length (products_of ts)
all_counted ts k at form place end few = by_order (cases_lt k (length (product_words ts)))
  where
    by_order : (k < length (product_words ts)) ⊎ (length (product_words ts) ≤ k) → k ≡ length (products_of ts)
    by_order (inl lt) = absurd (omega (arith, place, end, place_below ts k form lt))
    by_order (inr le) = omega (arith, few, le, words_number ts)

pub loop-at-preserved : goal.loop-at-preserved
loop-at-preserved c =
    let ts = c.args.targets.now in
    let k = c.loop-at.count in
    let inside = place_within ts k (omega (arith, c.loop-at.invariant.place, c.loop-at-test.true)) in
    record {
      place = c.product_behind-at.ensures.place k c.loop-at.invariant.place;
      slow = omega (arith, c.loop-at.invariant.slow, c.product_behind-at.ensures.later);
      few = omega (arith, inside);
    }

pub returns : goal.returns
returns c = all_counted c.args.targets.now c.loop-at.count c.loop-at.at c.requires c.loop-at.invariant.place (omega (arith, c.loop-at-test.false)) c.loop-at.invariant.few
