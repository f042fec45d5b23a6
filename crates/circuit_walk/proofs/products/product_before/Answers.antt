use Rattle.std.proofs.Common.{◌≡◌, ◌-◌, true, false, get_or, add-one, sym, ap, ◌∙◌, arith}
use Rattle.stim_parser.specs.Products.{is_joining}
use Rattle.circuit_walk.proofs.ProductLoops.{before-first, before-last, before-step}
use Rattle.circuit_walk.proofs.ProductPlaces.{place_of}
use Rattle.circuit_walk.proofs.products.product_before.Goals as goal

pub loop-start-init : goal.loop-start-init
loop-start-init c =
    record {
      earlier = omega (arith, c.requires.inside);
      product = λ k l e. before-last c.args.targets.now k c.args.at c.requires.products l e;
    }

pub loop-start-preserved : goal.loop-start-preserved
loop-start-preserved c =
    let targets = c.args.targets.now in
    let target = c.index-targets-start.result in
    let star : is_joining (get_or targets (c.loop-start.start - 1) target) ≡ true = sym (ap is_joining c.index-targets-start.is) ∙ sym c.is_star.ensures ∙ c.if-is_star.true in
    record {
      earlier = omega (arith, c.loop-start.invariant.earlier);
      product = λ k l e. before-step targets k c.loop-start.start target c.requires.products c.loop-start-test.true star (c.loop-start.invariant.product k l e);
    }

pub returns-else-is_star-clause-place : goal.returns-else-is_star-clause-place
returns-else-is_star-clause-place c =
    let targets = c.args.targets.now in
    let target = c.index-targets-start.result in
    let other : is_joining (get_or targets (c.loop-start.start - 1) target) ≡ false = sym (ap is_joining c.index-targets-start.is) ∙ sym c.is_star.ensures ∙ c.if-is_star.false in
    λ k l e. before-first targets k c.loop-start.start target c.requires.products (λ later. other)
    (c.loop-start.invariant.product k l (e ∙ ap (place_of targets) (add-one k)))
