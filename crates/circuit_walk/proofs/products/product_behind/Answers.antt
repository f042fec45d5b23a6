use Rattle.std.proofs.Common.{◌≡◌, true, false, get_or, add-one, sym, ap, ◌∙◌, arith}
use Rattle.stim_parser.specs.declared.target.Target.TheVariants.{Star}
use Rattle.stim_parser.specs.Products.{is_joining}
use Rattle.circuit_walk.proofs.ProductLoops.{behind-first, behind-last, behind-step}
use Rattle.circuit_walk.proofs.ProductPlaces.{place_of, star_inside}
use Rattle.circuit_walk.proofs.products.product_behind.Goals as goal

pub loop-end-init : goal.loop-end-init
loop-end-init c =
    record {
      later = omega arith;
      within = omega (arith, c.requires.there);
      product = λ k e. behind-first c.args.targets.now k c.args.at c.requires.products c.requires.there e;
    }

pub loop-end-preserved : goal.loop-end-preserved
loop-end-preserved c =
    let targets = c.args.targets.now in
    let target = c.index-targets-end.result in
    let star : is_joining (get_or targets c.loop-end.end target) ≡ true = sym (ap is_joining c.index-targets-end.is) ∙ sym c.is_star.ensures ∙ c.if-is_star.true in
    record {
      later = omega (arith, c.loop-end.invariant.later);
      within = omega (arith, star_inside targets c.loop-end.end target c.requires.products c.loop-end-test.true star);
      product = λ k e. behind-step targets k c.loop-end.end target c.requires.products c.loop-end-test.true star (c.loop-end.invariant.product k e);
    }

pub returns-else-is_star-clause-place : goal.returns-else-is_star-clause-place
returns-else-is_star-clause-place c =
    let targets = c.args.targets.now in
    let target = c.index-targets-end.result in
    let other : is_joining (get_or targets c.loop-end.end target) ≡ false = sym (ap is_joining c.index-targets-end.is) ∙ sym c.is_star.ensures ∙ c.if-is_star.false in
    λ k e. behind-last targets k c.loop-end.end target c.requires.products (λ l. other) (c.loop-end.invariant.product k e) ∙ sym (ap (place_of targets) (add-one k))

-- the targets end with the product: no target is read, so any may stand for it
pub returns-after-loop-end-clause-place : goal.returns-after-loop-end-clause-place
returns-after-loop-end-clause-place c =
    let targets = c.args.targets.now in
    λ k e. behind-last targets k c.loop-end.end Star c.requires.products (λ l. absurd (omega (arith, l, c.loop-end-test.false))) (c.loop-end.invariant.product k e)
    ∙ sym (ap (place_of targets) (add-one k))
