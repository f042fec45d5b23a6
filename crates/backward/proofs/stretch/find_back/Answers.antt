use Rattle.std.proofs.Common.{◌<◌, ◌≤◌, refl, ◌∙◌, arith}
use Rattle.error_models.specs.HeldText.{HoldsLines}
use Rattle.backward.proofs.HeldLines.{gives_on, gives_same}
use Rattle.backward.proofs.StepLemmas.{stays_as, stays_on}
use Rattle.backward.proofs.stretch.find_back.Given.{Over}
use Rattle.backward.proofs.stretch.find_back.Goals as goal
use Rattle.backward.proofs.stretch.find_back.Goals.{In_ok-steps_back, then-place-ask, else-place-ask+then-goes_on}

pub loop-ask-init : goal.loop-ask-init
loop-ask-init g c =
    record {
      program_is = refl;
      store = refl;
      above = c.requires.from;
      asks = omega (arith, c.requires.from, c.place-to.ensures);
      below = omega arith;
      passed = c.requires.passed;
      stays = stays_as refl refl refl;
      lines = gives_same c.args.program.now.listing c.args.at.now.walk.place c.args.at.now.walk.place (HoldsLines c.args.lines.now.text) refl;
    }

-- the next place at which to ask is before this one, and not before the start
goes : (g : Over) (c : In_ok-steps_back g) → (c.if-place-ask.ask < c.loop-ask.at.walk.place) × (c.args.from ≤ c.if-place-ask.ask)
goes g c = elim c.if-place-ask.branch [
  | then-place-ask w ↦ (
    omega (arith, w.if-place-ask.true, c.place.ensures, w.ask-is),
    omega (arith, w.ask-is, c.loop-ask.invariant.asks),
  )
  | else-place-ask+then-goes_on w ↦
      let on = w.goes_on.ensures.on w.if-goes_on.true in (
        omega (arith, on.0, w.place-else-place-ask.ensures, w.ask-is),
        omega (arith, on.1, w.ask-is),
      )
]

pub steps_back-requires-clause-stands : goal.steps_back-requires-clause-stands
steps_back-requires-clause-stands g c =
    let i = c.loop-ask.invariant in
    record { program_is = i.program_is ∙ c.requires.program; store = i.store ∙ c.requires.store; passed = i.passed }

pub loop-ask-preserved : goal.loop-ask-preserved
loop-ask-preserved g c =
    let l = c.loop-ask in
    let e = c.in_ok-steps_back.ensures in
    let on = goes g (goal.at.loop-ask-preserved g c).In_ok-steps_back in
    let now = c.steps_back.new in
    record {
      program_is = e.program_is ∙ l.invariant.program_is;
      store = e.store ∙ l.invariant.store;
      above = omega (arith, e.above, on.1);
      asks = on.1;
      below = omega (arith, e.below, l.invariant.below);
      passed = e.passed;
      stays = stays_on c.args.found.now l.found now.found l.invariant.stays e.stays;
      lines = gives_on c.args.program.now.listing now.at.walk.place l.at.walk.place c.args.at.now.walk.place (HoldsLines c.args.lines.now.text) (HoldsLines l.lines.text) (HoldsLines now.lines.text) (omega (arith, e.below)) l.invariant.below l.invariant.lines e.lines;
    }
