use Rattle.std.proofs.Common.{◌≡◌, [], List, refl, ◌∙◌, arith}
use Rattle.step_model.specs.ErrorModels.{ErrorLine}
use Rattle.backward.proofs.HeldLines.{gives_on, gives_same}
use Rattle.backward.proofs.StepLemmas.{stays_as, stays_on}
use Rattle.backward.proofs.turns.find_turn.Goals as goal

pub loop-lines-init : goal.loop-lines-init
loop-lines-init g c =
    record {
      program_is = refl;
      above = c.requires.to;
      below = omega arith;
      passed = c.requires.passed;
      stays = stays_as refl refl refl;
      lines = gives_same c.args.program.now.listing c.args.at.now.walk.place c.args.at.now.walk.place (λ (given : List ErrorLine). c.args.lines.now.lines ≡ given) refl;
      store = refl;
    }

pub steps_back-requires-clause-stands : goal.steps_back-requires-clause-stands
steps_back-requires-clause-stands g c =
    let i = c.loop-lines.invariant in
    record { program_is = i.program_is ∙ c.requires.program; store = i.store ∙ c.requires.store; passed = i.passed }

pub loop-lines-preserved : goal.loop-lines-preserved
loop-lines-preserved g c =
    let l = c.loop-lines in
    let i = l.invariant in
    let e = c.in_ok-steps_back.ensures in
    record {
      program_is = e.program_is ∙ i.program_is;
      above = omega (arith, e.above, c.max-next.ensures);
      below = omega (arith, e.below, i.below);
      passed = e.passed;
      stays = stays_on c.args.found.now l.found c.steps_back.new.found i.stays e.stays;
      lines =
          gives_on c.args.program.now.listing c.steps_back.new.at.walk.place l.at.walk.place c.args.at.now.walk.place (λ (given : List ErrorLine). c.args.lines.now.lines ≡ given) (λ (given : List ErrorLine). l.lines.lines ≡ given) (λ (given : List ErrorLine). c.steps_back.new.lines.lines ≡ given) (omega (arith, e.below)) i.below i.lines e.lines;
      store = e.store ∙ i.store;
    }

pub returns-else-has_room-clause-lines : goal.returns-else-has_room-clause-lines
returns-else-has_room-clause-lines g c = c.loop-lines.invariant.lines [] c.requires.none

pub returns-after-loop-lines-clause-lines : goal.returns-after-loop-lines-clause-lines
returns-after-loop-lines-clause-lines g c = c.loop-lines.invariant.lines [] c.requires.none
