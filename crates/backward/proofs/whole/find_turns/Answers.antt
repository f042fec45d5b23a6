use Rattle.std.proofs.Common.{not, ap, subst, ◌∙◌, arith}
use Rattle.std.specs.Prelude.{reverse}
use Rattle.error_models.specs.HeldText.{HoldsLines}
use Rattle.backward.specs.private.Segments.{turns_end}
use Rattle.backward.specs.private.Stretches.{Gives, lines_between}
use Rattle.backward.proofs.HeldLines.{gives_on}
use Rattle.backward.proofs.SegmentLemmas.{end_of_none}
use Rattle.backward.proofs.whole.find_turns.Goals as goal

pub loop-at-preserved : goal.loop-at-preserved
loop-at-preserved g c =
    let program = c.args.program.now.listing in
    let l = c.loop-at in
    let e = c.in_ok-turns.ensures in
    let to = c.args.at.now.walk.place in
    let place = l.at.walk.place in
    let first = HoldsLines c.args.lines.now.text in
    let held = HoldsLines l.lines.text in
    let none = end_of_none place l.turns (c.is_none.ensures ∙ ap not c.loop-at-test.true) in
    let before : Gives first held (reverse (lines_between program place to)) = subst (λ k. Gives first held (reverse (lines_between program k to))) none l.invariant.lines in
    let on = e.below in
    let below = l.invariant.below in
    record {
      program_is = e.program ∙ l.invariant.program_is;
      store = e.store ∙ l.invariant.store;
      passed = e.passed;
      settled = e.settled ∙ l.invariant.settled;
      turns = e.turns;
      below = omega (arith, on, none, below);
      lines = gives_on program (turns_end c.find_some.new.at.walk.place c.in_ok-turns.turns) place to first held (HoldsLines c.find_some.new.lines.text) on (omega (arith, none, below)) before e.lines;
    }
