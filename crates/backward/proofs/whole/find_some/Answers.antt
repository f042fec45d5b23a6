use Rattle.std.proofs.Common.{subst, sym, ◌∙◌, arith}
use Rattle.std.specs.Prelude.{reverse}
use Rattle.error_models.specs.HeldText.{HoldsLines}
use Rattle.backward.specs.private.Stretches.{Gives, lines_between}
use Rattle.backward.proofs.HeldLines.{gives_on}
use Rattle.backward.proofs.SegmentLemmas.{end_of_none}
use Rattle.backward.proofs.whole.find_some.Goals as goal

pub returns-clause-lines : goal.returns-clause-lines
returns-clause-lines g c =
    let program = c.args.program.now.listing in
    let passed = c.pass_turns.new.at.walk.place in
    let e = c.in_ok-find_back.ensures in
    let none = end_of_none passed c.in_ok-turns.turns (sym c.is_some.ensures ∙ c.if-is_some.false) in
    let held : Gives (HoldsLines c.args.lines.now.text) (HoldsLines c.pass_turns.new.lines.text) (reverse (lines_between program passed c.args.at.now.walk.place)) =
    subst (λ k. Gives (HoldsLines c.args.lines.now.text) (HoldsLines c.pass_turns.new.lines.text) (reverse (lines_between program k c.args.at.now.walk.place))) none c.in_ok-turns.ensures.lines in
    let below = c.in_ok-turns.ensures.below in
    gives_on program c.find_back.new.at.walk.place passed c.args.at.now.walk.place (HoldsLines c.args.lines.now.text) (HoldsLines c.pass_turns.new.lines.text) (HoldsLines c.find_back.new.lines.text) (omega (arith, e.back)) (omega (arith, below)) held e.lines
