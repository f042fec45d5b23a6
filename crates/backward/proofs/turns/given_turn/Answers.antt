use Rattle.std.proofs.Common.{◌≡◌, ◌∙◌, ℕ, List, reverse, ap, subst, sym}
use Rattle.step_model.specs.ErrorModels.{ErrorLine}
use Rattle.backward.specs.private.Stretches.{Gives, lines_between}
use Rattle.backward.specs.private.TurnLines.{moved_error_lines}
use Rattle.backward.proofs.LinesTurned.{between_unmoved}
use Rattle.backward.proofs.TurnLineLemmas.{moved_error_lines-reverse}
use Rattle.backward.proofs.turns.given_turn.Goals as goal

-- moved by no detector they are given as they are
pub returns-clause-lines : goal.returns-clause-lines
returns-clause-lines g c =
    let program = c.args.program.now.listing in
    let turn = c.find_turn.new.lines in
    let staying : ℕ = 0 in
    let start = c.find_turn.new.at.walk.place in
    let to = c.args.at.now.walk.place in
    let lines : List ErrorLine = lines_between program start to in
    let unmoved : moved_error_lines staying 0 turn.lines ≡ reverse lines =
    ap (moved_error_lines staying 0) c.in_ok-find_turn.ensures.lines ∙ (sym (moved_error_lines-reverse staying 0 lines) ∙ ap (reverse {A = ErrorLine}) (between_unmoved program staying start to)) in
    subst (Gives (g.L.LineStore.holds c.args.lines.now) (g.L.LineStore.holds c.give_turn.new.lines)) unmoved c.in_ok-give_turn.ensures.holds
