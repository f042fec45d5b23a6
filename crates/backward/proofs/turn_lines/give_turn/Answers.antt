use Rattle.std.proofs.Common.{◌≡◌, ℕ, rules, ◌==◌, false, ◌<◌, List, [], length, get_or, take, ap, subst, sym, ◌∙◌, arith}
use Rattle.std.specs.Prelude.{All}
use Rattle.std.proofs.lemmas.List.{get_or_default}
use Rattle.circuit_walk.specs.Programs.{KeptProgram}
use Rattle.step_model.specs.Chances.{chance_at}
use Rattle.step_model.specs.ErrorModels.{ErrorLine}
use Rattle.step_model.specs.Targets.{targets_of}
use Rattle.backward.specs.private.MovedTargets.{moved_list}
use Rattle.backward.specs.private.Stretches.{Gives, line_for}
use Rattle.backward.specs.private.TurnLines.{KeptLines, kept_lines, moved_error_lines}
use Rattle.backward.proofs.PassSteps.{gives_none}
use Rattle.backward.proofs.TurnLineLemmas.{gives_then, line_given, line_of_none, moved_more_lines, named_moved}
use Rattle.backward.proofs.turn_lines.give_turn.Given.{Over}
use Rattle.backward.proofs.turn_lines.give_turn.Goals as goal
use Rattle.backward.proofs.turn_lines.give_turn.Goals.{In_ok-move_list, then-not-is_empty+in_ok-give, else-not-is_empty}

-- the store's program, and a line's targets, moved
store_is : (g : Over) (c : In_ok-move_list g) → g.L.LineStore.program c.loop-i.lines ≡ c.turn.inside.program.now
store_is g c = c.loop-i.invariant.program ∙ (c.requires ∙ sym (ap (λ (k : KeptLines). k.program) c.turn.view_is))

moved_is : (g : Over) (c : In_ok-move_list g) → c.move_list.new.into.items ≡ moved_list c.args.staying c.args.by (get_or c.turn.inside.targets c.loop-i.i [])
moved_is g c = c.in_ok-move_list.ensures ∙ ap (moved_list c.args.staying c.args.by) c.get.ensures.value

pub give-requires-clause-named : goal.give-requires-clause-named
give-requires-clause-named g c =
    let turn = c.turn.inside in
    let w = (goal.at.give-requires-clause-named g c).In_ok-move_list in
    subst (λ (p : KeptProgram). All (λ t. t < length (targets_of p.listing)) c.as_slice.result.now) (sym (store_is g w))
    (named_moved turn.program.now turn.chances.items turn.targets c.args.staying c.args.by c.loop-i.i c.as_slice.result.now c.turn.invariant (omega arith) (c.as_slice.ensures.value ∙ moved_is g w))

-- what a turn of the loop gives
step : (g : Over) (c : goal.Joined-not-is_empty g)
    → Gives (g.L.LineStore.holds c.loop-i.lines) (g.L.LineStore.holds c.if-not-is_empty.lines)
    (line_for (chance_at c.turn.inside.program.now.chances (get_or c.turn.inside.chances.items c.loop-i.i 0)).text (moved_list c.args.staying c.args.by (get_or c.turn.inside.targets c.loop-i.i [])))
step g c =
    let turn = c.turn.inside in
    let at = (goal.at.loop-i-preserved g c).In_ok-move_list in
    let before : List ErrorLine → Type 0 = g.L.LineStore.holds c.loop-i.lines in
    let chance : ℕ = get_or turn.chances.items c.loop-i.i 0 in
    let moved : List ℕ = moved_list c.args.staying c.args.by (get_or turn.targets c.loop-i.i []) in
    let line : List ErrorLine = line_for (chance_at turn.program.now.chances chance).text moved in
    elim c.if-not-is_empty.branch [
      | then-not-is_empty+in_ok-give w ↦
          let some : (length w.as_slice.result.now == 0) ≡ false = search rules in
          let read = w.index.ensures ∙ get_or_default turn.chances.items c.loop-i.i w.index.result.now 0 (omega arith) in
          subst (λ s. Gives before (g.L.LineStore.holds s) line) (sym w.lines-is)
          (line_given before (g.L.LineStore.holds w.give.new.self) turn.program.now (g.L.LineStore.program c.loop-i.lines) chance w.index.result.now w.as_slice.result.now moved (store_is g at) read (w.as_slice.ensures.value ∙ moved_is g at) some w.in_ok-give.ensures.holds)
      | else-not-is_empty w ↦
          let gone : length c.move_list.new.into.items ≡ 0 = search rules in
          let none : length moved ≡ 0 = ap length (sym (moved_is g at)) ∙ gone in
          subst (λ s. Gives before (g.L.LineStore.holds s) line) (sym w.lines-is) (gives_none before line (line_of_none (chance_at turn.program.now.chances chance).text moved none))
    ]

kept_program : (g : Over) (c : goal.Joined-not-is_empty g) → g.L.LineStore.program c.if-not-is_empty.lines ≡ g.L.LineStore.program c.args.lines.now
kept_program g c = elim c.if-not-is_empty.branch [
  | then-not-is_empty+in_ok-give w ↦ ap g.L.LineStore.program w.lines-is ∙ (w.give.ensures.program ∙ c.loop-i.invariant.program)
  | else-not-is_empty w ↦ ap g.L.LineStore.program w.lines-is ∙ c.loop-i.invariant.program
]

pub loop-i-preserved : goal.loop-i-preserved
loop-i-preserved g c =
    let turn = c.turn.inside in
    let staying = c.args.staying in
    record {
      program = kept_program g c;
      gives =
          subst (Gives (g.L.LineStore.holds c.args.lines.now) (g.L.LineStore.holds c.if-not-is_empty.lines))
          (sym (moved_more_lines turn.program.now turn.chances.items turn.targets staying c.args.by c.loop-i.i c.turn.invariant (omega arith)))
          (gives_then (g.L.LineStore.holds c.args.lines.now) (g.L.LineStore.holds c.loop-i.lines) (g.L.LineStore.holds c.if-not-is_empty.lines)
          (moved_error_lines staying c.args.by (kept_lines turn.program.now (take c.loop-i.i turn.chances.items) (take c.loop-i.i turn.targets)))
          (line_for (chance_at turn.program.now.chances (get_or turn.chances.items c.loop-i.i 0)).text (moved_list staying c.args.by (get_or turn.targets c.loop-i.i []))) c.loop-i.invariant.gives (step g c));
    }
