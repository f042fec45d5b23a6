use Rattle.std.proofs.Common.{◌++◌, length, ap, sym, ◌∙◌, append_assoc, arith}
use Rattle.error_models.specs.HeldText.{HoldsLines}
use Rattle.step_model.proofs.Pushing.{Pushes-trans}
use Rattle.backward.specs.private.TurnLines.{turns_text}
use Rattle.backward.proofs.HeldLines.{holds_none}
use Rattle.backward.proofs.StretchLemmas.{Pushes-as, Pushes-failed}
use Rattle.backward.proofs.TurnLineLemmas.{text_of_turns}
use Rattle.backward.proofs.turn_lines.push_turns.Goals as goal

pub returns-then-has_failed-clause-text : goal.returns-then-has_failed-clause-text
returns-then-has_failed-clause-text g c =
    let l = c.loop-left in
    Pushes-as c.args.sink.now l.sink c.args.out.now l.out _ _ l.invariant.whole
    (Pushes-trans l.invariant.pushed (Pushes-failed l.sink l.out (turns_text c.args.turn.now c.args.shift.now.staying c.args.shift.now.by l.left) (sym c.has_failed.ensures ∙ c.if-has_failed.true)))

pub loop-left-preserved : goal.loop-left-preserved
loop-left-preserved g c =
    let turn = c.args.turn.now in
    let l = c.loop-left in
    let given = c.give_turns.new.lines in
    let store = c.give_turns.ensures.program ∙ l.invariant.store in
    let next = c.saturating_sub-next.result in
    let text = text_of_turns turn c.args.shift.now.staying c.args.shift.now.by next l.left (HoldsLines l.lines.text) given.text c.in_ok-give_turns.ensures.turns (holds_none l.lines.text l.invariant.none) (c.take_text-text.ensures.detectors ∙ ap (λ p. length p.listing.detectors) (store ∙ c.requires.store)) in
    record {
      store = c.reuse.ensures.program ∙ (c.take_text-text.ensures.program ∙ store);
      none = ap (λ held. held.text) c.reuse.ensures.text ∙ c.take_text-text.ensures.none;
      below = omega (arith, l.invariant.below, c.saturating_sub-next.ensures);
      front = l.invariant.front ++ given.text.text;
      whole = append_assoc l.invariant.front given.text.text (turns_text turn c.args.shift.now.staying c.args.shift.now.by next) ∙ (ap (λ bytes. l.invariant.front ++ bytes) text ∙ l.invariant.whole);
      pushed = Pushes-as c.args.sink.now c.push_to.new.sink c.args.out.now c.push_to.new.out _ _ (ap (λ bytes. l.invariant.front ++ bytes) c.take_text-text.ensures.text) (Pushes-trans l.invariant.pushed c.push_to.ensures);
    }
