use Rattle.std.proofs.Common.{◌≤◌, [], length, refl, ap, subst, sym, ◌∙◌, arith}
use Rattle.backward.specs.private.Passes.{records_before}
use Rattle.backward.specs.private.Segments.{AreSegments, AreTurnsAt, turns_end}
use Rattle.backward.specs.private.Stretches.{text_between}
use Rattle.backward.proofs.HeldLines.{holds_none, stretch_text}
use Rattle.backward.proofs.whole.cut_whole.Goals as goal

pub leave_segments-requires-clause-passed : goal.leave_segments-requires-clause-passed
leave_segments-requires-clause-passed g c =
    let p = c.in_ok-turns.ensures.passed in
    record { within = p.within; words = p.words; lists = p.lists; judged = p.judged }

pub returns-clause-whole : goal.returns-clause-whole
returns-clause-whole g c =
    let program = c.args.program.now in
    let found = c.in_ok-turns.ensures in
    let left = c.in_ok-segments.ensures in
    let turns = c.in_ok-turns.turns in
    let to = c.args.at.now.walk.place in
    let cut = sym c.place-cut.ensures in
    let end = ap (λ k. turns_end k turns) cut in
    record {
      segments = subst (λ k. AreSegments program 0 k c.in_ok-segments.segments.items) cut left.segments;
      turns = subst (λ k. AreTurnsAt program k turns) cut found.turns;
      below = subst (λ k. k ≤ to) end found.below;
      text = c.take_text-end.ensures.text
          ∙ (stretch_text program.listing c.find_turns.new.lines.text (turns_end c.find_turns.new.at.walk.place turns) to (found.lines [] (holds_none c.args.lines.now.text c.requires.none)) (c.take_text-end.ensures.detectors ∙ ap (λ p. length p.listing.detectors) (c.find_turns.ensures.store ∙ c.requires.store))
          ∙ ap (λ k. text_between program.listing k to) end);
      enough = subst (λ k. records_before program.listing k ≤ c.leave_segments.new.found.known) cut (omega (arith, found.passed.lists.enough, left.stays.known refl));
    }
