-- Line by line.
use Rattle.std.proofs.Common.{◌≡◌, ◌+◌, refl, sym, ap, ◌∙◌, arith}
use Rattle.step_model.proofs.Items.{Pushes-number}
use Rattle.step_model.proofs.Pushing.{Pushes-nil}
use Rattle.frames.specs.Lines.{line_of}
use Rattle.frames.specs.private.LaneLines.{lane_line}
use Rattle.frames.proofs.LineLemmas.{held_lane, held_on, last_below}
use Rattle.frames.proofs.lines.push_each.Goals as goal

pub loop-shot-init : goal.loop-shot-init
loop-shot-init g c =
    record {
      lines = Pushes-nil;
      octets = c.requires.octets;
      line = c.requires.line;
      held = λ ne. absurd (ne refl);
    }

pub hold_lanes-requires : goal.hold_lanes-requires
hold_lanes-requires g c =
    record {
      size = c.loop-shot.invariant.octets;
      shot = omega (arith, c.requires.count);
      held = c.loop-shot.invariant.held;
    }

pub fill_line-requires : goal.fill_line-requires
fill_line-requires g c =
    record {
      room = c.loop-shot.invariant.line ∙ ap (λ n. n + 1) (sym c.hold_lanes.ensures.size);
      shot = last_below c.loop-shot.shot;
    }

pub loop-shot-preserved : goal.loop-shot-preserved
loop-shot-preserved g c =
    let shot = c.loop-shot.shot in
    let words = c.args.words.now in
    let line = c.fill_line.ensures ∙ ap line_of (held_lane shot words c.hold_lanes.new.octets c.hold_lanes.ensures) in
    record {
      lines = Pushes-number (lane_line words) shot c.loop-shot.invariant.lines (rw line at c.push.ensures);
      octets = c.hold_lanes.ensures.size;
      line = c.fill_line.auto.line ∙ c.loop-shot.invariant.line;
      held = held_on shot words c.hold_lanes.new.octets c.hold_lanes.ensures;
    }

pub returns : goal.returns
returns g c =
    let all : c.loop-shot.shot ≡ c.args.count = omega arith in
    rw (← all) c.loop-shot.invariant.lines
