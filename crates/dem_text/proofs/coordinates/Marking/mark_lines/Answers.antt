use Rattle.std.proofs.Common.{List, length, refl, subst}
use Rattle.stim_lexer.specs.Flat.{tree_of}
use Rattle.dem_text.specs.Models.{placed_lines}
use Rattle.dem_text.specs.Shifts.{Placed}
use Rattle.dem_text.specs.private.Marked.{IsMarking}
use Rattle.dem_text.proofs.MarkLemmas.{marking-next}
use Rattle.dem_text.proofs.NearLemmas.{near-next}
use Rattle.dem_text.proofs.OverKept.{near-given, passes, rest-done}
use Rattle.dem_text.proofs.coordinates.Marking.mark_lines.Goals as goal

pub mark-requires : goal.mark-requires
mark-requires g c =
    let p = passes _ _ _ _ _ _ c.loop-place.invariant.over c.in-Some.ensures.place c.in-Some.ensures.over c.line-line.ensures in
    record {
      small = p.line_is.brief_is.known.small;
      room = p.room;
      near = near-given _ _ _ p.line_is (near-next _ _ _ c.loop-place.invariant.near (p.first _ refl)).0;
    }

pub pass-requires : goal.pass-requires
pass-requires g c =
    let p = passes _ _ _ _ _ _ c.loop-place.invariant.over c.in-Some.ensures.place c.in-Some.ensures.over c.line-line.ensures in
    record { known = record { instruction = p.instruction; brief_is = p.line_is.brief_is }; room = p.room }

pub loop-place-preserved : goal.loop-place-preserved
loop-place-preserved g c =
    let p = passes _ _ _ _ _ _ c.loop-place.invariant.over c.in-Some.ensures.place c.in-Some.ensures.over c.line-line.ensures in
    let shifts = c.pass.ensures p.instruction p.line_is.brief_is in
    let first = p.first _ shifts in
    record {
      over = p.after _ shifts;
      marking = marking-next _ _ _ _ _ _ _ _ _ c.loop-place.invariant.marking first (c.in_ok-mark.ensures p.instruction p.line_is);
      near = (near-next _ _ _ c.loop-place.invariant.near first).1;
    }

pub returns : goal.returns
returns g c =
    subst (λ (rest : List Placed). IsMarking (placed_lines (tree_of c.args.kept.now)) rest c.loop-place.self.lists c.loop-place.self.marks.items (length c.args.self.now.marks.items))
    (rest-done c.args.kept.now c.loop-place.cursor c.loop-place.shift c.in_default.ensures.over.0) c.loop-place.invariant.marking
