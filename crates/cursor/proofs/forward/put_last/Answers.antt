use Rattle.std.proofs.Common.{◌-◌, length, set, length-set, ap, ◌∙◌, arith}
use Rattle.arrayvec.proofs.ArrayVecLemmas.{items-with_items}
use Rattle.cursor.proofs.CursorMoves.{other_last}
use Rattle.cursor.proofs.forward.put_last.Goals as goal

pub returns : goal.returns
returns c =
    let levels = c.args.levels.now.items in
    let shown = c.as_mut_slice.result.now in
    items-with_items c.args.levels.now (set shown (c.len-last.result - 1) c.args.level)
    (length-set shown (c.len-last.result - 1) c.args.level ∙ ap length c.as_mut_slice.ensures.value)
    ∙ rw (c.as_mut_slice.ensures.value, c.len-last.ensures.value)
    (other_last levels (length levels - 1) c.args.level (omega arith))
