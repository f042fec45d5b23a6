use Rattle.std.proofs.Common.{◌+◌, ◌-◌, ◌++◌, take, ap, ◌∙◌, arith}
use Rattle.fault_list.proofs.PutLemmas.{put_within}
use Rattle.fault_list.proofs.put.put_first.Goals as goal

pub returns-clause-written : goal.returns-clause-written
returns-clause-written g c =
    let buffer = c.args.buffer.now in
    let at = c.args.at in
    let len = c.args.len in
    let bytes = c.copy_from_slice.new.self in
    put_within at (at + g.row.N - at) len buffer bytes (omega (arith, c.requires.room)) (omega (arith, c.requires.within, c.copy_from_slice.ensures.len))
    ∙ ap (λ l. take at buffer ++ take len l) c.copy_from_slice.ensures.after
