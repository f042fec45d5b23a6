use Rattle.std.proofs.Common.{◌+◌, ◌-◌, ◌≤◌, length, sym, arith}
use Rattle.std.proofs.lemmas.List.{length-drop, length-take-le}
use Rattle.forward_sim.proofs.HitLemmas.{fault_within}
use Rattle.forward_sim.proofs.word_draw.EachDrawWordDraw.part.Goals as goal

pub returns : goal.returns
returns c =
    let greatest = c.args.self.now.greatest.now in
    let start = c.args.start in
    let n = c.args.end - start in
    let fits : start + n ≤ length greatest = omega (arith, c.requires.order, c.requires.within.1, c.requires.within.2) in
    record {
      fits = sym (length-take-le n _ (omega (arith, length-drop start greatest, fits)));
      hits = λ k word h. fault_within greatest start n k word fits (omega arith);
    }
