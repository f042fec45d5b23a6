use Rattle.std.proofs.Common.{◌≤◌, length, arith}
use Rattle.forward_sim.proofs.ListedWords.{list_cut}
use Rattle.forward_sim.proofs.replaced_word.word_listed.Goals as goal

pub returns : goal.returns
returns c =
    let long : 2 ≤ length c.args.list.now = omega (arith, c.if-list-lt2.false) in
    list_cut c.args.list.now c.min-count.result long c.min-count.ensures
