use Rattle.backward.proofs.TurnLineLemmas.{keeps_more}
use Rattle.backward.proofs.turn_lines.TurnLinesLineStore.give.Goals as goal

pub returns-clause-holds : goal.returns-clause-holds
returns-clause-holds g c =
    let s = c.self.inside in
    let kept = c.keep_line.ensures in
    keeps_more c.args.self.now s.program.now s.chances.items c.keep_line.new.chances.items s.targets c.keep_line.new.lists c.args.chance c.args.targets.now c.keep_line.result c.self.view_is c.self.invariant.counted kept.chance kept.targets
