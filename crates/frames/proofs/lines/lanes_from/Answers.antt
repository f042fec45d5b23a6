use Rattle.frames.proofs.LineLemmas.{lanes_cut}
use Rattle.frames.proofs.lines.lanes_from.Goals as goal

pub returns : goal.returns
returns c = λ j below. lanes_cut c.args.word c.args.first j below
