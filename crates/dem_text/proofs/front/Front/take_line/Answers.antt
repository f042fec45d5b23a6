use Rattle.std.proofs.Common.{◌+◌, [], refl, ap}
use Rattle.stim_lexer.specs.Texts.{Accepts}
use Rattle.dem_text.specs.private.Lines.{instruction_read}
use Rattle.dem_text.proofs.KeepingLemmas.{reading-fits}
use Rattle.dem_text.proofs.PassedLemmas.{folded-same, passed-instruction}
use Rattle.dem_text.proofs.front.Front.take_line.Goals as goal

pub fold_line-requires-clause-fits : goal.fold_line-requires-clause-fits
fold_line-requires-clause-fits g c =
    reading-fits [] (c.args.self.now.read + 1) c.args.line.now (Accepts (instruction_read (c.args.self.now.read + 1) c.args.operation c.args.arguments.now c.args.self.now.targets.items)) c.requires.accepted

pub returns : goal.returns
returns g c =
    let old = c.args.self.now in
    let i = instruction_read (old.read + 1) c.args.operation c.args.arguments.now old.targets.items in
    passed-instruction old _ c.args.text.now c.args.line.now c.args.after.now c.requires.first (ap (λ n. n + 1) c.fold_line.ensures.read) c.fold_line.ensures.unrolled c.requires.ready i c.requires.speaks c.requires.accepted
    (folded-same _ old c.fold_line.new.self _ c.fold_line.ensures.folded refl refl)
