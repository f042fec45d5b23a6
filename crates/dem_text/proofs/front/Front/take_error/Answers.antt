use Rattle.std.proofs.Common.{◌+◌, refl, ap, sym}
use Rattle.stim_lexer.specs.Cut.{cut_of}
use Rattle.dem_text.specs.declared.operation.Operation.TheVariants.{PauliError}
use Rattle.dem_text.specs.private.Lines.{instruction_cut}
use Rattle.dem_text.proofs.PassedLemmas.{folded-same, passed-instruction}
use Rattle.dem_text.proofs.front.Front.take_error.Goals as goal

pub returns : goal.returns
returns g c =
    let old = c.args.self.now in
    let begins = c.requires.begins in
    let e = c.in_ok-fold_error.ensures in
    passed-instruction old _ c.args.text.now begins.line c.args.after.now begins.first (ap (λ n. n + 1) e.read) e.unrolled c.requires.ready (instruction_cut (old.read + 1) PauliError (cut_of begins.line)) begins.error.speaks.speaks
    (λ opened same. sym (begins.error.taken (old.read + 1) opened)) (folded-same _ old c.fold_error.new.self _ (e.folded begins.line begins.first) refl refl)
