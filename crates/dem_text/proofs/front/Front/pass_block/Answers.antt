use Rattle.std.proofs.Common.{◌+◌, [], ◌∷◌, ◌++◌, length, refl, ap, ◌∙◌, arith}
use Rattle.stim_lexer.specs.Texts.{Opens, items_from}
use Rattle.stim_lexer.specs.Unfinished.{Unfinished}
use Rattle.dem_text.specs.Texts.{models}
use Rattle.dem_text.specs.Verdicts.{Instruction}
use Rattle.dem_text.proofs.KeepingLemmas.{reading-fits}
use Rattle.dem_text.proofs.PassedLemmas.{kept-first, kept-less, opened-making, passed-from, passed-none}
use Rattle.dem_text.proofs.front.Front.pass_block.Goals as goal

pub take-requires-clause-fits : goal.take-requires-clause-fits
take-requires-clause-fits g c = (
  (reading-fits [] (c.args.self.now.read + 1) c.args.line.now (Opens c.args.iterations) c.requires.opened).0,
  omega (arith, ap (λ (u : Unfinished Instruction). length u.opened) c.new-keeping.ensures.text),
)

pub take_kept-requires-clause-kept : goal.take_kept-requires-clause-kept
take_kept-requires-clause-kept g c =
    let read = c.args.self.now.read in
    let begun = opened-making read c.args.iterations c.args.line.now c.new-keeping.result.builder.text c.take.new.self.builder.text c.requires.speaks c.requires.opened c.new-keeping.ensures.text c.in_ok-take.ensures.after in
    let found = rw c.in-Closed.is at c.in_ok-kept.ensures read (c.args.line.now ∷ []) begun (omega arith) in
    kept-first c.args.text.now c.args.line.now c.args.after.now c.in-Closed.rest.now read c.in-Closed.read c.in-Closed.kept c.requires.first found.0

pub returns-in-Closed : goal.returns-in-Closed
returns-in-Closed g c =
    let read = c.args.self.now.read in
    let begun = opened-making read c.args.iterations c.args.line.now c.new-keeping.result.builder.text c.take.new.self.builder.text c.requires.speaks c.requires.opened c.new-keeping.ensures.text c.in_ok-take.ensures.after in
    let found = rw c.in-Closed.is at c.in_ok-kept.ensures read (c.args.line.now ∷ []) begun (omega arith) in (
      passed-from c.args.self.now _ _ refl refl refl c.args.text.now c.in-Closed.rest.now c.take_kept.ensures,
      kept-less c.args.text.now c.args.line.now c.args.after.now c.in-Closed.rest.now read c.in-Closed.read c.in-Closed.kept c.requires.first found.0,
    )

pub returns-in-Open : goal.returns-in-Open
returns-in-Open g c =
    let read = c.args.self.now.read in
    let begun = opened-making read c.args.iterations c.args.line.now c.new-keeping.result.builder.text c.take.new.self.builder.text c.requires.speaks c.requires.opened c.new-keeping.ensures.text c.in_ok-take.ensures.after in
    let found = rw c.in-Open.is at c.in_ok-kept.ensures read (c.args.line.now ∷ []) begun (omega arith) in (
      passed-none c.args.self.now _ c.args.text.now refl refl refl c.requires.ready,
      ap (items_from models [] read) c.requires.first.lines ∙ found,
    )

pub returns-in-Refused : goal.returns-in-Refused
returns-in-Refused g c =
    let read = c.args.self.now.read in
    let begun = opened-making read c.args.iterations c.args.line.now c.new-keeping.result.builder.text c.take.new.self.builder.text c.requires.speaks c.requires.opened c.new-keeping.ensures.text c.in_ok-take.ensures.after in
    let found = rw c.in-Refused.is at c.in_ok-kept.ensures read (c.args.line.now ∷ []) begun (omega arith) in (
      passed-none c.args.self.now _ c.args.text.now refl refl refl c.requires.ready,
      λ more. ap (λ ls. items_from models [] read (ls ++ more)) c.requires.first.lines ∙ found more,
    )
