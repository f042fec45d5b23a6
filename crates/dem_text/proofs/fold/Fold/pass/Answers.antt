use Rattle.std.proofs.Common.{ap, ◌∙◌, refl, sym, arith, length-drop, take_all}
use Rattle.dem_text.specs.private.Folds.{stand_after}
use Rattle.dem_text.proofs.FoldLemmas.{asked, followed}
use Rattle.dem_text.proofs.fold.Fold.pass.Goals as goal

pub returns-then-not-is_asked-clause-follows : goal.returns-then-not-is_asked-clause-follows
returns-then-not-is_asked-clause-follows g c named f i h known =
    let old = c.args.self.now in
    let stands = c.pass.ensures.after i known in
    let is = asked named f old i h c.pass.new.self c.args.line.now.operation c.is_asked.result (stands ∙ ap (stand_after i) h.standing_is) known.operation_is c.is_asked.ensures in
    let no = sym c.if-not-is_asked.true ∙ is in (
      no,
      followed named f old i h _ _ no stands refl refl,
    )

pub returns-clause-follows : goal.returns-clause-follows
returns-clause-follows g c named f i h known =
    let old = c.args.self.now in
    let stands = c.pass.ensures.after i known in
    let is = asked named f old i h c.pass.new.self c.args.line.now.operation c.is_asked.result (stands ∙ ap (stand_after i) h.standing_is) known.operation_is c.is_asked.ensures in
    let yes = sym c.if-not-is_asked.false ∙ is in (
      yes,
      followed named f old i h _ _ yes stands refl (take_all _ _ (let long = length-drop 1 old.later.now in omega (arith, long))),
    )
