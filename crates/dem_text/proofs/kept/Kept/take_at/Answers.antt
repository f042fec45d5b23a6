use Rattle.std.proofs.Common.{true, false, List, length, ap, refl, sym, ◌∙◌, arith}
use Rattle.std.specs.Prelude.{slice_get}
use Rattle.dem_text.specs.Texts.{Item}
use Rattle.dem_text.proofs.FoldLemmas.{taken}
use Rattle.dem_text.proofs.KeepingLemmas.{got-within, kept-brief, kept-long}
use Rattle.dem_text.proofs.kept.Kept.take_at.Goals as goal

pub index-requires : goal.index-requires
index-requires g c =
    let items = c.self.inside.items.items in
    let within = got-within c.args.self.now c.args.place _ c.requires.some.1 in
    let long = kept-long items c.self.inside.briefs.items c.self.inside.stated c.self.invariant in
    omega (arith, within, long.0, ap length c.self.view_is)

pub get-requires : goal.get-requires
get-requires g c =
    let items = c.self.inside.items.items in
    let within = got-within c.args.self.now c.args.place _ c.requires.some.1 in
    let long = kept-long items c.self.inside.briefs.items c.self.inside.stated c.self.invariant in
    omega (arith, within, long.1, ap length c.self.view_is)

pub pass-requires-clause-known : goal.pass-requires-clause-known
pass-requires-clause-known g c =
    let got = ap (λ (is : List Item). slice_get is c.args.place) c.self.view_is ∙ c.requires.some.1 in
    record {
      instruction = c.requires.some.0;
      brief_is = kept-brief c.self.inside.items.items c.self.inside.briefs.items c.self.inside.stated c.args.place c.requires.some.0 c.index.result.now c.index.result.now c.get.result.now c.self.invariant got c.index.ensures c.get.ensures.value;
    }

pub returns-then-pass-clause-follows : goal.returns-then-pass-clause-follows
returns-then-pass-clause-follows g c named f i h here =
    let line = c.line.ensures i here in
    let got = ap (λ (is : List Item). slice_get is c.args.place) c.self.view_is ∙ here in
    let passed = c.pass.ensures.follows named f i h
    (kept-brief c.self.inside.items.items c.self.inside.briefs.items c.self.inside.stated c.args.place i c.index.result.now c.index.result.now c.get.result.now c.self.invariant got c.index.ensures c.get.ensures.value) in
    taken named f c.args.fold.now i h c.pass.new.self c.turn.new.self true c.line.result.targets.now (sym c.if-pass.true ∙ passed.0) passed.1 line.targets_are c.turn.ensures.standing c.turn.ensures.later c.turn.ensures.bits

pub returns-else-pass-clause-follows : goal.returns-else-pass-clause-follows
returns-else-pass-clause-follows g c named f i h here =
    let got = ap (λ (is : List Item). slice_get is c.args.place) c.self.view_is ∙ here in
    let passed = c.pass.ensures.follows named f i h
    (kept-brief c.self.inside.items.items c.self.inside.briefs.items c.self.inside.stated c.args.place i c.index.result.now c.index.result.now c.get.result.now c.self.invariant got c.index.ensures c.get.ensures.value) in
    taken named f c.args.fold.now i h c.pass.new.self c.pass.new.self false i.targets (sym c.if-pass.false ∙ passed.0) passed.1 refl refl refl refl
