use Rattle.std.proofs.Common.{List, length, ap, ◌∙◌, arith}
use Rattle.std.specs.Prelude.{slice_get}
use Rattle.dem_text.specs.Texts.{Item}
use Rattle.dem_text.specs.Verdicts.{Instruction}
use Rattle.dem_text.proofs.KeepingLemmas.{got-within, handed-is, kept-brief, kept-long}
use Rattle.dem_text.proofs.kept.Kept.line.Goals as goal

pub index-requires : goal.index-requires
index-requires g c =
    let items = c.self.inside.items.items in
    let within = got-within c.args.self.now c.args.place _ c.requires.1 in
    let long = kept-long items c.self.inside.briefs.items c.self.inside.stated c.self.invariant in
    omega (arith, within, long.0, ap length c.self.view_is)

pub get-requires-in-InstructionLine : goal.get-requires-in-InstructionLine
get-requires-in-InstructionLine g c =
    let items = c.self.inside.items.items in
    let within = got-within c.args.self.now c.args.place _ c.requires.1 in
    let long = kept-long items c.self.inside.briefs.items c.self.inside.stated c.self.invariant in
    omega (arith, within, long.1, ap length c.self.view_is)

pub returns : goal.returns
returns g c i got =
    let items = c.self.inside.items.items in
    let here = ap (λ (is : List Item). slice_get is c.args.place) c.self.view_is ∙ got in
    let same = handed-is items c.args.place i c.in-InstructionLine.instruction c.in-InstructionLine.ensures.item here in
    record {
      brief_is = kept-brief items c.self.inside.briefs.items c.self.inside.stated c.args.place i c.index.result.now c.index.result.now c.get-in-InstructionLine.result.now c.self.invariant here c.index.ensures c.get-in-InstructionLine.ensures.value;
      targets_are = ap (λ (j : Instruction). j.targets) same;
      arguments_are = ap (λ (j : Instruction). j.arguments) same;
    }
