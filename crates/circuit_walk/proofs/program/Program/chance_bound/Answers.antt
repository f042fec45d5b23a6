use Rattle.std.proofs.Common.{◌<◌, List, length, sym, ap, ◌∙◌, subst}
use Rattle.step_model.proofs.ChanceLaws.{chance_at-get_or}
use Rattle.step_model.specs.Chances.{Chance, chance_at}
use Rattle.step_model.specs.declared.chances.ChanceText.{ChanceText}
use Rattle.circuit_walk.specs.Programs.{KeptProgram}
use Rattle.circuit_walk.proofs.program.Program.chance_bound.Goals as goal

pub returns : goal.returns
returns g c =
    let texts = c.self.inside.parts.read.texts.items in
    let found = c.index.result.now in
    let same = ap (λ (p : KeptProgram). p.chances) c.self.view_is in
    let below : c.args.number < length texts = subst (λ (xs : List ChanceText). c.args.number < length xs) (sym same) c.requires in
    ap (λ (x : ChanceText). x.bound) c.index.ensures
    ∙ ap (λ (x : Chance). x.bound) (sym (chance_at-get_or texts c.args.number found below))
    ∙ ap (λ (xs : List ChanceText). (chance_at xs c.args.number).bound) same
