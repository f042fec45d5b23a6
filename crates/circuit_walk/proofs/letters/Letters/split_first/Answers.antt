use Rattle.std.proofs.Common.{All, [], ◌∷◌, List, subst, sym, length, drop, ◌-◌}
use Rattle.std.proofs.lemmas.List.Elements.{All-drop, All-tail, All-take}
use Rattle.stim_parser.specs.declared.target.Target.{Target}
use Rattle.stim_parser.specs.declared.target.Target.TheVariants.{Star}
use Rattle.circuit_walk.specs.Letters.{behind_star}
use Rattle.circuit_walk.specs.Small.{HasSmallQubit}
use Rattle.circuit_walk.proofs.letters.Letters.split_first.Goals as goal

small-behind_star : (ts : List Target) → All HasSmallQubit ts → All HasSmallQubit (behind_star ts)
small-behind_star [] h = h
small-behind_star (Star ∷ ts) h = All-tail HasSmallQubit Star ts h
small-behind_star (t ∷ ts) h = h

pub returns-in-len1-up-clause-small : goal.returns-in-len1-up-clause-small
returns-in-len1-up-clause-small c =
    let targets = c.args.self.targets.now in
    subst (All HasSmallQubit) (sym c.behind_star.ensures)
    (small-behind_star _
    (All-take HasSmallQubit (length targets - 1) (drop 1 targets) (All-drop HasSmallQubit 1 targets c.requires)))
