-- Whatever the coins are, frames alone say which targets differ.
use Rattle.std.proofs.Common.{Bool, List, sym, ap, subst, ◌∙◌}
use Rattle.frames.specs.private.Followers.{Follows, kind_of}
use Rattle.frames.specs.private.ShownRuns.{shown_of}
use Rattle.frames.proofs.CarriedFrames.{flipped-targets}
use Rattle.frames.proofs.follower.Follower.coins_that_dont_count.Goals as goal

pub returns-in-Alone-clause-coins : goal.returns-in-Alone-clause-coins
returns-in-Alone-clause-coins g c faults first second size size_of_second same =
    let program = c.args.program.now.listing in
    let is = ap kind_of c.in-Alone.is in
    let flips = λ (coins : List Bool). flipped-targets program faults c.well_formed-2.ensures coins (subst (Follows program) c.in-Alone.is c.requires).0.none_random in
    ap (λ kind. shown_of kind program faults first) is
    ∙ (sym (flips first) ∙ flips second)
    ∙ sym (ap (λ kind. shown_of kind program faults second) is)
