-- The words show which targets differ.
use Rattle.std.proofs.Common.{sym, ap, ◌∙◌}
use Rattle.bit_rows.specs.Lanes.{lane}
use Rattle.frames.specs.private.Followers.{kind_of}
use Rattle.frames.specs.private.ShownRuns.{shown_of}
use Rattle.frames.proofs.follower.Follower.follow.Goals as goal

pub returns-in-Alone-clause-runs : goal.returns-in-Alone-clause-runs
returns-in-Alone-clause-runs g c j =
    let faults = lane j c.args.faults.now in
    let coins = lane j c.args.coins.now in
    c.follow-in-Alone.ensures.runs coins j
    ∙ ap (λ kind. shown_of kind c.args.program.now.listing faults coins) (sym (ap kind_of c.in-Alone.is))
