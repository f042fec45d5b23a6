-- What is shown of the runs fills the words.
use Rattle.std.proofs.Common.{◌≡◌, false, length, get_or, sym, ap, ◌∙◌, arith}
use Rattle.bit_rows.specs.Lanes.{lane}
use Rattle.frames.specs.private.Followers.{kind_of}
use Rattle.frames.specs.private.ShownRuns.{ShownRuns, shown_count, shown_of}
use Rattle.frames.proofs.ShownLemmas.{lane_shows, length-shown}
use Rattle.frames.proofs.FollowerLemmas.{value_count-shown}
use Rattle.frames.proofs.side_runs.SideRuns.run.Goals as goal

pub fill-requires : goal.fill-requires
fill-requires g c =
    let program = c.self.inside.program.now.listing in
    c.self.invariant.1
    ∙ ap (λ kind. shown_count kind program) (sym c.follow.ensures.kind)
    ∙ sym (value_count-shown program c.follow.new.self c.follow.ensures.follows)

pub invariant_of-self : goal.invariant_of-self
invariant_of-self g c =
    let program = c.self.inside.program.now.listing in (
      c.follow.ensures.follows,
      c.fill.ensures.size ∙ c.self.invariant.1 ∙ ap (λ kind. shown_count kind program) (sym c.follow.ensures.kind),
    )

pub returns-clause-size : goal.returns-clause-size
returns-clause-size g c =
    c.fill.ensures.size ∙ ap (λ (s : ShownRuns). length s.words) c.self.view_is

pub returns-clause-lanes : goal.returns-clause-lanes
returns-clause-lanes g c j below =
    let program = c.self.inside.program.now.listing in
    let shown = kind_of c.self.inside.follower.now in
    let words = c.fill.new.words in
    let faults = lane j c.args.faults.now in
    let coins = lane j c.args.coins.now in
    let size : length words ≡ length (shown_of shown program faults coins) =
    c.fill.ensures.size ∙ (c.self.invariant.1 ∙ sym (length-shown shown program faults coins c.well_formed-2.ensures)) in
    lane_shows j words (shown_of shown program faults coins) size
    (λ i within.
    c.fill.ensures.filled i (omega (arith, within, c.fill.ensures.size)) j below
    ∙ ap (λ values. get_or values i false) (c.follow.ensures.runs j))
    ∙ ap (λ (s : ShownRuns). shown_of s.shown s.program faults coins) c.self.view_is
