-- The coordinates of the next detector are held; where there is no room for more, the lines of all that are held are pushed.
use Rattle.std.proofs.Common.{◌+◌, ap, ◌∙◌, arith}
use Rattle.std.specs.Prelude.{map, take}
use Rattle.backward.proofs.HeldDetectorLemmas.{holds_more, holds_none}
use Rattle.backward.proofs.declarations.ListingCoordinateTaker.take.Goals as goal

pub push_held-requires-clause-held : goal.push_held-requires-clause-held
push_held-requires-clause-held g c =
    let next = c.requires.next in
    (holds_more c.args.program.now.listing.coordinates _ c.hold.new.desk.from _ _ c.args.coordinates.now next.1 next.2.4 c.hold.ensures.from c.hold.ensures.held next.3).held

pub returns-then-hold : goal.returns-then-hold
returns-then-hold g c begun d stands given =
    let coordinates = c.args.program.now.listing.coordinates in
    let desk = c.hold.new.desk in
    let holds = holds_more coordinates _ desk.from _ (take desk.waiting desk.held) c.args.coordinates.now d stands.4 c.hold.ensures.from c.hold.ensures.held given in (
      stands.0,
      stands.1,
      omega (arith, c.push_held.ensures.waiting),
      c.push_held.ensures.none,
      holds_none coordinates desk.from desk.waiting c.push_held.new.desk.from (take desk.waiting desk.held) _ (d + 1) holds c.push_held.ensures.count c.push_held.ensures.pushed c.push_held.ensures.from
          (ap (λ n. map (λ l. l.items) (take n c.push_held.new.desk.held)) c.push_held.ensures.waiting),
    )

pub returns-else-hold : goal.returns-else-hold
returns-else-hold g c begun d stands given = (
  stands.0,
  stands.1,
  c.if-hold.ensures.full,
  c.hold.ensures.lines ∙ stands.3,
  holds_more c.args.program.now.listing.coordinates _ c.hold.new.desk.from _ _ c.args.coordinates.now d stands.4 c.hold.ensures.from c.hold.ensures.held given,
)
