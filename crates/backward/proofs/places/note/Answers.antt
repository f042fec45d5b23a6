use Rattle.std.proofs.Common.{◌<◌, ap, arith, get_or, length, ◌∙◌}
use Rattle.backward.specs.private.Collapses.{noted}
use Rattle.backward.proofs.PassPlaces.{length-noted, opened_some, some_left}
use Rattle.backward.proofs.places.note.Goals as goal

pub note_each-requires : goal.note_each-requires
note_each-requires g c k d lt =
    let within : get_or c.args.hit.now k d < c.args.targets = c.requires.hit k d lt in
    omega (arith, within, ap length c.in_ok-open.ensures, c.requires.long)

pub returns : goal.returns
returns g c =
    let hit = c.args.hit.now in
    let some : 0 < length hit = some_left (length hit) c.is_empty.result c.is_empty.ensures c.if-is_empty.false in
    let within : get_or hit 0 0 < c.args.targets = c.requires.hit 0 0 some in
    let long = ap length c.note_each.ensures ∙ (length-noted c.args.value hit c.open.new.found.items ∙ (ap length c.in_ok-open.ensures ∙ c.requires.long)) in
    opened_some c.args.targets c.note_each.new.found.items (omega (arith, long, within))
    ∙ (c.note_each.ensures ∙ ap (noted c.args.value hit) c.in_ok-open.ensures)
