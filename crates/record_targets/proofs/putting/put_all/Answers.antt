-- Behind the first pass all detectors are put, and behind the second all targets.
use Rattle.record_targets.proofs.PuttingLemmas.{all_put, detectors_put}
use Rattle.record_targets.proofs.putting.put_all.Goals as goal

pub take_declarations-requires-2 : goal.take_declarations-requires-2
take_declarations-requires-2 g c =
    let first = c.take_declarations.ensures in
    let lists = c.take_declarations.new.taker.lists in (
      c.detector_count.ensures,
      detectors_put c.args.program.now.listing first.0 lists.marks.items lists.numbers.items first.1 first.2.1,
    )

pub returns : goal.returns
returns g c =
    let second = c.take_declarations-2.ensures in
    let lists = c.take_declarations-2.new.taker.lists in
    all_put c.args.program.now.listing second.0 lists.marks.items lists.numbers.items second.1 second.2.1
