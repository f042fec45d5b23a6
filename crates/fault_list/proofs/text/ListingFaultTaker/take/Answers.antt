-- The line of a fault is pushed or held after those before it.
use Rattle.std.proofs.Common.{◌∙◌}
use Rattle.fault_list.specs.FaultLines.{fault_line}
use Rattle.fault_list.proofs.HeldLineLemmas.{held_number}
use Rattle.fault_list.proofs.text.ListingFaultTaker.take.Goals as goal

pub write_line-self-requires-clause-held : goal.write_line-self-requires-clause-held
write_line-self-requires-clause-held g c = c.requires.next.1.1

pub write_line-self-requires-clause-texts : goal.write_line-self-requires-clause-texts
write_line-self-requires-clause-texts g c = c.requires.next.1.2

pub returns : goal.returns
returns g c begun stands =
    (stands.0, c.write_line-self.ensures.held, c.write_line-self.ensures.texts ∙ stands.2, held_number (fault_line c.args.program.now.listing) c.args.fault.number stands.3 c.write_line-self.ensures.pushed)
