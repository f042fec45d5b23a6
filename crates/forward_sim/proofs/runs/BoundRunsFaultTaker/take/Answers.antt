-- The bound goes on with the last run, or begins one.
use Rattle.std.proofs.Common.{◌++◌, ◌∙◌, arith}
use Rattle.forward_sim.specs.Drawn.{bounds_of}
use Rattle.forward_sim.specs.private.BoundRuns.{bounds_in, bounds_of_run}
use Rattle.forward_sim.proofs.BoundLemmas.{bounds_more}
use Rattle.forward_sim.proofs.RunLemmas.{last_below}
use Rattle.forward_sim.proofs.runs.BoundRunsFaultTaker.take.Goals as goal

pub count_fault-requires : goal.count_fault-requires
count_fault-requires g c =
    let self = c.args.self.now in
    let below = last_below (bounds_of c.args.program.now.listing) self.runs.items self.last c.args.fault.number (c.requires.next.1.bounds_are c.if-self.false c.if-self-2.false) in
    omega (arith, below, c.requires.fault.there, c.fault_count-count.ensures, c.fault_count-count.type_inv)

pub returns-in-Ok : goal.returns-in-Ok
returns-in-Ok g c begun before =
    let self = c.args.self.now in
    record {
      same = before.same;
      many = before.many;
      bounds_are = λ few well.
          c.in-Ok.ensures
          ∙ bounds_more c.args.program.now.listing (bounds_in self.runs.items ++ bounds_of_run self.last) c.args.fault.number c.chance_bound-bound.result c.requires.fault.there
          (c.chance_bound-bound.ensures ∙ c.requires.fault.bound) (before.bounds_are few well);
    }
