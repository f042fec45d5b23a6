use Rattle.std.proofs.Common.{◌≤◌, ◌<◌, length, subst}
use Rattle.std.specs.Prelude.{IfSome}
use Rattle.backward.specs.private.Passes.{records_before}
use Rattle.backward.proofs.PassRecords.{holds-first}
use Rattle.backward.proofs.found.Found.let_go.Goals as goal

pub let_go-requires : goal.let_go-requires
let_go-requires g c = subst (λ o. IfSome o (λ r. r < length c.args.self.now.lists)) c.in-Some.is c.requires

pub returns-then-not-self-clause-lists : goal.returns-then-not-self-clause-lists
returns-then-not-self-clause-lists g c program place enough h =
    let f = c.args.self.now in
    let some = subst (λ o. IfSome o (λ r. (records_before program place ≤ r) × (r ≤ f.known))) c.in-Some.is enough in
    holds-first program f.settled place f.known c.in-Some.r f.lists c.let_go.new.self c.let_go.ensures.kept c.let_go.ensures.len c.let_go.ensures.long some.0 some.1 h
