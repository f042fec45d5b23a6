-- The fault of the step, where it has one, is the next one.
use Rattle.std.proofs.Common.{◌≡◌, [], ◌∷◌, option_map, sym, ap, subst, ◌∙◌}
use Rattle.std.specs.Option.{option_to_list}
use Rattle.step_model.specs.WellFormed.{step_faults}
use Rattle.circuit_walk.specs.Found.{number_in}
use Rattle.circuit_walk.specs.Steps.{listed}
use Rattle.circuit_walk.proofs.FaultNumbers.{none_more, number_is, one_more}
use Rattle.circuit_walk.proofs.faults.take_fault_of.Goals as goal

pub take-requires-clause-next : goal.take-requires-clause-next
take-requires-clause-next g c =
    let program = c.args.program.now in
    let n = program.listing.qubits in
    let fault = c.in-Some.fault in
    let next = c.requires.next in
    let has : step_faults (listed n c.args.step) ≡ fault.number ∷ [] = c.fault_in.ensures.number n ∙ ap (λ o. option_to_list (option_map number_in o)) c.in-Some.is in
    let number = number_is program.listing next.1 (listed n c.args.step) next.3 fault.number has c.well_formed-2.ensures in
    (next.0, subst (λ m. g.T.FaultTaker.stands program next.0 m c.args.taker.now) (sym number) next.2)

pub returns-in-Some : goal.returns-in-Some
returns-in-Some g c begun k stands at =
    let program = c.args.program.now in
    let n = program.listing.qubits in
    let fault = c.in-Some.fault in
    let has : step_faults (listed n c.args.step) ≡ fault.number ∷ [] = c.fault_in.ensures.number n ∙ ap (λ o. option_to_list (option_map number_in o)) c.in-Some.is in
    let number = number_is program.listing k (listed n c.args.step) at fault.number has c.well_formed-2.ensures in
    let before = subst (λ m. g.T.FaultTaker.stands program begun m c.args.taker.now) (sym number) stands in
    let more = one_more program.listing k (listed n c.args.step) at fault.number has c.well_formed-2.ensures in
    subst (λ m. g.T.FaultTaker.stands program begun m c.take.new.self) more (c.take.ensures begun before)

pub returns-in_default : goal.returns-in_default
returns-in_default g c begun k stands at =
    let program = c.args.program.now in
    let n = program.listing.qubits in
    let none : step_faults (listed n c.args.step) ≡ [] = c.fault_in.ensures.number n ∙ ap (λ o. option_to_list (option_map number_in o)) c.in_default.is in
    subst (λ m. g.T.FaultTaker.stands program begun m c.args.taker.now) (none_more program.listing k (listed n c.args.step) at none) stands
