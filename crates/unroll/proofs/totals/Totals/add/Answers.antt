use Rattle.std.proofs.Common.{◌≡◌, ◌∙◌}
use Rattle.stim_parser.specs.Kept.{instruction_in}
use Rattle.stim_parser.proofs.NumberArguments.{names_number}
use Rattle.circuit_walk.specs.Totals.{observables_to}
use Rattle.unroll.proofs.FitLemmas.{qubits_within}
use Rattle.unroll.proofs.ObservableLemmas.{one-to}
use Rattle.unroll.proofs.totals.Totals.add.Goals as goal

pub reach_of-reach-requires : goal.reach_of-reach-requires
reach_of-reach-requires c = qubits_within (instruction_in c.args.instruction) c.requires

pub returns-in_default : goal.returns-in_default
returns-in_default c =
    let i = instruction_in c.args.instruction in
    let named : c.named_to-named.result ≡ observables_to i.operation i.arguments = c.named_to-named.ensures ∙ one-to i.operation i.arguments (names_number i c.requires) in
    cc
