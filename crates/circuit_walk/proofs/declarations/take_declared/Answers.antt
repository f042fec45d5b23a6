-- The number of an observable is what the first argument writes.
use Rattle.std.proofs.Common.{◌≡◌, List, [], ◌∷◌, ap, ◌∙◌}
use Rattle.std.specs.Prelude.{unwrap_or}
use Rattle.stim_parser.specs.Kept.{instruction_in}
use Rattle.circuit_walk.specs.Declarations.{Declared, Inclusion}
use Rattle.circuit_walk.specs.private.Declaring.{declared_by}
use Rattle.circuit_walk.specs.TargetsMade.{records_named}
use Rattle.circuit_walk.proofs.DeclaringLemmas.{behind_one, declares_inclusion, next_one}
use Rattle.circuit_walk.proofs.declarations.take_declared.Given.{Over}
use Rattle.circuit_walk.proofs.declarations.take_declared.Goals as goal
use Rattle.circuit_walk.proofs.declarations.take_declared.Goals.{After-unwrap_or-observable}

-- what the instruction declares
one : (g : Over) (c : After-unwrap_or-observable g) → declared_by c.args.records (instruction_in c.args.instruction) ≡ Inclusion c.unwrap_or-observable.result (records_named c.args.records c.args.instruction.targets.now) ∷ []
one g c =
    declares_inclusion c.args.records c.unwrap_or-observable.result (instruction_in c.args.instruction) c.requires.fits c.in-ObservableInclude.is
    (c.unwrap_or-observable.ensures ∙ ap (λ n. unwrap_or n 0) c.first_number.ensures)

pub inclusion-requires : goal.inclusion-requires
inclusion-requires g c =
    let h = c.requires.stands in
    record {
      next = (h.0, h.1, h.2, next_one c.args.program.now.listing h.1 c.args.records (instruction_in c.args.instruction) _ (one g (goal.at.inclusion-requires g c).After-unwrap_or-observable) h.3);
    }

pub returns-in-ObservableInclude : goal.returns-in-ObservableInclude
returns-in-ObservableInclude g c begun done stands ahead =
    let i = instruction_in c.args.instruction in
    let is = one g (goal.at.returns-in-ObservableInclude g c).After-unwrap_or-observable in
    behind_one c.args.program.now.listing done c.args.records i _ is (λ (ds : List Declared). g.T.DeclarationTaker.stands c.args.program.now begun ds c.inclusion.new.self)
    (c.inclusion.ensures begun done stands (next_one c.args.program.now.listing done c.args.records i _ is ahead))
