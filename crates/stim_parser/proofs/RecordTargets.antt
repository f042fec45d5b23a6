-- A detector names records and nothing else, and so does an instruction that adds to an observable.
use Rattle.std.proofs.Common.{◌≡◌, true, List}
use Rattle.std.specs.Prelude.{⊤}
use Rattle.std.specs.List.{list_all}
use Rattle.stim_parser.specs.declared.forms.TargetForm.TheVariants.{Records}
use Rattle.stim_parser.specs.declared.table.Keyword.TheVariants.{Does}
use Rattle.stim_parser.specs.declared.operation.Operation.{Operation}
use Rattle.stim_parser.specs.declared.operation.Operation.TheVariants.{DetectorDeclaration, ObservableInclude}
use Rattle.stim_parser.specs.declared.target.Target.{Target}
use Rattle.stim_parser.specs.Circuits.{Fits}
use Rattle.stim_parser.specs.Instructions.{target_form}
use Rattle.stim_parser.specs.Limits.{are_of_form, is_back}
use Rattle.stim_parser.specs.Verdicts.{Instruction}

abbrev pub NamesRecords : Operation → List Target → Type 0
NamesRecords DetectorDeclaration targets = list_all is_back targets ≡ true
NamesRecords ObservableInclude targets = list_all is_back targets ≡ true
NamesRecords operation targets = ⊤

of_records : (ts : List Target) → are_of_form Records ts ≡ true → list_all is_back ts ≡ true
unfolding are_of_form
of_records ts h = h

of_form : (o : Operation) (ts : List Target) → are_of_form (target_form (Does o)) ts ≡ true → NamesRecords o ts
of_form DetectorDeclaration ts h = of_records ts h
of_form ObservableInclude ts h = of_records ts h
of_form o ts h = tt

pub names_records : (i : Instruction) → Fits i → NamesRecords i.operation i.targets
names_records i fits = of_form i.operation i.targets fits.targets
