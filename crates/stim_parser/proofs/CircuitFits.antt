-- A line of a circuit that isn't refused says an instruction that fits.
use Rattle.std.proofs.Common.{◌≡◌, ℕ, ◌<◌, true, false, List, [], ◌∷◌, Some, ap, sym, ◌∙◌, refl, arith}
use Rattle.std.specs.Prelude.{unwrap_or}
use Rattle.std.specs.List.{list_any}
use Rattle.std.proofs.lemmas.Bool.{ltb-false, or_parts}
use Rattle.stim_lexer.specs.Cut.{Cut}
use Rattle.stim_lexer.specs.Fitting.{IsTurns, LinesFit}
use Rattle.stim_parser.specs.declared.forms.TargetForm.{TargetForm}
use Rattle.stim_parser.specs.declared.forms.TargetForm.TheVariants.{Turns}
use Rattle.stim_parser.specs.declared.operation.Operation.{Operation}
use Rattle.stim_parser.specs.declared.target.Target.{Target}
use Rattle.stim_parser.specs.declared.target.Target.TheVariants.{Plain, Inverted, Back, Pauli, Star}
use Rattle.stim_parser.specs.declared.table.Keyword.TheVariants.{Does}
use Rattle.stim_parser.specs.Circuits.{Fits, operation_is_written}
use Rattle.stim_parser.specs.Instructions.{keyword_named, target_form}
use Rattle.stim_parser.specs.Limits.{has_target_beyond, is_target_beyond}
use Rattle.stim_parser.specs.Numbers.{greatest_number}
use Rattle.stim_parser.specs.Texts.{circuits}
use Rattle.stim_parser.specs.Verdicts.{circuit_table, line_targets, takes_none, turns_of}
use Rattle.stim_parser.proofs.FitLemmas.{OpensFitting, TakesFitting, readings_fit, taken}
use Rattle.stim_parser.proofs.WrittenLemmas.{keyword_is_written, keyword_written, passes, targets_written}

named_written : (operation : Operation) (cut : Cut) → keyword_named cut.name ≡ Some (Does operation) → operation_is_written operation ≡ true
named_written operation cut e = sym (ap (passes keyword_is_written) e) ∙ keyword_written cut.name

none_read : (form : TargetForm) (text : List ℕ) → takes_none form ≡ true → unwrap_or (line_targets form text) [] ≡ []
unfolding line_targets
none_read form text e = rw e refl

-- the turns of a block are its first target
few_turns : (targets : List Target) → list_any (is_target_beyond Turns) targets ≡ false → 0 < turns_of targets → IsTurns (turns_of targets)
few_turns [] h some = absurd (omega (arith, some))
few_turns (Plain n ∷ rest) h some = (some, ltb-false greatest_number n (or_parts _ _ h).0)
few_turns (Inverted q ∷ rest) h some = absurd (omega (arith, some))
few_turns (Back k ∷ rest) h some = absurd (omega (arith, some))
few_turns (Pauli inverted l q ∷ rest) h some = absurd (omega (arith, some))
few_turns (Star ∷ rest) h some = absurd (omega (arith, some))

opens_fitting : OpensFitting circuit_table IsTurns
unfolding has_target_beyond
opens_fitting targets h some = few_turns targets h some

takes_fitting : TakesFitting circuit_table Fits
takes_fitting depth number operation cut e h =
    record {
      taken = taken circuit_table depth number operation cut h;
      no_targets = none_read (target_form (Does operation)) cut.targets;
      count = (or_parts _ _ h.1.1.1.1.0).1;
      different = h.1.1.1.1.1.0;
      operation_written = named_written operation cut e;
      targets_written = targets_written (target_form (Does operation)) cut.targets;
    }

pub reading_fits : LinesFit Fits circuits
reading_fits = readings_fit circuit_table Fits takes_fitting opens_fitting
