-- A line of an error model that isn't refused says an instruction that fits.
use Rattle.std.proofs.Common.{◌≡◌, ◌<◌, false, List, [], ◌∷◌, arith}
use Rattle.std.specs.List.{list_any}
use Rattle.std.proofs.lemmas.Bool.{ltb-false, or_parts}
use Rattle.stim_lexer.specs.Fitting.{IsTurns, LinesFit}
use Rattle.stim_parser.proofs.FitLemmas.{OpensFitting, TakesFitting, readings_fit, taken}
use Rattle.stim_parser.specs.Numbers.{greatest_number}
use Rattle.dem_text.specs.Fitting.{Fits}
use Rattle.dem_text.specs.Texts.{models}
use Rattle.dem_text.specs.declared.target.Target.{Target}
use Rattle.dem_text.specs.declared.target.Target.TheVariants.{Plain, Detector, Observable, Separator}
use Rattle.dem_text.specs.Limits.{has_target_beyond, is_target_beyond}
use Rattle.dem_text.specs.Verdicts.{model_table, number_in}

-- the turns of a block are its first target
few_turns : (targets : List Target) → list_any is_target_beyond targets ≡ false → 0 < number_in targets → IsTurns (number_in targets)
few_turns [] h some = absurd (omega (arith, some))
few_turns (Plain n ∷ rest) h some = (some, ltb-false greatest_number n (or_parts _ _ h).0)
few_turns (Detector d ∷ rest) h some = absurd (omega (arith, some))
few_turns (Observable k ∷ rest) h some = absurd (omega (arith, some))
few_turns (Separator ∷ rest) h some = absurd (omega (arith, some))

opens_fitting : OpensFitting model_table IsTurns
unfolding has_target_beyond
opens_fitting targets h some = few_turns targets h some

takes_fitting : TakesFitting model_table Fits
takes_fitting depth number operation cut e h = taken model_table depth number operation cut h

pub reading_fits : LinesFit Fits models
reading_fits = readings_fit model_table Fits takes_fitting opens_fitting
