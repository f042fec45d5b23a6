-- What an analysis finds of a program, and what is true of it: where no target has a place, the model of the program's hits
-- is exact and nothing is random; else the lowest target with a place is the lowest random one, and the coin pair of its
-- place gives it different parities.
use Rattle.std.proofs.Common.{◌≡◌, ℕ, refl, ap, sym, ◌∙◌}
use Rattle.std.specs.Prelude.{None, Option, Result, Ok, Err, IfOk, List}
use Rattle.std.proofs.lemmas.Option.{none-some}
use Rattle.backward.specs.Places.{NoneIsRandom, IsLowestRandom}
use Rattle.error_models.specs.ModelText.{model_text}
use Rattle.dem_text.proofs.ProgramLemmas.{hits_read_back}
use Rattle.unroll.specs.Programs.{program_in}
use Rattle.step_model.specs.declared.fault.Fault.{Fault}
use Rattle.step_model.specs.Ends.{Takes}
use Rattle.run_laws.proofs.Exactness.{model_fits, model_is_exact}
use Rattle.run_laws.proofs.PairLaws.{pair_disagrees, random_exactly_with_place}
use Rattle.step_model.specs.declared.step.Place.{Place}
use Rattle.step_model.specs.Frames.{zero_coins, pair_coins}
use Rattle.step_model.specs.HitModels.{hitting_faults, model_of}
use Rattle.step_model.specs.Listing.{Listing}
use Rattle.step_model.specs.Sensitivities.{place_of}
use Rattle.step_model.specs.Targets.{IsRandom}
use Rattle.step_model.specs.WellFormed.{IsWellFormed}
use Rattle.engine.specs.declared.order.Status.{Status}
use Rattle.engine.specs.declared.order.Status.TheVariants.{Random}
use Rattle.engine.specs.Headline.{IsExactIn, IsRandomIn}
use Rattle.step_model.specs.Faults.{◌>>=◌}
use Rattle.engine.specs.Output.{Output, done, finding, found_in, random_lines, analysis_output}
use Rattle.engine.specs.private.Answered.{Answers}
use Rattle.engine.proofs.PlacedLemmas.{lowest_placed-none, lowest_placed-some}

-- a target without a place isn't random
not_random : (program : Listing) (d : ℕ) → IsWellFormed program → place_of program d ≡ None → IsRandom program d → ⊥
not_random program d well none random =
    let placed = (random_exactly_with_place program d well).0 random in
    none-some _ (sym none ∙ placed.1)

pub found_none : (program : Listing) → NoneIsRandom program → found_in program ≡ done (model_text (model_of program))
found_none program none = ap (finding program) (lowest_placed-none program none)

pub exact_in : (program : Listing) → IsWellFormed program → NoneIsRandom program → IsExactIn program (model_text (model_of program))
exact_in program well none =
    record {
      faults = hitting_faults program;
      model = model_of program;
      written = refl;
      reads = hits_read_back program well;
      fits = model_fits program;
      exact = model_is_exact program well none;
      none_random = λ d inside random. not_random program d well (none d inside) random;
    }

pub found_some : (program : Listing) (which : ℕ) (place : Place) → IsLowestRandom program which place
    → found_in program ≡ record { bytes = random_lines program which place; status = Random }
found_some program which place lowest =
    ap (finding program) (lowest_placed-some program which place lowest.in_range lowest.has_place lowest.lowest)

pub random_in : (program : Listing) (which : ℕ) (place : Place) → IsWellFormed program → IsLowestRandom program which place
    → IsRandomIn program (random_lines program which place)
random_in program which place well lowest =
    let pair = pair_disagrees program which place well lowest.has_place in
    record {
      target = which;
      first = zero_coins program;
      second = pair_coins program place;
      written = refl;
      in_range = lowest.in_range;
      first_coins = pair.first;
      second_coins = pair.second;
      disagree = pair.parities;
      lowest = λ d below random. not_random program d well (lowest.lowest d below) random;
    }

-- what goes out of a random target is what is found
pub target_goes_out : (program : Listing) (which : ℕ) (place : Place) (bytes : List ℕ) → IsLowestRandom program which place
    → bytes ≡ random_lines program which place → ◌≡◌ {A = Output} (record { bytes = bytes; status = Random }) (found_in program)
target_goes_out program which place bytes lowest is =
    ap (λ (all : List ℕ). let output : Output = record { bytes = all; status = Random } in output) is ∙ sym (found_some program which place lowest)

-- a call that writes bytes as those of a random target says so
pub told_random : {S : Type 0} {taken : S → Option (List ℕ)} {failures : S → ℕ} {old new : S} {bytes : List ℕ} {r : Result Status Fault} (program : Listing)
    → Answers taken failures old new (record { bytes = bytes; status = Random }) r → IsRandomIn program bytes
    → IfOk r (λ status. (status ≡ Random) × ((x : List ℕ) × Takes (taken old) (taken new) x × IsRandomIn program x))
told_random {bytes = bytes} {r = Ok status} program answers random = (answers.status, (bytes, answers.written, random))
told_random {r = Err fault} program answers random = tt

-- what is found of the program for which a text stands is what an analysis of the text writes
pub found_of_text : (text : List ℕ) (program : Listing) → program_in text ≡ Ok program → analysis_output text ≡ Ok (found_in program)
found_of_text text program h = ap (λ read. read >>= (λ p. Ok (found_in p))) h
