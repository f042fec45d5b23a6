-- An error model that fits a well-formed program can be written.
use Rattle.std.proofs.Common.{◌≡◌, ℕ, ◌+◌, List, [], ◌∷◌, length, is_some, Ok, ap, ◌∙◌, arith, length-append, All}
use Rattle.std.proofs.lemmas.List.Elements.{All-cons, All-nil}
use Rattle.run_laws.proofs.Exactness.{model_fits}
use Rattle.step_model.specs.ErrorModels.{ErrorLine, ErrorModel, Fits, LineFits, LinesFit}
use Rattle.step_model.specs.HitModels.{hitting_faults, model_of}
use Rattle.step_model.specs.Listing.{Listing, no_effect}
use Rattle.step_model.specs.WellFormed.{IsWellFormed}
use Rattle.stim_parser.specs.Limits.{is_probability}
use Rattle.error_models.specs.ModelText.{model_text}
use Rattle.dem_text.specs.Models.{model_in}
use Rattle.dem_text.specs.Writable.{IsWritable, IsWritableLine}
use Rattle.dem_text.proofs.MeaningLemmas.{reads_back}

line_writable : (program : Listing) (fault : ℕ) (line : ErrorLine) → IsWellFormed program → LineFits program fault line → IsWritableLine (length program.detectors + length program.observables) line
line_writable program fault line well fits =
    record {
      accepted = ap is_probability fits.text ∙ ap is_some (well.faults_fit fault no_effect fits.in_range).bound;
      ascending = fits.ascending;
      in_range = λ k d below.
          let within = fits.targets_in_range k d below in omega (arith, within, length-append program.detectors program.observables);
    }

lines_writable : (program : Listing) (numbers : List ℕ) (lines : List ErrorLine) → IsWellFormed program → LinesFit program numbers lines → All (IsWritableLine (length program.detectors + length program.observables)) lines
lines_writable program [] [] well fits = All-nil (IsWritableLine (length program.detectors + length program.observables))
lines_writable program [] (line ∷ lines) well fits = absurd fits
lines_writable program (number ∷ numbers) [] well fits = absurd fits
lines_writable program (number ∷ numbers) (line ∷ lines) well fits =
    All-cons (IsWritableLine (length program.detectors + length program.observables)) line lines (line_writable program number line well fits.0)
    (lines_writable program numbers lines well fits.1)

pub fitting_is_writable : (program : Listing) (faults : List ℕ) (model : ErrorModel) → IsWellFormed program → Fits program faults model → IsWritable model
fitting_is_writable program faults model well fits =
    let detectors = fits.detectors in
    let observables = fits.observables in
    let coordinates = fits.coordinates in
    record {
      lines = rw (detectors, observables) (lines_writable program faults model.lines well fits.lines);
      coordinates_given = rw (coordinates, detectors) well.coordinates_given;
      coordinates_fit = rw coordinates well.coordinates_fit;
      few_detectors = rw detectors well.few_detectors;
      few_observables = rw observables well.few_observables;
    }

pub fitting_reads_back : (program : Listing) (faults : List ℕ) (model : ErrorModel) → IsWellFormed program → Fits program faults model → model_in (model_text model) ≡ Ok model
fitting_reads_back program faults model well fits = reads_back model (fitting_is_writable program faults model well fits)

pub hits_read_back : (program : Listing) → IsWellFormed program → model_in (model_text (model_of program)) ≡ Ok (model_of program)
hits_read_back program well = fitting_reads_back program (hitting_faults program) (model_of program) well (model_fits program)
