-- What is predicted of a text that has ended: its refusal, that it has fewer lines, or the symptom of those that are named.
use Rattle.std.proofs.Common.{◌≡◌, ℕ, ◌+◌, ◌≤◌, ◌<◌, ◌^◌, nat_lt, Bool, true, false, if◌then◌else◌, List, Option, None, Some, Ok, Err, ◌++◌, [], append-nil, length, refl, ap, ap₂, subst, sym, ◌∙◌, arith}
use Rattle.std.specs.List.{list_all}
use Rattle.std.proofs.lemmas.Bool.Decides.{nat_tests}
use Rattle.std.proofs.lemmas.List.{length-map}
use Rattle.step_model.specs.declared.fault.Fault.{Fault}
use Rattle.step_model.specs.ErrorModels.{ErrorModel}
use Rattle.step_model.specs.WellFormed.{most_detectors}
use Rattle.stim_lexer.specs.Reached.{reached}
use Rattle.dem_text.specs.declared.front.End.{End}
use Rattle.dem_text.specs.declared.front.Front.{Front}
use Rattle.dem_text.specs.declared.prediction.Gathering.{Gathering}
use Rattle.dem_text.specs.declared.standing.LineCounts.{LineCounts}
use Rattle.dem_text.specs.Meanings.{detector_count, error_line, meaning_of, observable_count}
use Rattle.dem_text.specs.Models.{model_in, placed_lines}
use Rattle.dem_text.specs.NamedLines.{lines_named}
use Rattle.dem_text.specs.Predictions.{HasSymptom}
use Rattle.dem_text.specs.Reached.{block_lines, has_many_lines, most_lines}
use Rattle.dem_text.specs.Sums.{symptom_of}
use Rattle.dem_text.specs.Trees.{Tree}
use Rattle.dem_text.specs.private.Ended.{IsAtEnd, IsModelRead}
use Rattle.dem_text.specs.private.Folds.{fold_over, fold_start}
use Rattle.dem_text.specs.private.Gathering.{AreHanded, IsStanding, bits_in, most_places}
use Rattle.dem_text.specs.private.Making.{HasTaken}
use Rattle.dem_text.proofs.GatheringLemmas.{handed-end}
use Rattle.dem_text.proofs.NearLemmas.{few-counts}
use Rattle.dem_text.proofs.ReadLemmas.{read-model, refused-text, whole-model}
use Rattle.dem_text.proofs.SymptomLemmas.{length-bits, symptom-bits}

-- ---- a model that was read

module _ (text : List ℕ) (tree : Tree) (counts : LineCounts) (h : IsModelRead text tree counts) where
  abbrev model : ErrorModel
  model = meaning_of (placed_lines tree)

  model-is : model_in text ≡ Ok model
  model-is = read-model text tree model h.writes (whole-model tree model not-many h.within refl)
    where
      not-many : has_many_lines tree ≡ false
      not-many = let short : block_lines tree ≤ most_lines = h.short in grind (arith, nat_tests)

  lines-counted : length model.lines ≡ counts.errors
  lines-counted =
      length-map _ (error_line (detector_count (placed_lines tree)) (observable_count (placed_lines tree))) ∙ sym h.counts_are.errors_are

  symptom-of : (numbers : List ℕ) (b : Bool) → b ≡ list_all (λ n. nat_lt n counts.errors) numbers → (found : Option (List Bool)) → found ≡ (if b then Some (symptom_of model (lines_named numbers model)) else None)
      → HasSymptom numbers text found
  symptom-of numbers b below found is = (
    model,
    model-is,
    subst (λ n. n < 2 ^ 64) (sym lines-counted) h.few,
    is
        ∙ ap (λ c. if c then Some (symptom_of model (lines_named numbers model)) else None)
        (below ∙ ap (λ k. list_all (λ n. nat_lt n k) numbers) (sym lines-counted)),
  )

  pub none-predicted : (numbers : List ℕ) → false ≡ list_all (λ n. nat_lt n counts.errors) numbers → HasSymptom numbers text None
  none-predicted numbers above = symptom-of numbers false above None refl

  pub some-predicted : {A : Type 0} (numbers : List ℕ) (ended : End) (front : Front A) (bits : List Bool) → IsAtEnd numbers most_places text tree ended front → true ≡ list_all (λ n. nat_lt n counts.errors) numbers
      → bits ≡ bits_in front.fold.bits counts.detectors counts.observables → HasSymptom numbers text (Some bits)
  some-predicted numbers ended front bits at below is =
      let c = h.counts_are in
      symptom-of numbers true below (Some bits)
      (ap (λ (bs : List Bool). Some bs)
      (is
      ∙ ap (λ bs. bits_in bs counts.detectors counts.observables) (at.read.follows h.short).bits_are
      ∙ ap₂ (λ d o. bits_in (fold_over numbers (fold_start most_places) (reached tree)).bits d o) c.detectors_are c.observables_are
      ∙ symptom-bits numbers (reached tree) h.within))

  pub few-detectors : counts.detectors ≤ most_detectors
  few-detectors = let few = few-counts (placed_lines tree) h.within in let is = h.counts_are.detectors_are in omega (arith, few.0, is)

  pub few-places : {A : Type 0} (numbers : List ℕ) (ended : End) (front : Front A) → IsAtEnd numbers most_places text tree ended front → most_detectors + counts.observables ≤ length front.fold.bits
  few-places numbers ended front at =
      let few = few-counts (placed_lines tree) h.within in
      let is = h.counts_are.observables_are in
      let long = ap (λ (bs : List Bool). length bs) (at.read.follows h.short).bits_are ∙ length-bits numbers (reached tree) h.within in
      omega (arith, few.1, is, long)

-- ---- what was handed out before

pub record HasEndedAt {A : Type 0} (named handed : List ℕ) (ended : End) (new : Front A) : Type 0 where
  pub tree : Tree
  pub at : IsAtEnd named most_places handed tree ended new

pub ended-at : {A : Type 0} (named handed rest : List ℕ) (ended : End) (g : Gathering A) (new : Front A) → IsStanding named handed g.text.items g.front g.refused → g.refused ≡ None
    → HasTaken g.text.items rest ended g.front new → HasEndedAt named handed ended new
ended-at named handed rest ended g new stands none taken =
    let h : AreHanded named handed g.text.items g.front =
    subst (λ (o : Option Fault). IsStanding named handed g.text.items g.front o) none stands in
    let p = handed-end named handed g.text.items rest ended g.front new h taken in
    record { tree = p.0; at = p.1 }

-- a line of it is refused
stands-for-refusal : {A : Type 0} (named handed text : List ℕ) (front : Front A) (refused : Option Fault) (fault : Fault) → refused ≡ Some fault → IsStanding named handed text front refused → model_in handed ≡ Err fault
stands-for-refusal named handed text front None fault e h = absurd cc
stands-for-refusal named handed text front (Some f) fault e h =
    let same : f ≡ fault = cc in
    ap model_in (sym (append-nil handed)) ∙ refused-text (handed ++ []) f (h []) ∙ ap (λ (x : Fault). Err x) same

pub refused-predicted : {A : Type 0} (named handed : List ℕ) (g : Gathering A) (fault : Fault) → g.refused ≡ Some fault → IsStanding named handed g.text.items g.front g.refused → model_in handed ≡ Err fault
refused-predicted named handed g fault e h = stands-for-refusal named handed g.text.items g.front g.refused fault e h
