-- The text of a stretch, written part by part.
use Rattle.std.proofs.Common.{◌≡◌, ℕ, ◌≤◌, Bool, true, false, List, [], ◌++◌, length, drop, Option, refl, ap, subst, sym, ◌∙◌, arith, append_assoc}
use Rattle.std.specs.Prelude.{Result, Ok, Err, IfOk, OnErr, OnOk}
use Rattle.std.specs.List.{flat_map}
use Rattle.std.proofs.lemmas.List.FromFn.{length-map-range_with_len}
use Rattle.step_model.specs.Listing.{Listing, ListedStep}
use Rattle.step_model.specs.Targets.{targets_of}
use Rattle.circuit_walk.specs.Programs.{KeptProgram}
use Rattle.step_model.specs.HitModels.{model_of}
use Rattle.step_model.specs.WellFormed.{IsWellFormed}
use Rattle.error_models.specs.ModelText.{detectors_text, line_text, lines_text, model_text, observables_text}
use Rattle.step_model.specs.Held.{Held}
use Rattle.step_model.specs.Pushed.{IsPushed, Pushes}
use Rattle.step_model.proofs.Pushing.{Pushes-trans}
use Rattle.backward.specs.declared.found.Found.{Found}
use Rattle.backward.specs.declared.point.KeptPoint.{KeptPoint}
use Rattle.backward.specs.declared.point.Point.{Point}
use Rattle.backward.specs.declared.stretch.Parts.{Parts}
use Rattle.trackers.specs.Tracked.{Tracked, Fit, restored}
use Rattle.backward.specs.private.Passes.{HoldsLists, IsJudged, IsPassed, records_before, tracked_before}
use Rattle.record_targets.specs.ListingSets.{sensitivity_before}
use Rattle.backward.specs.private.Points.{AreParts, IsFor, IsPointOf, IsReady, PushesSome, first_place}
use Rattle.backward.specs.private.Stretches.{text_between}
use Rattle.trackers.proofs.KeptLemmas.{fit_alike, restored_alike}
use Rattle.backward.proofs.PassLines.{lines_between-all, lines_between-none, text_between-parts}
use Rattle.backward.proofs.PassRecords.{records_before-earlier, settled-at, settled-first}
use Rattle.backward.proofs.PassSteps.{holds_same}

-- ---- where a pass may start
words_before : (program : Listing) (steps : List ListedStep) → length (tracked_before program steps).words ≡ length (targets_of program)
words_before program steps = length-map-range_with_len (λ d. (sensitivity_before program steps d).word) 0 (length (targets_of program))

settled_judged : (program : Listing) (settled : Bool) (place : ℕ) (latest : List (Option ℕ)) (left : ℕ) → settled ≡ true → IsJudged program settled place latest left
settled_judged program true place latest left e = tt
settled_judged program false place latest left e = cc

-- what is kept fits a tracker for the program
pub fits_tracker : {A : Type 0} (program : KeptProgram) (point : KeptPoint A) (t : Tracked) → IsFor program.listing t → IsPointOf program point → Fit t point.lists
fits_tracker program point t size at =
    let steps = drop point.walk.place program.listing.steps in
    fit_alike point.lists t (tracked_before program.listing steps) size.qubits (size.words ∙ sym (words_before program.listing steps)) at.words.fit

pub passed_at_point : {A T : Type 0} (tracked : T → Tracked) (program : KeptProgram) (cut : ℕ) (point : KeptPoint A) (found : Found A) (old at : Point A T) → IsFor program.listing (tracked old.tracker)
    → at.walk ≡ point.walk → tracked at.tracker ≡ restored point.lists (tracked old.tracker) → IsReady program.listing cut found → IsPointOf program point → point.walk.place ≤ cut → IsPassed program.listing at.walk.place (tracked at.tracker) found
passed_at_point tracked program cut point found old at size walk words ready left le =
    let steps = drop point.walk.place program.listing.steps in
    let alike = restored_alike point.lists (tracked old.tracker) (tracked_before program.listing steps) size.qubits (size.words ∙ sym (words_before program.listing steps)) in
    subst (λ (place : ℕ). IsPassed program.listing place (tracked at.tracker) found) (sym (ap (λ walk. walk.place) walk))
    (record {
      within = left.within;
      words = words ∙ (alike ∙ left.words.words);
      lists = subst (λ s. HoldsLists program.listing s point.walk.place found.known found.lists) (sym ready.settled)
          (settled-at program.listing cut point.walk.place found.known found.lists (omega (arith, records_before-earlier program.listing point.walk.place cut le, ready.lists.enough)) ready.lists);
      judged = settled_judged program.listing found.settled point.walk.place found.latest.items found.left ready.settled;
    })

-- a tracker that was taken back is for the program
pub passed_for : {A : Type 0} (program : Listing) (place : ℕ) (t : Tracked) (found : Found A) → IsPassed program place t found → IsFor program t
passed_for program place t found h =
    record {
      qubits = ap (λ (t : Tracked). t.qubits) h.words;
      words = ap (λ (t : Tracked). length t.words) h.words ∙ words_before program (drop place program.steps);
    }

-- the lists are settled at a pass's end as they were, for each place that they know enough for
pub ready_after : {A : Type 0} (program : Listing) (place cut : ℕ) (t : Tracked) (found : Found A) → found.settled ≡ true → found.keeps ≡ true → IsPassed program place t found → records_before program cut ≤ found.known → IsReady program cut found
ready_after program place cut t found settled keeps h enough =
    record {
      settled = settled;
      keeps = keeps;
      lists = settled-at program place cut found.known found.lists enough (subst (λ s. HoldsLists program s place found.known found.lists) settled h.lists);
    }

pub ready_at : {A : Type 0} (program : Listing) (from cut : ℕ) (found : Found A) → IsReady program from found → records_before program cut ≤ found.known → IsReady program cut found
ready_at program from cut found h enough = record { settled = h.settled; keeps = h.keeps; lists = settled-at program from cut found.known found.lists enough h.lists }

-- what is cut from a stretch at its start, ready for a pass over it
pub ready_parts : {A E : Type 0} (program : KeptProgram) (from to : ℕ) (t : Tracked) (found : Found A) (r : Result (Parts A) E) → found.settled ≡ true → OnOk r (found.keeps ≡ true) → OnOk r (IsPassed program.listing from t found)
    → IfOk r (AreParts program from to found.known) → IfOk r (λ parts. IsReady program.listing (first_place from parts.points.items) found)
ready_parts program from to t found (Ok parts) settled keeps passed part =
    ready_after program.listing from (first_place from parts.points.items) t found settled keeps passed (omega (arith, part.enough, ap (records_before program.listing) part.points.first))
ready_parts program from to t found (Err e) settled keeps passed part = tt

-- ---- what was pushed
module _ {S : Type 0} {taken : S → Option (List ℕ)} {failures : S → ℕ} where
  -- after a failure nothing more happens
  pub Pushes-failed : (s : S) (held : Held) (bytes : List ℕ) → held.failed ≡ true → Pushes taken failures s s held held bytes
  Pushes-failed s held bytes failed = record { pushed = by_state held.failed failed }
    where
      by_state : (b : Bool) → b ≡ true → IsPushed b b (record { taken = taken s; failures = failures s; held = held.bytes }) (record { taken = taken s; failures = failures s; held = held.bytes }) bytes
      by_state true e = (record { same_taken = refl; same_count = refl }, refl)
      by_state false e = cc

  pub Pushes-as : (s t : S) (h k : Held) (xs ys : List ℕ) → xs ≡ ys → Pushes taken failures s t h k xs → Pushes taken failures s t h k ys
  Pushes-as s t h k xs ys e p = subst (Pushes taken failures s t h k) e p

  -- all of a beginning, and some of what follows
  pub some-first : (s t : S) (h k : Held) (xs ys whole : List ℕ) → xs ++ ys ≡ whole → Pushes taken failures s t h k xs → PushesSome taken failures s t h k whole
  some-first s t h k xs ys whole e p = record { front = xs; rest = ys; whole = e; pushes = p }

  pub some-then : (s t u : S) (h k m : Held) (xs ys zs whole : List ℕ) → xs ++ (ys ++ zs) ≡ whole → Pushes taken failures s t h k xs → PushesSome taken failures t u k m ys → PushesSome taken failures s u h m whole
  some-then s t u h k m xs ys zs whole e p some =
      record {
        front = xs ++ some.front;
        rest = some.rest ++ zs;
        whole =
            append_assoc xs some.front (some.rest ++ zs)
            ∙ (ap (λ (l : List ℕ). xs ++ l) (sym (append_assoc some.front some.rest zs) ∙ ap (λ (l : List ℕ). l ++ zs) some.whole) ∙ e);
        pushes = Pushes-trans p some.pushes;
      }

-- ---- texts of stretches
pub text_between-none : (program : Listing) (k : ℕ) → text_between program k k ≡ []
text_between-none program k = ap (flat_map (line_text (length program.detectors))) (lines_between-none program k)

-- three stretches, one after another
pub text_between-three : (program : Listing) (a b c d : ℕ) → a ≤ b → b ≤ c → c ≤ d → text_between program a b ++ (text_between program b c ++ text_between program c d) ≡ text_between program a d
text_between-three program a b c d ab bc cd =
    ap (λ (l : List ℕ). text_between program a b ++ l) (text_between-parts program b c d bc cd) ∙ text_between-parts program a b d ab (omega (arith, bc, cd))

pub on_err_any : {T E P : Type 0} (r : Result T E) → P → OnErr r P
on_err_any (Ok x) p = tt
on_err_any (Err e) p = p

-- ---- the whole program
-- what a first pass leaves at the start is settled
pub ready_first : {A : Type 0} (program : Listing) (cut : ℕ) (t : Tracked) (found now : Found A) → found.settled ≡ false → IsPassed program 0 t found → records_before program cut ≤ found.known
    → now.settled ≡ true → now.keeps ≡ true → now.known ≡ found.known → now.lists ≡ found.lists → IsReady program cut now
ready_first program cut t found now first h enough settled keeps known lists =
    record {
      settled = settled;
      keeps = keeps;
      lists = holds_same program true true cut found.known now.known found.lists now.lists refl known lists
          (settled-first program cut found.known found.lists enough (subst (λ s. HoldsLists program s 0 found.known found.lists) first h.lists));
    }

pub whole_model : (program : Listing) (cut : ℕ) → IsWellFormed program → cut ≤ length program.steps
    → text_between program 0 cut ++ (text_between program cut (length program.steps) ++ (detectors_text (model_of program) ++ observables_text (model_of program))) ≡ model_text (model_of program)
whole_model program cut fits within =
    let behind : List ℕ = detectors_text (model_of program) ++ observables_text (model_of program) in
    let first : 0 ≤ cut = omega arith in
    sym (append_assoc (text_between program 0 cut) (text_between program cut (length program.steps)) behind)
    ∙ (ap (λ (l : List ℕ). l ++ behind) (text_between-parts program 0 cut (length program.steps) first within ∙ ap (flat_map (line_text (length program.detectors))) (lines_between-all program fits))
    ∙ sym (append_assoc (lines_text (model_of program)) (detectors_text (model_of program)) (observables_text (model_of program))))
