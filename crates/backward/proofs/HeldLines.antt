-- The text of a program's error lines, held while they are found from the last to the first.
use Rattle.std.proofs.Common.{◌≡◌, ℕ, ◌+◌, ◌≤◌, List, [], ◌∷◌, ◌++◌, length, ap, ap₂, subst, sym, ◌∙◌, append_assoc, arith}
use Rattle.std.specs.Prelude.{reverse}
use Rattle.std.specs.List.{flat_map}
use Rattle.std.proofs.lemmas.List.{append-nil, reverse-reverse, reverse-append}
use Rattle.step_model.specs.ErrorModels.{ErrorLine}
use Rattle.step_model.specs.Listing.{Listing}
use Rattle.error_models.specs.ErrorLines.{text_at}
use Rattle.error_models.specs.HeldText.{Held, HoldsLines}
use Rattle.error_models.specs.ModelText.{line_text}
use Rattle.backward.specs.private.Stretches.{Gives, lines_at, lines_between, text_between}
use Rattle.backward.proofs.PassLines.{lines_back-more, lines_between-none, lines_between-parts}

-- no line
pub holds_none : (held : Held) → held.text ≡ [] → HoldsLines held []
holds_none held none = none

-- the lines of a stretch, found from its end
pub stretch_text : (program : Listing) (held : Held) (from to : ℕ) → HoldsLines held ([] ++ reverse (lines_between program from to)) → held.detectors ≡ length program.detectors → held.text ≡ text_between program from to
stretch_text program held from to holds counted =
    holds ∙ ap₂ (λ d lines. flat_map (line_text d) lines) counted (reverse-reverse (lines_between program from to))

-- one line more, before those that were there
pub one_line_more : (old new : Held) (n : ℕ) (text targets : List ℕ) → new.detectors ≡ old.detectors → text_at old.texts n ≡ text
    → new.text ≡ line_text old.detectors (record { text = text_at old.texts n; targets = targets }) ++ old.text
    → Gives (HoldsLines old) (HoldsLines new) (record { text = text; targets = targets } ∷ [])
one_line_more old new n text targets counted named put lines held =
    let line : ErrorLine = record { text = text; targets = targets } in
    put
    ∙ (ap₂ (λ t rest. line_text old.detectors (record { text = t; targets = targets }) ++ rest) named held
    ∙ (sym (ap (flat_map (line_text old.detectors)) (reverse-append lines (line ∷ [])))
    ∙ ap (λ d. flat_map (line_text d) (reverse (lines ++ line ∷ []))) (sym counted)))

-- the lines of a stretch, behind those of the stretch after it
pub gives_on : (program : Listing) (k mid to : ℕ) (first old new : List ErrorLine → Type 0) → k ≤ mid → mid ≤ to → Gives first old (reverse (lines_between program mid to)) → Gives old new (reverse (lines_between program k mid))
    → Gives first new (reverse (lines_between program k to))
gives_on program k mid to first old new before after held gives given h =
    let late : List ErrorLine = reverse (lines_between program mid to) in
    let early : List ErrorLine = reverse (lines_between program k mid) in
    subst new
    (append_assoc given late early
    ∙ ap (λ (l : List ErrorLine). given ++ l) (sym (reverse-append (lines_between program k mid) (lines_between program mid to)) ∙ ap (reverse {A = ErrorLine}) (lines_between-parts program k mid to before after)))
    (gives (given ++ late) (held given h))

-- those of one step
pub gives_step : (program : Listing) (k to : ℕ) (old new : List ErrorLine → Type 0) → to ≡ k + 1 → Gives old new (lines_at program k) → Gives old new (reverse (lines_between program k to))
gives_step program k to old new e gives =
    subst (Gives old new)
    (ap (λ (l : List ErrorLine). reverse l ++ lines_at program k) (sym (lines_between-none program to))
    ∙ (ap (λ j. reverse (lines_between program j to) ++ lines_at program k) e ∙ lines_back-more program k to (omega (arith, e))))
    gives

-- and none
pub gives_same : (program : Listing) (k to : ℕ) (holds : List ErrorLine → Type 0) → to ≡ k → Gives holds holds (reverse (lines_between program k to))
gives_same program k to holds e given h =
    subst holds (sym (ap (λ j. given ++ reverse (lines_between program k j)) e ∙ (ap (λ (l : List ErrorLine). given ++ reverse l) (lines_between-none program k) ∙ append-nil given))) h
