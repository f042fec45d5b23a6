-- What a line says that isn't refused: an instruction fits, a block has a turn, and as few as its targets may say, and stands
-- where one more may be open, and a block is open where one is closed. Each question of the list was answered with no.
use Rattle.std.proofs.Common.{◌≡◌, ℕ, ◌<◌, ◌==◌, false, if◌then◌else◌, List, ◌∷◌, Option, None, Some, refl, sym, inl, inr}
use Rattle.std.proofs.lemmas.Bool.{cases_Bool, not-false, or_parts, true≢false}
use Rattle.step_model.specs.declared.fault.Cause.{Cause}
use Rattle.stim_lexer.specs.declared.line.Braces.{Braces}
use Rattle.stim_lexer.specs.declared.line.Braces.TheVariants.{NoBrace, OpeningLast, ClosingAlone, Misplaced}
use Rattle.stim_lexer.specs.Cut.{Cut}
use Rattle.stim_lexer.specs.Fitting.{IsTurns, ReadingAccords, ReadingFits}
use Rattle.stim_lexer.specs.Instructions.{Instruction}
use Rattle.stim_lexer.specs.Texts.{Closes, Refuses}
use Rattle.stim_lexer.proofs.QuestionLemmas.{NoneApplies, none_applies, none_behind, not_deep, not_zero}
use Rattle.stim_parser.specs.declared.table.Causes.{Causes}
use Rattle.stim_parser.specs.declared.table.Keyword.{Keyword}
use Rattle.stim_parser.specs.declared.table.Keyword.TheVariants.{Does, Repeats}
use Rattle.stim_parser.specs.Arguments.{arguments_in}
use Rattle.stim_parser.specs.Taken.{IsAsTaken}
use Rattle.stim_parser.specs.Judging.{Table, accepted, judged, misplaces_brace, read_targets, reading_of, refusal_of, refusals_of_name, said_by, unless_refused}
use Rattle.stim_parser.specs.private.Questions.{refusals_of_keyword}

-- an instruction fits where no question of its line applies
abbrev pub TakesFitting : {O T F : Type 0} → Table O T F → (Instruction O T → Type 0) → Type 0
TakesFitting {O} table Fits =
    (depth number : ℕ) (operation : O) (cut : Cut) → table.keyword_named cut.name ≡ Some (Does operation)
    → NoneApplies (refusals_of_keyword table depth (Does operation) cut) → ReadingFits Fits depth (accepted table number (Some (Does operation)) cut)

-- what holds then in every format
pub taken : {O T F : Type 0} (table : Table O T F) (depth number : ℕ) (operation : O) (cut : Cut) → NoneApplies (refusals_of_keyword table depth (Does operation) cut)
    → IsAsTaken table (record { line = number; operation = operation; arguments = arguments_in cut.arguments; targets = read_targets table (table.target_form (Does operation)) cut.targets })
taken table depth number operation cut h =
    record {
      arguments = (or_parts _ _ h.0).1;
      probability = h.1.0;
      arguments_within = (or_parts _ _ h.1.1.1.0).0;
      targets = not-false _ (or_parts _ _ h.1.1.0).1;
      targets_within = (or_parts _ _ h.1.1.1.0).1;
    }

-- turns fit that are some, by targets of which none is beyond its limit
abbrev pub OpensFitting : {O T F : Type 0} → Table O T F → (ℕ → Type 0) → Type 0
OpensFitting {O} {T} table TurnsFit =
    (targets : List T) → table.has_target_beyond (table.target_form Repeats) targets ≡ false → 0 < table.turns_of targets → TurnsFit (table.turns_of targets)

named_fits : {O T F : Type 0} (table : Table O T F) (Fits : Instruction O T → Type 0) (TurnsFit : ℕ → Type 0) → TakesFitting table Fits → OpensFitting table TurnsFit → (depth number : ℕ) (named : Option (Keyword O)) (cut : Cut) → table.keyword_named cut.name ≡ named
    → NoneApplies (refusals_of_name table depth named cut) → ReadingAccords Fits TurnsFit depth (accepted table number named cut)
named_fits table Fits TurnsFit fits opens depth number None cut e h = absurd (true≢false h.0)
named_fits table Fits TurnsFit fits opens depth number (Some (Does operation)) cut e h = fits depth number operation cut e h
named_fits table Fits TurnsFit fits opens depth number (Some Repeats) cut e h =
    let block = none_behind (table.refusals_of_targets (table.target_form Repeats) cut.targets (read_targets table (table.target_form Repeats) cut.targets)) _ h.1.1.1.1 in
    (opens _ (or_parts _ _ h.1.1.1.0).1 (not_zero _ block.0), not_deep _ block.1.0)

unless_fits : {O T F : Type 0} (table : Table O T F) (Fits : Instruction O T → Type 0) (TurnsFit : ℕ → Type 0) → TakesFitting table Fits → OpensFitting table TurnsFit → (depth number : ℕ) (cut : Cut) (refusal : Option Cause) → refusal ≡ refusal_of table depth cut
    → ReadingAccords Fits TurnsFit depth (unless_refused refusal (accepted table number (table.keyword_named cut.name) cut))
unfolding refusal_of
unless_fits table Fits TurnsFit fits opens depth number cut (Some c) h = tt
unless_fits table Fits TurnsFit fits opens depth number cut None h =
    named_fits table Fits TurnsFit fits opens depth number (table.keyword_named cut.name) cut refl (none_applies ((misplaces_brace (table.keyword_named cut.name) cut.braces, table.causes.block) ∷ refusals_of_name table depth (table.keyword_named cut.name) cut) (sym h)).1

judged_fits : {O T F : Type 0} (table : Table O T F) (Fits : Instruction O T → Type 0) (TurnsFit : ℕ → Type 0) → TakesFitting table Fits → OpensFitting table TurnsFit → (depth number : ℕ) (cut : Cut) → ReadingAccords Fits TurnsFit depth (judged table depth number cut)
unfolding judged
judged_fits table Fits TurnsFit fits opens depth number cut = unless_fits table Fits TurnsFit fits opens depth number cut (refusal_of table depth cut) refl

closed_fits : {I : Type 0} (Fits : I → Type 0) (TurnsFit : ℕ → Type 0) (causes : Causes) (depth : ℕ) → ReadingAccords Fits TurnsFit depth (if depth == 0 then Refuses causes.block else Closes)
closed_fits Fits TurnsFit causes depth =
    elim (cases_Bool (depth == 0)) [
      | inl e ↦ rw e tt
      | inr e ↦ let some : 0 < depth = not_zero depth e in rw e some
    ]

said_fits : {O T F : Type 0} (table : Table O T F) (Fits : Instruction O T → Type 0) (TurnsFit : ℕ → Type 0) → TakesFitting table Fits → OpensFitting table TurnsFit → (braces : Braces) (depth number : ℕ) (cut : Cut) → ReadingAccords Fits TurnsFit depth (said_by table braces depth number cut)
said_fits table Fits TurnsFit fits opens ClosingAlone depth number cut = closed_fits Fits TurnsFit table.causes depth
said_fits table Fits TurnsFit fits opens NoBrace depth number cut = judged_fits table Fits TurnsFit fits opens depth number cut
said_fits table Fits TurnsFit fits opens OpeningLast depth number cut = judged_fits table Fits TurnsFit fits opens depth number cut
said_fits table Fits TurnsFit fits opens Misplaced depth number cut = judged_fits table Fits TurnsFit fits opens depth number cut

pub readings_accord : {O T F : Type 0} (table : Table O T F) (Fits : Instruction O T → Type 0) (TurnsFit : ℕ → Type 0) → TakesFitting table Fits → OpensFitting table TurnsFit → (depth number : ℕ) (cut : Cut) → ReadingAccords Fits TurnsFit depth (reading_of table depth number cut)
unfolding reading_of
readings_accord table Fits TurnsFit fits opens depth number cut = said_fits table Fits TurnsFit fits opens cut.braces depth number cut

-- turns are at most the greatest number
pub readings_fit : {O T F : Type 0} (table : Table O T F) (Fits : Instruction O T → Type 0) → TakesFitting table Fits → OpensFitting table IsTurns → (depth number : ℕ) (cut : Cut) → ReadingFits Fits depth (reading_of table depth number cut)
readings_fit table Fits fits opens depth number cut = readings_accord table Fits IsTurns fits opens depth number cut
