-- Parts of the list of a line's questions, as the judge of lines asks them one after another. (This project's own.)
use Rattle.std.specs.Prelude.{◌≡◌, ℕ, ◌==◌, nat_le, Bool, true, false, not, ◌&&◌, ◌||◌, List, [], ◌∷◌, ◌++◌, Option, None, Some, Result, MatchOption, MatchResult, is_none, unwrap_or}
use Rattle.step_model.specs.declared.fault.Cause.{Cause}
use Rattle.stim_lexer.specs.Cut.{Cut}
use Rattle.stim_lexer.specs.Trees.{deepest}
use Rattle.stim_parser.specs.declared.forms.ArgumentForm.{ArgumentForm}
use Rattle.stim_parser.specs.declared.forms.ArgumentForm.TheVariants.{WholeNumbers}
use Rattle.stim_parser.specs.declared.table.Causes.{Causes}
use Rattle.stim_parser.specs.declared.table.Keyword.{Keyword}
use Rattle.stim_parser.specs.Arguments.{arguments_in}
use Rattle.stim_parser.specs.Judging.{Table, first_of, opens_block, refusals_of_name}
use Rattle.stim_parser.specs.Limits.{has_wrong_arguments, has_wrong_probability, has_argument_beyond}

-- the questions of a line with this keyword
abbrev pub refusals_of_keyword : {O T F : Type 0} → Table O T F → ℕ → Keyword O → Cut → List (Bool × Cause)
refusals_of_keyword table depth keyword cut = refusals_of_name table depth (Some keyword) cut

-- the questions of the arguments' number and form
abbrev pub refusals_of_arguments : Causes → ArgumentForm → Cut → List (Bool × Cause)
refusals_of_arguments causes form cut =
    (cut.stays_open || has_wrong_arguments form (arguments_in cut.arguments), causes.arguments)
    ∷ (has_wrong_probability form (arguments_in cut.arguments), causes.probability)
    ∷ []

-- of a line's arguments: whether one is beyond its limit, where they are of their number and form, or their refusal
abbrev pub ArgumentsOf : Causes → ℕ → ArgumentForm → Cut → Result Bool Cause → Type 0
ArgumentsOf causes greatest form cut result =
    MatchResult result
    (λ beyond.
    (beyond ≡ has_argument_beyond greatest form (arguments_in cut.arguments))
    × (first_of (refusals_of_arguments causes form cut) ≡ None))
    (λ refused. first_of (refusals_of_arguments causes form cut) ≡ Some refused)

-- of whole numbers that are arguments: whether one is beyond the greatest, where they are of their number and form
abbrev pub AreWholeNumbers : ℕ → List ℕ → Option Bool → Type 0
AreWholeNumbers greatest text result =
    MatchOption result
    (has_wrong_arguments WholeNumbers (arguments_in text) ≡ true)
    (λ beyond.
    (beyond ≡ has_argument_beyond greatest WholeNumbers (arguments_in text))
    × (has_wrong_arguments WholeNumbers (arguments_in text) ≡ false))

-- the questions of a block, by how often it is repeated
abbrev pub refusals_of_block : {O : Type 0} → Causes → ℕ → Keyword O → ℕ → List (Bool × Cause)
refusals_of_block causes depth keyword turns =
    (opens_block keyword && turns == 0, causes.repeat_zero)
    ∷ (opens_block keyword && nat_le deepest depth, causes.depth)
    ∷ []

-- the questions of the targets that were found in a text, where they could be read, and of the block; `beyond` says whether an
-- argument is beyond its limit
abbrev pub refusals_of_read : {O T F : Type 0} → Table O T F → ℕ → Keyword O → Bool → F → List ℕ → Option (List T) → List (Bool × Cause)
refusals_of_read table depth keyword beyond form text found =
    let targets = unwrap_or found [] in
    (is_none found || not (table.are_of_form form targets), table.causes.target)
    ∷ (beyond || table.has_target_beyond form targets, table.causes.number)
    ∷ (table.refusals_of_targets form text targets ++ refusals_of_block table.causes depth keyword (table.turns_of targets))
