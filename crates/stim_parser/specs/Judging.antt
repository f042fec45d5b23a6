-- What a cut line says where `depth` blocks are open, or why it is refused, by the table of its format. A line of `}` alone
-- closes a block. Any other is asked these questions in their order, and the first that applies is its refusal:
--     block: `}` alone with no open block; a line that opens a block whose one brace isn't a `{` at its end; any other brace.
--     of the name, by the table: the name is empty or no keyword's.
--     arguments: a tag or parentheses stay open; a wrong number of arguments; an empty one; one of another form.
--     probability: the argument isn't a probability that is accepted.
--     target: a target that can't be read, or of another form than the keyword takes.
--     number: a number beyond its limit.
--     of the targets, by the table: what else is wrong with them.
--     repeat_zero: a block repeated zero times.
--     depth: a block inside as many as may be open.
-- (The causes and their order are this project's.)
use Rattle.std.specs.Prelude.{ℕ, ◌==◌, nat_le, Bool, true, false, not, ◌&&◌, ◌||◌, if◌then◌else◌, List, [], ◌∷◌, ◌++◌, find, Option, None, Some, option_map, is_none, unwrap_or}
use Rattle.step_model.specs.declared.fault.Cause.{Cause}
use Rattle.stim_lexer.specs.declared.line.Braces.{Braces}
use Rattle.stim_lexer.specs.declared.line.Braces.TheVariants.{NoBrace, OpeningLast, ClosingAlone}
use Rattle.stim_lexer.specs.Cut.{Cut}
use Rattle.stim_lexer.specs.Trees.{deepest}
use Rattle.stim_lexer.specs.Instructions.{Instruction}
use Rattle.stim_lexer.specs.Texts.{Format, Reading, Accepts, Opens, Closes, Refuses}
use Rattle.stim_parser.specs.declared.forms.ArgumentForm.{ArgumentForm}
use Rattle.stim_parser.specs.declared.table.Causes.{Causes}
use Rattle.stim_parser.specs.declared.table.Keyword.{Keyword}
use Rattle.stim_parser.specs.declared.table.Keyword.TheVariants.{Does, Repeats}
use Rattle.stim_parser.specs.Arguments.{arguments_in}
use Rattle.stim_parser.specs.Limits.{has_wrong_arguments, has_wrong_probability, has_argument_beyond}

-- what a format says of its lines: what a name names, and why a name is refused that names nothing; which arguments a
-- keyword takes, and the greatest magnitude of a coordinate among them; the form of the targets that a keyword takes, by
-- which are told the targets of a line, where each can be read, whether they are of the form, whether one is beyond its
-- limit, and what else is asked of them; how often a block is repeated, by the targets of its line; and the causes of
-- refusals
pub record Table (O T F : Type 0) : Type 0 where
  pub keyword_named : List ℕ → Option (Keyword O)
  pub refusal_of_name : List ℕ → Cause
  pub argument_form : Keyword O → ArgumentForm
  pub greatest_coordinate : ℕ
  pub target_form : Keyword O → F
  pub line_targets : F → List ℕ → Option (List T)
  pub are_of_form : F → List T → Bool
  pub has_target_beyond : F → List T → Bool
  pub refusals_of_targets : F → List ℕ → List T → List (Bool × Cause)
  pub turns_of : List T → ℕ
  pub causes : Causes

-- the cause of the first question that applies
abbrev pub first_of : List (Bool × Cause) → Option Cause
first_of asked = option_map (λ question. question.1) (find (λ question. question.0) asked)

-- ---- braces

-- a line that opens a block has one brace, at its end; another line has none
abbrev pub misplaces_brace : {O : Type 0} → Option (Keyword O) → Braces → Bool
misplaces_brace (Some Repeats) OpeningLast = false
misplaces_brace (Some Repeats) braces = true
misplaces_brace keyword NoBrace = false
misplaces_brace keyword braces = true

-- ---- the questions in their order

-- the targets of a line, of this form
abbrev pub read_targets : {O T F : Type 0} → Table O T F → F → List ℕ → List T
read_targets table form text = unwrap_or (table.line_targets form text) []

-- whether a keyword opens a block
abbrev pub opens_block : {O : Type 0} → Keyword O → Bool
opens_block Repeats = true
opens_block keyword = false

-- the questions of a line behind its braces, by what its name names
abbrev pub refusals_of_name : {O T F : Type 0} → Table O T F → ℕ → Option (Keyword O) → Cut → List (Bool × Cause)
refusals_of_name table depth None cut = (true, table.refusal_of_name cut.name) ∷ []
refusals_of_name table depth (Some keyword) cut =
    let asked = table.argument_form keyword in
    let arguments = arguments_in cut.arguments in
    let form = table.target_form keyword in
    let targets = read_targets table form cut.targets in
    (cut.stays_open || has_wrong_arguments asked arguments, table.causes.arguments)
    ∷ (has_wrong_probability asked arguments, table.causes.probability)
    ∷ (is_none (table.line_targets form cut.targets) || not (table.are_of_form form targets), table.causes.target)
    ∷ (has_argument_beyond table.greatest_coordinate asked arguments || table.has_target_beyond form targets, table.causes.number)
    ∷ (table.refusals_of_targets form cut.targets targets
    ++ (opens_block keyword && table.turns_of targets == 0, table.causes.repeat_zero)
    ∷ (opens_block keyword && nat_le deepest depth, table.causes.depth)
    ∷ [])

-- the refusal of a line where `depth` blocks are open
unfoldable pub refusal_of : {O T F : Type 0} → Table O T F → ℕ → Cut → Option Cause
refusal_of table depth cut =
    let named = table.keyword_named cut.name in
    first_of ((misplaces_brace named cut.braces, table.causes.block) ∷ refusals_of_name table depth named cut)

-- ---- what a line says

-- what an accepted line says
abbrev pub accepted : {O T F : Type 0} → Table O T F → ℕ → Option (Keyword O) → Cut → Reading (Instruction O T)
accepted table number None cut = Refuses (table.refusal_of_name cut.name)
accepted table number (Some Repeats) cut = Opens (table.turns_of (read_targets table (table.target_form Repeats) cut.targets))
accepted table number (Some (Does operation)) cut =
    let targets = read_targets table (table.target_form (Does operation)) cut.targets in
    Accepts (record { line = number; operation = operation; arguments = arguments_in cut.arguments; targets = targets })

-- what a line says, where it isn't refused
abbrev pub unless_refused : {I : Type 0} → Option Cause → Reading I → Reading I
unless_refused None reading = reading
unless_refused (Some c) reading = Refuses c

-- what a line that doesn't close a block says
unfoldable pub judged : {O T F : Type 0} → Table O T F → ℕ → ℕ → Cut → Reading (Instruction O T)
judged table depth number cut =
    unless_refused (refusal_of table depth cut) (accepted table number (table.keyword_named cut.name) cut)

-- what the cut line of this number says where `depth` blocks are open
abbrev pub said_by : {O T F : Type 0} → Table O T F → Braces → ℕ → ℕ → Cut → Reading (Instruction O T)
said_by table ClosingAlone depth number cut = if depth == 0 then Refuses table.causes.block else Closes
said_by table braces depth number cut = judged table depth number cut

-- what a cut line says
unfoldable pub reading_of : {O T F : Type 0} → Table O T F → ℕ → ℕ → Cut → Reading (Instruction O T)
reading_of table depth number cut = said_by table cut.braces depth number cut

-- the texts of the lines that a table judges
abbrev pub format_of : {O T F : Type 0} → Table O T F → Format (Instruction O T)
format_of table = record { reading_of = reading_of table; left_open = table.causes.block }
