-- The probabilities of a text's instructions, by their numbers among the texts that are kept of them. Each instruction has a
-- mark, which is the number of its probability where all numbers fit 32 bits.
use Rattle.std.specs.Prelude.{◌≡◌, ◌<◌, ◌≤◌, ◌+◌, ◌^◌, ⊤, ℕ, true, if◌then◌else◌, List, [], ◌∷◌, length, Option, None, Some, option_map, false}
use Rattle.step_model.specs.Probabilities.{probability_bound}
use Rattle.step_model.specs.declared.chances.ChanceText.{ChanceText}
use Rattle.step_model.specs.Chances.{Chance, chance_at}
use Rattle.stim_lexer.specs.declared.said.Said.{Said}
use Rattle.stim_lexer.specs.declared.said.Said.TheVariants as said
use Rattle.stim_lexer.specs.Arguments.{arguments_in}
use Rattle.stim_lexer.specs.Instructions.{Instruction}
use Rattle.stim_lexer.specs.Marked.{Begun, Marked}
use Rattle.stim_lexer.specs.Trees.{Item, InstructionLine, BlockStart, BlockEnd}
use Rattle.stim_parser.specs.declared.table.Keyword.TheVariants as keyword
use Rattle.stim_parser.specs.Judging.{Table}
use Rattle.stim_parser.specs.Limits.{takes_probability, has_wrong_arguments, has_wrong_probability}
use Rattle.stim_parser.specs.Parentheses.{Parentheses}
use Rattle.stim_parser.specs.declared.forms.ArgumentForm.{ArgumentForm}

-- the first of some arguments and its bound, where it is a probability
abbrev pub chance_in : List (List ℕ) → Option Chance
chance_in [] = None
chance_in (text ∷ arguments) = option_map (λ b. record { text = text; bound = b }) (probability_bound text)

-- the probability of an operation with these arguments
abbrev pub chance_taken : {O T F : Type 0} → Table O T F → O → List (List ℕ) → Option Chance
chance_taken table operation arguments =
    if takes_probability (table.argument_form (keyword.Does operation)) then chance_in arguments else None

-- a mark is the number of a probability, where there is one
abbrev pub Marks : List ChanceText → Option Chance → ℕ → Type 0
Marks texts None mark = ⊤
Marks texts (Some chance) mark = length texts ≤ 2 ^ 32 → (mark < length texts) × (chance_at texts mark ≡ chance)

abbrev pub IsMarked : {O T F : Type 0} → Table O T F → List ChanceText → Item (Instruction O T) → ℕ → Type 0
IsMarked table texts (InstructionLine i) mark = Marks texts (chance_taken table i.operation i.arguments) mark
IsMarked table texts (BlockStart line turns) mark = ⊤
IsMarked table texts BlockEnd mark = ⊤

abbrev pub AreMarked : {O T F : Type 0} → Table O T F → List ChanceText → List (Item (Instruction O T)) → List ℕ → Type 0
AreMarked table texts [] [] = ⊤
AreMarked table texts [] (mark ∷ marks) = ⊥
AreMarked table texts (item ∷ items) [] = ⊥
AreMarked table texts (item ∷ items) (mark ∷ marks) = IsMarked table texts item mark × AreMarked table texts items marks

-- how many of the items are instructions
abbrev pub instruction_count : {I : Type 0} → List (Item I) → ℕ
instruction_count [] = 0
instruction_count (InstructionLine i ∷ items) = 1 + instruction_count items
instruction_count (BlockStart line turns ∷ items) = instruction_count items
instruction_count (BlockEnd ∷ items) = instruction_count items

-- the marks of items are numbers of these texts, of which there are no more than instructions
pub record Keeps {O T F : Type 0} (table : Table O T F) (texts : List ChanceText) (read : Marked (Instruction O T)) : Type 0 where
  pub marked : AreMarked table texts read.items read.marks
  pub few : length texts ≤ instruction_count read.items

-- the items of a text that is read line by line
abbrev pub marked_in : {I T : Type 0} → Begun I T → Marked I
marked_in begun = record { items = begun.text.items; marks = begun.marks }

-- ---- a line

-- what stood between the last parentheses is this text, where a probability is asked of it
abbrev pub RemembersText : ArgumentForm → List ℕ → Parentheses → Type 0
RemembersText form text last = takes_probability form ≡ true → last.text ≡ text

-- it is what an accepted line with a probability has there
abbrev pub Remembers : {O T F : Type 0} → Table O T F → Said O → Parentheses → Type 0
Remembers table (said.Accepts operation arguments) last =
    RemembersText (table.argument_form (keyword.Does operation)) arguments.now last
Remembers table said last = ⊤

abbrev pub TakesNothing : {O : Type 0} → Said O → Type 0
TakesNothing (said.Accepts operation arguments) = ⊥
TakesNothing said = ⊤

-- how many instructions a line has
abbrev pub taken_count : {O : Type 0} → Said O → ℕ
taken_count (said.Accepts operation arguments) = 1
taken_count said = 0

-- a mark of what a line says
abbrev pub SaidMarked : {O T F : Type 0} → Table O T F → List ChanceText → Said O → ℕ → Type 0
SaidMarked table texts (said.Accepts operation arguments) mark =
    Marks texts (chance_taken table operation (arguments_in arguments.now)) mark
SaidMarked table texts said mark = ⊤

-- these arguments have to be probabilities, and nothing is wrong with them
abbrev pub AreProbabilities : ArgumentForm → List (List ℕ) → Type 0
AreProbabilities form arguments =
    (takes_probability form ≡ true) × (has_wrong_arguments form arguments ≡ false) × (has_wrong_probability form arguments ≡ false)
