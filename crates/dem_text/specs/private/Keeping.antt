-- Lines that are kept: the items that they say, and what is known of each instruction among these.
use Rattle.std.specs.Prelude.{⊤, ◌≡◌, ◌⊎◌, ℕ, ℤ, false, true, List, [], ◌∷◌, Option, None}
use Rattle.step_model.specs.declared.fault.Cause.{Cause}
use Rattle.stim_lexer.specs.FirstLines.{IsFirstLine}
use Rattle.stim_lexer.specs.Lines.{says_nothing}
use Rattle.stim_lexer.specs.Texts.{line_reading}
use Rattle.stim_lexer.specs.Trees.{InstructionLine, BlockStart, BlockEnd}
use Rattle.stim_lexer.specs.Unfinished.{Unfinished, after_line, cause_in}
use Rattle.dem_text.specs.declared.brief.Brief.{Brief}
use Rattle.dem_text.specs.declared.kept.Keeping.{Keeping}
use Rattle.dem_text.specs.Texts.{Item, models}
use Rattle.dem_text.specs.Verdicts.{Instruction}
use Rattle.dem_text.specs.private.Briefs.{IsBrief}

-- this is known of an item, where it is an instruction
abbrev pub IsItemKept : Item → Brief → List ℤ → Type 0
IsItemKept (InstructionLine i) brief stated = IsBrief i brief stated
IsItemKept (BlockStart line iterations) brief stated = ⊤
IsItemKept BlockEnd brief stated = ⊤

-- the same of items
abbrev pub AreKept : List Item → List Brief → List (List ℤ) → Type 0
AreKept [] [] [] = ⊤
AreKept (item ∷ items) (brief ∷ briefs) (numbers ∷ stated) = IsItemKept item brief numbers × AreKept items briefs stated
AreKept items briefs stated = ⊥

-- the same of lines that are read one after another
abbrev pub IsKeeping : {A : Type 0} → Keeping A → Type 0
IsKeeping k = AreKept k.builder.text.items k.briefs.items k.stated

-- the line of a number says nothing, and nothing changed; or it is refused for this cause, or its item is added
pub record HasSpoken (number : ℕ) (line : List ℕ) (refused : Option Cause) (u u' : Unfinished Instruction) : Type 0 where
  pub speaks : says_nothing line ≡ false
  pub refused_is : refused ≡ cause_in (line_reading models u.opened number line)
  pub after_is : u' ≡ after_line number (line_reading models u.opened number line) u

abbrev pub KeepsLine : ℕ → List ℕ → Option Cause → Unfinished Instruction → Unfinished Instruction → Type 0
KeepsLine number line refused u u' =
    ((says_nothing line ≡ true) × (refused ≡ None) × (u' ≡ u)) ⊎ HasSpoken number line refused u u'

-- the same of the first line of a text, behind which this follows
pub record KeepsFirst (number : ℕ) (text after : List ℕ) (refused : Option Cause) (u u' : Unfinished Instruction) : Type 0 where
  pub line : List ℕ
  pub first : IsFirstLine text line after
  pub keeps : KeepsLine number line refused u u'
