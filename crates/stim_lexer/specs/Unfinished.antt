-- A text that is read line by line: the items so far, and the lines of the open blocks. A line that isn't refused adds its
-- item.
use Rattle.std.specs.Prelude.{ℕ, List, [], ◌∷◌, ◌++◌, length, Option, None, Some, refl}
use Rattle.std.specs.Coded.{Coded, code_by, coded×, coded_ℕ, coded_list}
use Rattle.step_model.specs.declared.fault.Cause.{Cause}
use Rattle.stim_lexer.specs.Cut.{Cut}
use Rattle.stim_lexer.specs.Stored.{coded_items}
use Rattle.stim_lexer.specs.Texts.{Format, Reading, Accepts, Opens, Closes, Refuses, open_after}
use Rattle.stim_lexer.specs.Trees.{Item, InstructionLine, BlockStart, BlockEnd}

-- the items so far, and the lines of the open blocks, the innermost first
pub record Unfinished (I : Type 0) : Type 0 where
  pub items : List (Item I)
  pub opened : List ℕ

abbrev pub coded_unfinished : {I : Type 0} → Coded I → Coded (Unfinished I)
coded_unfinished {I} instruction =
    code_by (List (Item I) × List ℕ) (coded× (coded_items instruction) (coded_list coded_ℕ)) (λ u. (u.items, u.opened))
    (λ p. record { items = p.0; opened = p.1 })
    (λ _. refl)

-- the state after a line that says this
abbrev pub reading_at : {I : Type 0} → Format I → Unfinished I → ℕ → Cut → Reading I
reading_at format u number cut = format.reading_of (length u.opened) number cut

abbrev pub cause_in : {I : Type 0} → Reading I → Option Cause
cause_in (Refuses c) = Some c
cause_in reading = None

-- the item of a line that isn't refused
abbrev pub line_items : {I : Type 0} → ℕ → Reading I → List (Item I)
line_items number (Accepts i) = InstructionLine i ∷ []
line_items number (Opens turns) = BlockStart number turns ∷ []
line_items number Closes = BlockEnd ∷ []
line_items number (Refuses c) = []

abbrev pub after_line : {I : Type 0} → ℕ → Reading I → Unfinished I → Unfinished I
after_line number reading u =
    record { items = u.items ++ line_items number reading; opened = open_after number reading u.opened }
