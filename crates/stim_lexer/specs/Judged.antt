-- What a text is judged to be: a text that writes a tree, or a text that is refused.
use Rattle.std.specs.Prelude.{◌≡◌, ℕ, List, [], ◌∷◌, Option, None, Some, Ok, Err}
use Rattle.step_model.specs.declared.fault.Fault.{Fault}
use Rattle.step_model.specs.declared.fault.Cause.{Cause}
use Rattle.stim_lexer.specs.Trees.{Tree, items_of}
use Rattle.stim_lexer.specs.Texts.{Format, items_in, refused}

-- the refusal of a text that leaves blocks open
abbrev pub left_open : Cause → List ℕ → Option Fault
left_open c [] = None
left_open c (line ∷ opened) = Some (refused c line)

-- a text writes this tree; a text is refused by this fault
abbrev pub Writes : {I : Type 0} → Format I → List ℕ → Tree I → Type 0
Writes format text tree = items_in format text ≡ Ok (items_of tree)

abbrev pub IsRefusedBy : {I : Type 0} → Format I → List ℕ → Fault → Type 0
IsRefusedBy format text fault = items_in format text ≡ Err fault
