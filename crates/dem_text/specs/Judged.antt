-- What the text of an error model is judged to be: a text that writes a tree, or a text that is refused.
use Rattle.std.specs.Prelude.{ℕ, List}
use Rattle.step_model.specs.declared.fault.Fault.{Fault}
use Rattle.stim_lexer.specs.Judged as judged
use Rattle.dem_text.specs.Texts.{models}
use Rattle.dem_text.specs.Trees.{Tree}

-- a text writes this tree; a text is refused by this fault
abbrev pub Writes : List ℕ → Tree → Type 0
Writes bytes tree = judged.Writes models bytes tree

abbrev pub IsRefusedBy : List ℕ → Fault → Type 0
IsRefusedBy bytes fault = judged.IsRefusedBy models bytes fault
