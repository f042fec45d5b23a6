-- A pass over a circuit's items in their order is a pass over its tree.
use Rattle.std.proofs.Common.{ℕ, List}
use Rattle.stim_lexer.specs.declared.blocks.OpenBlock.{OpenBlock}
use Rattle.stim_lexer.proofs.PassLemmas as pass_lemmas
use Rattle.stim_lexer.specs.Passes.{Pass}
pub use Rattle.stim_lexer.proofs.PassLemmas.{drop_got, passing-first, passing-can, passing-next, passing-done}
use Rattle.stim_parser.specs.Circuits.{Fits}
use Rattle.stim_parser.specs.Trees.{Tree}
use Rattle.stim_parser.specs.Verdicts.{Instruction}

-- behind so many items of a tree, with these blocks open, the outermost first
abbrev pub IsPassing : {S : Type 0} → Pass Instruction S → Tree → S → ℕ → S → List (OpenBlock S) → Type 0
IsPassing pass t start i s blocks = pass_lemmas.IsPassing Fits pass t start i s blocks
