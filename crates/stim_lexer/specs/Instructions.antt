-- An instruction of a text, as its line says it. (Stim's circuit format, github.com/quantumlib/Stim,
-- doc/file_format_stim_circuit.md, "Syntax".)
use Rattle.std.specs.Prelude.{ℕ, List}

-- the number of its line, what it does, its arguments as they stood, and its targets
pub record Instruction (Operation Target : Type 0) : Type 0 where
  pub line : ℕ
  pub operation : Operation
  pub arguments : List (List ℕ)
  pub targets : List Target
