-- The instructions of a tree in two orders: once each, as they stand in the text; and as often as they are reached, where
-- a block of n turns is n copies of its body. (Stim's circuit format, github.com/quantumlib/Stim,
-- doc/file_format_stim_circuit.md, "REPEAT blocks"; its detector error model format, "repeat".)
use Rattle.std.specs.Prelude.{ℕ, zero, suc, ◌+◌, ◌*◌, max, List, [], ◌∷◌, ◌++◌}
use Rattle.stim_lexer.specs.Trees.{Tree, Nothing, Then, Block}

-- this many copies of a list, one after another
abbrev pub copies : {X : Type 0} → ℕ → List X → List X
copies zero xs = []
copies (suc n) xs = xs ++ copies n xs

-- each instruction of the text once
abbrev pub instructions_of : {I : Type 0} → Tree I → List I
instructions_of Nothing = []
instructions_of (Then instruction rest) = instruction ∷ instructions_of rest
instructions_of (Block line turns body rest) = instructions_of body ++ instructions_of rest

-- each instruction each time that it is reached
abbrev pub reached : {I : Type 0} → Tree I → List I
reached Nothing = []
reached (Then instruction rest) = instruction ∷ reached rest
reached (Block line turns body rest) = copies turns (reached body) ++ reached rest

-- the sum of a count over the instructions that are reached, with this many more for each turn of a block
unfoldable pub total : {I : Type 0} → ℕ → (I → ℕ) → Tree I → ℕ
total turn count Nothing = 0
total turn count (Then instruction rest) = count instruction + total turn count rest
total turn count (Block line turns body rest) = turns * (turn + total turn count body) + total turn count rest

-- the greatest value of a count over a list, or 0
abbrev pub greatest_by : {X : Type 0} → (X → ℕ) → List X → ℕ
greatest_by count [] = 0
greatest_by count (x ∷ xs) = max (count x) (greatest_by count xs)
