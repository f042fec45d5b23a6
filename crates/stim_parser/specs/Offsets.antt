-- Shifts of coordinates, axis by axis. An axis that no shift names is not moved, and one that isn't stated stays left
-- out. (Stim's gate reference, github.com/quantumlib/Stim, doc/gates.md, "SHIFT_COORDS"; its detector error model format,
-- "shift_detectors".)
use Rattle.std.specs.Prelude.{ℤ, ◌+ℤ◌, List, [], ◌∷◌}

-- an offset with a shift added
abbrev pub shifted : List ℤ → List ℤ → List ℤ
shifted [] shift = shift
shifted offset [] = offset
shifted (o ∷ offset) (s ∷ shift) = (o +ℤ s) ∷ shifted offset shift

-- coordinates that are stated, with the offset added
abbrev pub moved : List ℤ → List ℤ → List ℤ
moved offset [] = []
moved [] stated = stated
moved (o ∷ offset) (c ∷ stated) = (o +ℤ c) ∷ moved offset stated
