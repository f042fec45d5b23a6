-- The letters that X and Z at each of two qubits become at either before a gate, looked up once. (Sensitivities taken back
-- over a gate: Gidney, Quantum 5, 497 (2021).)
use Rattle.std.specs.Prelude.{◌≡◌}
use Rattle.gate_table.specs.declared.gate.Gate.{Gate}
use Rattle.gate_table.specs.Images.{image2, inverse_of}
use Rattle.pauli_word.specs.declared.letter.Letter.TheVariants.{I, X, Z}
use Rattle.trackers.specs.declared.images.PairImages.{PairImages}

-- these are the images under the gate's inverse
pub record AreBefore (gate : Gate) (images : PairImages) : Type 0 where
  pub first_own : images.first_own ≡ ((image2 (inverse_of gate) X I).0, (image2 (inverse_of gate) Z I).0)
  pub first_other : images.first_other ≡ ((image2 (inverse_of gate) I X).0, (image2 (inverse_of gate) I Z).0)
  pub second_own : images.second_own ≡ ((image2 (inverse_of gate) I X).1, (image2 (inverse_of gate) I Z).1)
  pub second_other : images.second_other ≡ ((image2 (inverse_of gate) X I).1, (image2 (inverse_of gate) Z I).1)
