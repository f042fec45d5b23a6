-- Two coin lists under which runs without faults give a target different parities. A coin is the outcome of a collapse
-- (the projective measurement inside a measurement or a reset) where that outcome is random. (Stim's circuit format:
-- detectors that are not deterministic.)
use Rattle.std.specs.Prelude.{◌≢◌, ℕ, Bool, List}
use Rattle.step_model.specs.Listing.{Listing}
use Rattle.step_model.specs.Targets.{AreCoins, noiseless_parity}

pub record PairDiffers (program : Listing) (d : ℕ) (first second : List Bool) : Type 0 where
  pub first_size : AreCoins program first
  pub second_size : AreCoins program second
  pub parities : noiseless_parity program first d ≢ noiseless_parity program second d
