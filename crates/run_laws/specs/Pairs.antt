-- A target that has a place is random: the coin pair of its place gives it different parities, since from the place on
-- the two runs differ by the frame begun there. Without a place it isn't. (Knill, Quantum computing with realistically
-- noisy devices, Nature 434, 39 (2005): Pauli frames; Stim's circuit format, DETECTOR and OBSERVABLE_INCLUDE.)
use Rattle.std.specs.Prelude.{◌≡◌, ◌≢◌, ◌↔◌, ℕ, Some}
use Rattle.step_model.specs.declared.step.Place.{Place}
use Rattle.step_model.specs.Frames.{zero_coins, pair_coins}
use Rattle.step_model.specs.Listing.{Listing}
use Rattle.step_model.specs.Sensitivities.{place_of}
use Rattle.step_model.specs.Targets.{AreCoins, IsRandom, noiseless_parity}
use Rattle.step_model.specs.WellFormed.{IsWellFormed}

-- the coin pair of a target's place: each list has a coin for each collapse, and they give the target different
-- parities in runs without faults
pub record Disagrees (program : Listing) (d : ℕ) (place : Place) : Type 0 where
  pub first : AreCoins program (zero_coins program)
  pub second : AreCoins program (pair_coins program place)
  pub parities : noiseless_parity program (zero_coins program) d ≢ noiseless_parity program (pair_coins program place) d

-- the coin pair of every target with a place gives it different parities
abbrev pub PairLaw : Type 0
PairLaw = (program : Listing) (d : ℕ) (place : Place) → IsWellFormed program → place_of program d ≡ Some place → Disagrees program d place

-- a target with a place is random
abbrev pub PlaceLaw : Type 0
PlaceLaw = (program : Listing) (d : ℕ) (place : Place) → IsWellFormed program → place_of program d ≡ Some place → IsRandom program d

-- a target is random exactly where it has a place
abbrev pub RandomLaw : Type 0
RandomLaw = (program : Listing) (d : ℕ) → IsWellFormed program → IsRandom program d ↔ (place : Place) × (place_of program d ≡ Some place)
