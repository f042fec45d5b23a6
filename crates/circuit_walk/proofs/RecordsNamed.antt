-- Where no line reaches back before the first record, detectors and observables name records that there are.
use Rattle.std.proofs.Common.{◌≡◌, ℕ, ◌-◌, ◌<◌, ◌≤◌, Bool, true, false, if◌then◌else◌, List, [], ◌∷◌, map, arith}
use Rattle.std.specs.Prelude.{All}
use Rattle.std.specs.List.{list_all, range_with_len}
use Rattle.std.proofs.lemmas.List.Elements.{All-cons, All-map, All-nil}
use Rattle.stim_parser.specs.declared.operation.Operation.{Operation}
use Rattle.stim_parser.specs.declared.operation.Operation.TheVariants.{DetectorDeclaration, ObservableInclude}
use Rattle.stim_parser.specs.declared.target.Target.{Target}
use Rattle.stim_parser.specs.declared.target.Target.TheVariants.{Back}
use Rattle.stim_parser.specs.Circuits.{Fits}
use Rattle.stim_parser.specs.Limits.{are_of_form, is_back}
use Rattle.stim_parser.specs.Verdicts.{Instruction}
use Rattle.circuit_walk.specs.Before.{Before}
use Rattle.circuit_walk.specs.Meaning.{made_of}
use Rattle.circuit_walk.specs.TargetsMade.{adds_to, operation_adds, operation_detectors, records_named}
use Rattle.circuit_walk.proofs.FeedbackEarlier.{AreThere, are_there}
use Rattle.circuit_walk.proofs.SoundInstructions.{AreSound, IsSound, all_made}

-- records of which there are so many
abbrev AreBelow : ℕ → List ℕ → Type 0
AreBelow n records = All (λ r. r < n) records

named_below : (r n : ℕ) (ts : List Target) → list_all is_back ts ≡ true → AreThere r ts → r ≤ n → AreBelow n (records_named r ts)
named_below r n [] h there le = All-nil (λ m. m < n)
named_below r n (Back k ∷ ts) h there le =
    let below : r - k < n = omega (arith, there.0.0, there.0.1, le) in
    All-cons (λ m. m < n) (r - k) (records_named r ts) below (named_below r n ts h there.1 le)
named_below r n (t ∷ ts) h there le = absurd cc

detectors_below : (r n line : ℕ) (o : Operation) (arguments : List (List ℕ)) (ts : List Target) → Fits (record { line = line; operation = o; arguments = arguments; targets = ts }) → AreThere r ts → r ≤ n → All (AreBelow n) (operation_detectors r o ts)
unfolding are_of_form
detectors_below r n line DetectorDeclaration arguments ts fits there le =
    All-cons (AreBelow n) (records_named r ts) [] (named_below r n ts fits.targets there le) (All-nil (AreBelow n))
detectors_below r n line o arguments ts fits there le = All-nil (AreBelow n)

below_if : (n : ℕ) (b : Bool) (records : List ℕ) → AreBelow n records → AreBelow n (if b then records else [])
below_if n true records h = h
below_if n false records h = All-nil (λ m. m < n)

adds_below : (r n k line : ℕ) (o : Operation) (arguments : List (List ℕ)) (ts : List Target) → Fits (record { line = line; operation = o; arguments = arguments; targets = ts }) → AreThere r ts → r ≤ n → AreBelow n (operation_adds k r o arguments ts)
unfolding are_of_form
adds_below r n k line ObservableInclude arguments ts fits there le =
    below_if n (adds_to k ObservableInclude arguments) (records_named r ts) (named_below r n ts fits.targets there le)
adds_below r n k line o arguments ts fits there le = All-nil (λ m. m < n)

there_for : (n total : ℕ) (b : Before) (i : Instruction) → IsSound n total b i → AreThere b.records i.targets
there_for n total b i h = are_there b.records i.targets h.fits_on.fits.targets_written h.near

pub detectors_fit : (n total : ℕ) (b : Before) (is : List Instruction) → AreSound n total b is → All (All (λ r. r < total)) (made_of n (λ b i. operation_detectors b.records i.operation i.targets) b is)
detectors_fit n total b is h =
    all_made (AreBelow total) n total (λ b i. operation_detectors b.records i.operation i.targets)
    (λ b i sound. detectors_below b.records total i.line i.operation i.arguments i.targets sound.fits_on.fits (there_for n total b i sound) sound.below)
    b is h

observable_fits : (n total k : ℕ) (b : Before) (is : List Instruction) → AreSound n total b is → AreBelow total (made_of n (λ b i. operation_adds k b.records i.operation i.arguments i.targets) b is)
observable_fits n total k b is h =
    all_made (λ r. r < total) n total (λ b i. operation_adds k b.records i.operation i.arguments i.targets)
    (λ b i sound. adds_below b.records total k i.line i.operation i.arguments i.targets sound.fits_on.fits (there_for n total b i sound) sound.below)
    b is h

pub observables_fit : (n total count : ℕ) (b : Before) (is : List Instruction) → AreSound n total b is → All (All (λ r. r < total)) (map (λ k. made_of n (λ b i. operation_adds k b.records i.operation i.arguments i.targets) b is) (range_with_len 0 count))
observables_fit n total count b is h =
    All-map (AreBelow total) (λ k. made_of n (λ b i. operation_adds k b.records i.operation i.arguments i.targets) b is) (range_with_len 0 count)
    (λ j d lt. observable_fits n total _ b is h)
