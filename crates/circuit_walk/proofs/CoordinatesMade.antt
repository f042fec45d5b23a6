-- The coordinates of a circuit's detectors: each detector has its own, they are few to each, and within a limit that the
-- circuit's steps set, since each shift is a step.
use Rattle.std.proofs.Common.{◌≡◌, ◌≤◌, ◌<◌, ◌+◌, ◌*◌, ℕ, zero, suc, ℤ, ◌+ℤ◌, List, [], ◌∷◌, length, map, refl, ap, arith, length-append}
use Rattle.std.specs.Prelude.{All, nat_abs, ◌^◌}
use Rattle.std.proofs.lemmas.Int.{ints}
use Rattle.std.proofs.lemmas.List.{length-map}
use Rattle.std.proofs.lemmas.List.Elements.{All-append, All-cons, All-head, All-nil, All-tail, All-weaker}
use Rattle.step_model.specs.WellFormed.{CoordinatesFit}
use Rattle.stim_parser.specs.declared.operation.Operation.{Operation}
use Rattle.stim_parser.specs.declared.operation.Operation.TheVariants.{DetectorDeclaration, CoordinateShift}
use Rattle.stim_parser.specs.declared.target.Target.{Target}
use Rattle.stim_parser.specs.Numbers.{whole_value}
use Rattle.stim_parser.specs.Offsets.{moved, shifted}
use Rattle.stim_parser.specs.Trees.{Tree}
use Rattle.stim_parser.specs.Verdicts.{Instruction}
use Rattle.stim_parser.proofs.CoordinateArguments.{AreUpTo, HasCoordinates, has_coordinates, most}
use Rattle.stim_lexer.specs.Reached.{copies, reached, total}
use Rattle.stim_lexer.specs.Trees.{Nothing, Then, Block}
use Rattle.circuit_walk.specs.Before.{Before}
use Rattle.circuit_walk.specs.Meaning.{after, made_of}
use Rattle.circuit_walk.specs.TargetsMade.{offset_after, operation_coordinates, operation_detectors}
use Rattle.circuit_walk.specs.Totals.{step_total}
use Rattle.circuit_walk.proofs.CircuitInstructions.{EachFits}

-- ---- each detector has its coordinates

operation_given : (r : ℕ) (offset : List ℤ) (o : Operation) (arguments : List (List ℕ)) (ts : List Target) → length (operation_coordinates offset o arguments) ≡ length (operation_detectors r o ts)
operation_given r offset DetectorDeclaration arguments ts = refl
operation_given r offset o arguments ts = refl

pub coordinates_given : (n : ℕ) (b : Before) (is : List Instruction) → length (made_of n (λ b i. operation_coordinates b.offset i.operation i.arguments) b is) ≡ length (made_of n (λ b i. operation_detectors b.records i.operation i.targets) b is)
unfolding made_of
coordinates_given n b [] = refl
coordinates_given n b (i ∷ is) =
    let coordinates = made_of n (λ b i. operation_coordinates b.offset i.operation i.arguments) (after n b i) is in
    let detectors = made_of n (λ b i. operation_detectors b.records i.operation i.targets) (after n b i) is in
    omega (arith, length-append (operation_coordinates b.offset i.operation i.arguments) coordinates, length-append (operation_detectors b.records i.operation i.targets) detectors, operation_given b.records b.offset i.operation i.arguments i.targets, coordinates_given n (after n b i) is)

-- ---- how many instructions are reached

length-copies : (n : ℕ) (is : List Instruction) → length (copies n is) ≡ n * length is
length-copies zero is = omega arith
length-copies (suc n) is = omega (arith, length-append is (copies n is), length-copies n is)

more_turns : (n a b : ℕ) → a ≤ b → n * a ≤ n * (1 + b)
more_turns zero a b h = omega arith
more_turns (suc n) a b h =
    let rest = more_turns n a b h in
    omega (arith, h, rest)

pub few_reached : (t : Tree) → length (reached t) ≤ step_total t
unfolding total
few_reached Nothing = omega arith
few_reached (Then i rest) = omega (arith, few_reached rest)
few_reached (Block line turns body rest) =
    let here = more_turns turns (length (reached body)) (step_total body) (few_reached body) in
    let count = length-append (copies turns (reached body)) (reached rest) in
    omega (arith, count, length-copies turns (reached body), here, few_reached rest)

-- ---- offsets

abbrev IsUpTo : ℕ → ℤ → Type 0
IsUpTo n z = nat_abs z ≤ n

sum_up_to : (a b : ℤ) (n : ℕ) → nat_abs a ≤ n → nat_abs b ≤ most → nat_abs (a +ℤ b) ≤ n + most
sum_up_to a b n h k = omega (arith, ints, h, k)

pub wider : (m n : ℕ) (zs : List ℤ) → m ≤ n → AreUpTo m zs → AreUpTo n zs
wider m n zs le h = All-weaker (IsUpTo m) (IsUpTo n) (λ z k. omega (arith, k, le)) zs h

shifted_up_to : (n : ℕ) (o s : List ℤ) → AreUpTo n o → AreUpTo most s → AreUpTo (n + most) (shifted o s)
shifted_up_to n [] s h k = wider most (n + most) s (omega arith) k
shifted_up_to n (a ∷ o) [] h k = wider n (n + most) (a ∷ o) (omega arith) h
shifted_up_to n (a ∷ o) (b ∷ s) h k =
    All-cons (IsUpTo (n + most)) (a +ℤ b) (shifted o s)
    (sum_up_to a b n (All-head (IsUpTo n) a o h) (All-head (IsUpTo most) b s k))
    (shifted_up_to n o s (All-tail (IsUpTo n) a o h) (All-tail (IsUpTo most) b s k))

moved_up_to : (n : ℕ) (o s : List ℤ) → AreUpTo n o → AreUpTo most s → AreUpTo (n + most) (moved o s)
moved_up_to n [] [] h k = All-nil (IsUpTo (n + most))
moved_up_to n [] (b ∷ s) h k = wider most (n + most) (b ∷ s) (omega arith) k
moved_up_to n (a ∷ o) [] h k = All-nil (IsUpTo (n + most))
moved_up_to n (a ∷ o) (b ∷ s) h k =
    All-cons (IsUpTo (n + most)) (a +ℤ b) (moved o s)
    (sum_up_to a b n (All-head (IsUpTo n) a o h) (All-head (IsUpTo most) b s k))
    (moved_up_to n o s (All-tail (IsUpTo n) a o h) (All-tail (IsUpTo most) b s k))

length-moved : (o s : List ℤ) → length (moved o s) ≡ length s
length-moved [] [] = refl
length-moved [] (b ∷ s) = refl
length-moved (a ∷ o) [] = refl
length-moved (a ∷ o) (b ∷ s) = ap suc (length-moved o s)

pub offset_up_to : (n : ℕ) (o : List ℤ) (op : Operation) (arguments : List (List ℕ)) → HasCoordinates op arguments → AreUpTo n o → AreUpTo (n + most) (offset_after o op arguments)
offset_up_to n o CoordinateShift arguments has h = shifted_up_to n o (map whole_value arguments) h has.within
offset_up_to n o op arguments has h = wider n (n + most) o (omega arith) h

-- ---- detectors

-- at most sixteen coordinates of magnitudes up to a number
record ArePlaced (n : ℕ) (zs : List ℤ) : Type 0 where
  pub few : length zs ≤ 16
  pub within : AreUpTo n zs

placed_here : (n limit : ℕ) (o : List ℤ) (op : Operation) (arguments : List (List ℕ)) → HasCoordinates op arguments → AreUpTo n o → n + most ≤ limit → All (ArePlaced limit) (operation_coordinates o op arguments)
placed_here n limit o DetectorDeclaration arguments has h le =
    let s = map whole_value arguments in
    All-cons (ArePlaced limit) (moved o s) []
    (record {
      few = omega (arith, length-moved o s, length-map arguments whole_value, has.few);
      within = wider (n + most) limit (moved o s) le (moved_up_to n o s h has.within);
    })
    (All-nil (ArePlaced limit))
placed_here n limit o op arguments has h le = All-nil (ArePlaced limit)

all_placed : (n m limit : ℕ) (b : Before) (is : List Instruction) → EachFits n is → AreUpTo m b.offset → m + most * length is ≤ limit → All (ArePlaced limit) (made_of n (λ b i. operation_coordinates b.offset i.operation i.arguments) b is)
unfolding made_of
all_placed n m limit b [] fit h le = All-nil (ArePlaced limit)
all_placed n m limit b (i ∷ is) fit h le =
    let has = has_coordinates i fit.0.fits in
    All-append (ArePlaced limit) (operation_coordinates b.offset i.operation i.arguments) (made_of n (λ b i. operation_coordinates b.offset i.operation i.arguments) (after n b i) is)
    (placed_here m limit b.offset i.operation i.arguments has h (omega (arith, le)))
    (all_placed n (m + most) limit (after n b i) is fit.1 (offset_up_to m b.offset i.operation i.arguments has h) (omega (arith, le)))

fits_placed : (zs : List ℤ) → ArePlaced 64_000_000_000_000_000 zs → CoordinatesFit zs
fits_placed zs h =
    record {
      few = h.few;
      within = All-weaker (IsUpTo 64_000_000_000_000_000) (λ z. nat_abs z < 10 ^ 18) (λ z k. omega (arith, k)) zs h.within;
    }

pub coordinates_fit : (n : ℕ) (b : Before) (t : Tree) → b.offset ≡ [] → EachFits n (reached t) → step_total t ≤ 64_000_000 → All CoordinatesFit (made_of n (λ b i. operation_coordinates b.offset i.operation i.arguments) b (reached t))
coordinates_fit n b t none fit few =
    let count = few_reached t in
    All-weaker (ArePlaced 64_000_000_000_000_000) CoordinatesFit fits_placed (made_of n (λ b i. operation_coordinates b.offset i.operation i.arguments) b (reached t))
    (all_placed n 0 64_000_000_000_000_000 b (reached t) fit (rw none (All-nil (IsUpTo 0))) (omega (arith, count, few)))
