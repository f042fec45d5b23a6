-- What is known of each instruction that is reached in a circuit that isn't refused, beside what came before it: it fits, it
-- reaches no record before the first, and no more records came before it than there are. What instructions make holds
-- where it holds of what each one makes.
use Rattle.std.proofs.Common.{◌≡◌, ℕ, ◌+◌, ◌≤◌, Bool, true, false, if◌then◌else◌, List, [], ◌∷◌, ◌++◌, length, length-append, None, refl, ap, ◌∙◌, arith}
use Rattle.std.specs.Prelude.{⊤, All, slice_get}
use Rattle.std.specs.List.{flat_map}
use Rattle.std.proofs.lemmas.List.Concat.{flat_map-append}
use Rattle.std.proofs.lemmas.List.Elements.{All-append, All-nil}
use Rattle.step_model.specs.Listing.{step_records}
use Rattle.stim_parser.specs.Verdicts.{Instruction}
use Rattle.circuit_walk.specs.Before.{Before}
use Rattle.circuit_walk.specs.Meaning.{after, made_of, new_records, new_steps}
use Rattle.circuit_walk.specs.Refusals.{reaches_far}
use Rattle.circuit_walk.proofs.CircuitInstructions.{EachFits, FitsOn}

pub record IsSound (n total : ℕ) (b : Before) (i : Instruction) : Type 0 where
  pub fits_on : FitsOn n i
  pub near : reaches_far b.records i.targets ≡ false
  pub below : b.records ≤ total

-- so are instructions, one after another
abbrev pub AreSound : ℕ → ℕ → Before → List Instruction → Type 0
AreSound n total b [] = ⊤
AreSound n total b (i ∷ is) = IsSound n total b i × AreSound n total (after n b i) is

-- the line of an instruction that reaches too far
abbrev far_lines : Before → Instruction → List ℕ
far_lines b i = if reaches_far b.records i.targets then i.line ∷ [] else []

none_far : (far : Bool) (line : ℕ) (rest : List ℕ) → slice_get ((if far then line ∷ [] else []) ++ rest) 0 ≡ None → (far ≡ false) × (slice_get rest 0 ≡ None)
none_far true line rest h = absurd cc
none_far false line rest h = (refl, h)

-- how many records instructions make
abbrev pub records_ahead : ℕ → Before → List Instruction → ℕ
records_ahead n b is = length (flat_map step_records (made_of n (new_steps n) b is))

records_ahead-next : (n : ℕ) (b : Before) (i : Instruction) (is : List Instruction) → records_ahead n b (i ∷ is) ≡ length (new_records n b i) + records_ahead n (after n b i) is
unfolding made_of
records_ahead-next n b i is =
    let later = made_of n (new_steps n) (after n b i) is in
    ap (λ (rs : List ℕ). length rs) (flat_map-append step_records (new_steps n b i) later)
    ∙ length-append (new_records n b i) (flat_map step_records later)

pub are_sound : (n total : ℕ) (b : Before) (is : List Instruction) → EachFits n is → slice_get (made_of n far_lines b is) 0 ≡ None → b.records + records_ahead n b is ≤ total → AreSound n total b is
unfolding made_of
are_sound n total b [] fit near le = tt
are_sound n total b (i ∷ is) fit near le =
    let parts = none_far (reaches_far b.records i.targets) i.line (made_of n far_lines (after n b i) is) near in
    let ahead = records_ahead-next n b i is in (
      record { fits_on = fit.0; near = parts.0; below = omega (arith, le) },
      are_sound n total (after n b i) is fit.1 parts.1 (omega (arith, le, ahead)),
    )

pub all_made : {X : Type 0} (P : X → Type 0) (n total : ℕ) (make : Before → Instruction → List X) → ((b : Before) (i : Instruction) → IsSound n total b i → All P (make b i)) → (b : Before) (is : List Instruction) → AreSound n total b is → All P (made_of n make b is)
unfolding made_of
all_made P n total make each b [] h = All-nil P
all_made P n total make each b (i ∷ is) h =
    All-append P (make b i) (made_of n make (after n b i) is) (each b i h.0) (all_made P n total make each (after n b i) is h.1)
