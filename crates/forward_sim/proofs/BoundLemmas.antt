-- The bounds of a program's faults, one after another.
use Rattle.std.proofs.Common.{◌≡◌, ℕ, ◌+◌, ◌-◌, ◌<◌, List, [], ◌∷◌, ◌++◌, length, take, get_or, sym, ap₂, ◌∙◌, arith}
use Rattle.std.proofs.lemmas.List.{take_more, get_or-map, length-map, take_all}
use Rattle.step_model.specs.Listing.{Listing, ListedFault, fault_at, no_effect}
use Rattle.forward_sim.specs.Drawn.{bounds_of}

abbrev bound_in : ListedFault → ℕ
bound_in fault = fault.bound

pub bound_at : (program : Listing) (f : ℕ) → f < length program.faults → get_or (bounds_of program) f 0 ≡ (fault_at program f).bound
bound_at program f below = get_or-map bound_in program.faults f no_effect 0 below

-- those of the first faults and of one more
pub bounds_more : (program : Listing) (bounds : List ℕ) (f bound : ℕ) → f < length program.faults → bound ≡ (fault_at program f).bound → bounds ≡ take f (bounds_of program) → bounds ++ bound ∷ [] ≡ take (f + 1) (bounds_of program)
bounds_more program bounds f bound below here so_far =
    let within : f < length (bounds_of program) = omega (arith, below, length-map program.faults bound_in) in
    ap₂ (λ front last. front ++ last ∷ []) so_far (here ∙ sym (bound_at program f below))
    ∙ sym (take_more (bounds_of program) f 0 within)

-- all of them
pub bounds_all : (program : Listing) (f : ℕ) → length program.faults - f ≡ 0 → take f (bounds_of program) ≡ bounds_of program
bounds_all program f none = take_all f (bounds_of program) (omega (arith, none, length-map program.faults bound_in))
