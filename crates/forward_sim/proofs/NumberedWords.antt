-- What is kept of each collapse, by the number of its word.
use Rattle.std.proofs.Common.{◌≡◌, ℕ, suc, ◌<◌, List, [], ◌∷◌, ◌++◌, length, get_or, refl, ap, ap₂, ◌∙◌, arith}
use Rattle.std.specs.List.{All}
use Rattle.std.specs.Prelude.{map}
use Rattle.std.proofs.lemmas.List.{map-append}
use Rattle.std.proofs.lemmas.List.Elements.{All-append, All-cons, All-nil}
use Rattle.forward_sim.specs.References.{entry_of}
use Rattle.forward_sim.specs.private.Kept.{HasAll, entry_with, terms_listed}

-- numbers that have words keep them
pub kept_same : (old new : List (List ℕ)) (numbers : List ℕ) → HasAll old new → All (λ number. number < length old) numbers → map (entry_with new) numbers ≡ map (entry_with old) numbers
kept_same old new [] has inside = refl
kept_same old new (number ∷ numbers) has inside =
    let here : number < length old = inside 0 0 (omega arith) in
    let rest : All (λ n. n < length old) numbers = λ k d below. inside (suc k) d (omega (arith, below)) in
    ap₂ (λ e es. e ∷ es) (ap (λ list. entry_of (terms_listed list)) (has number here).1) (kept_same old new numbers has rest)

pub inside_still : (old new : List (List ℕ)) (numbers : List ℕ) → HasAll old new → All (λ n. n < length old) numbers → All (λ n. n < length new) numbers
inside_still old new numbers has inside k d below = (has (get_or numbers k d) (inside k d below)).0

pub inside_more : (old new : List (List ℕ)) (numbers : List ℕ) (number : ℕ) → HasAll old new → All (λ n. n < length old) numbers → number < length new → All (λ n. n < length new) (numbers ++ number ∷ [])
inside_more old new numbers number has inside within =
    All-append (λ n. n < length new) numbers (number ∷ [])
    (inside_still old new numbers has inside)
    (All-cons (λ n. n < length new) number [] within (All-nil (λ n. n < length new)))

-- one number more
pub kept_more : (old new : List (List ℕ)) (numbers : List ℕ) (number : ℕ) (list : List ℕ) → HasAll old new → All (λ n. n < length old) numbers → get_or new number [] ≡ list
    → map (entry_with new) (numbers ++ number ∷ []) ≡ map (entry_with old) numbers ++ entry_of (terms_listed list) ∷ []
kept_more old new numbers number list has inside is =
    map-append (entry_with new) numbers (number ∷ [])
    ∙ ap₂ (λ es e. es ++ entry_of (terms_listed e) ∷ []) (kept_same old new numbers has inside) is
