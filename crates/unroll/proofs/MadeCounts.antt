-- What instructions make, one after another, and how many records come before those that follow.
use Rattle.std.proofs.Common.{◌≡◌, ℕ, ◌+◌, List, [], ◌∷◌, ◌++◌, refl, sym, ap, ◌∙◌, append_assoc, arith}
use Rattle.std.specs.List.{sum_by}
use Rattle.std.proofs.lemmas.List.Sums.{sum_by-cons}
use Rattle.stim_parser.specs.Verdicts.{Instruction}
use Rattle.circuit_walk.specs.Before.{Before}
use Rattle.circuit_walk.specs.Meaning.{after, made_of}
use Rattle.unroll.specs.private.MadeTotals.{record_count}
use Rattle.unroll.proofs.ListedTotals.{new_records-made}

pub after-records : (n : ℕ) (b : Before) (i : Instruction) → (after n b i).records ≡ b.records + record_count i
after-records n b i = ap (λ k. b.records + k) (new_records-made n b i)

-- what came before the instruction after these
abbrev pub after_all : ℕ → Before → List Instruction → Before
after_all n b [] = b
after_all n b (i ∷ is) = after_all n (after n b i) is

pub made_of-append : {X : Type 0} (n : ℕ) (make : Before → Instruction → List X) (b : Before) (is js : List Instruction) → made_of n make b (is ++ js) ≡ made_of n make b is ++ made_of n make (after_all n b is) js
unfolding made_of
made_of-append n make b [] js = refl
made_of-append n make b (i ∷ is) js =
    ap (λ xs. make b i ++ xs) (made_of-append n make (after n b i) is js)
    ∙ sym (append_assoc (make b i) (made_of n make (after n b i) is) (made_of n make (after_all n (after n b i) is) js))

pub after_all-records : (n : ℕ) (b : Before) (is : List Instruction) → (after_all n b is).records ≡ b.records + sum_by record_count is
after_all-records n b [] = omega arith
after_all-records n b (i ∷ is) =
    omega (arith, after_all-records n (after n b i) is, after-records n b i, sum_by-cons record_count i is)
