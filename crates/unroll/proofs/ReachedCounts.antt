-- Counts summed over the instructions that are reached; and no more observables than may be, where no line names one beyond
-- the limit.
use Rattle.std.proofs.Common.{◌≡◌, ℕ, zero, suc, ◌+◌, ◌*◌, ◌≤◌, List, [], ◌∷◌, None, refl, ap, ap₂, ◌∙◌, arith}
use Rattle.std.specs.Prelude.{nat_lt}
use Rattle.std.specs.List.{sum_by}
use Rattle.std.proofs.lemmas.Bool.{ltb-false}
use Rattle.std.proofs.lemmas.List.Sums.{sum_by-append, sum_by-cons}
use Rattle.stim_parser.specs.Trees.{Tree}
use Rattle.stim_lexer.specs.Trees.{Nothing, Then, Block}
use Rattle.stim_parser.specs.Verdicts.{Instruction}
use Rattle.stim_lexer.specs.Reached.{copies, reached, instructions_of, total}
use Rattle.circuit_walk.specs.Refusals.{first_observable_beyond, most_observables}
use Rattle.circuit_walk.specs.Totals.{observable_total, observables_to}
use Rattle.unroll.specs.private.MadeTotals.{observables_over}
use Rattle.unroll.proofs.RefusalLemmas.{not_first}

-- ---- a count summed over the instructions that are reached

pub sum-copies : (f : Instruction → ℕ) (n : ℕ) (is : List Instruction) → sum_by f (copies n is) ≡ n * sum_by f is
sum-copies f zero is = omega arith
sum-copies f (suc n) is = omega (arith, sum_by-append f is (copies n is), sum-copies f n is)

pub sum-reached : (f : Instruction → ℕ) (t : Tree) → sum_by f (reached t) ≡ total 0 f t
unfolding total
sum-reached f Nothing = refl
sum-reached f (Then i rest) = omega (arith, sum_by-cons f i (reached rest), sum-reached f rest)
sum-reached f (Block line turns body rest) =
    let turn : sum_by f (reached body) ≡ 0 + total 0 f body = omega (arith, sum-reached f body) in
    sum_by-append f (copies turns (reached body)) (reached rest)
    ∙ ap₂ (λ m n. m + n) (sum-copies f turns (reached body) ∙ ap (λ n. turns * n) turn) (sum-reached f rest)

-- ---- observables

observables-over : (is : List Instruction) → first_observable_beyond is ≡ None → observables_over is ≤ 1024
unfolding first_observable_beyond
observables-over [] h = omega arith
observables-over (i ∷ is) h =
    let n = observables_to i.operation i.arguments in
    let parts = not_first (nat_lt most_observables n) i.line (first_observable_beyond is) h in
    omega (arith, ltb-false most_observables n parts.0, observables-over is parts.1)

pub observables_few : (t : Tree) → first_observable_beyond (instructions_of t) ≡ None → observable_total t ≤ 1024
observables_few t h = observables-over (instructions_of t) h
