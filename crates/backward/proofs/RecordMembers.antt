-- The targets in the set of a record.
use Rattle.std.proofs.Common.{◌≡◌, ℕ, ◌<◌, Bool, List, [], length, get_or, Option, None, Some, subst, arith}
use Rattle.std.specs.Prelude.{All, IfSome}
use Rattle.std.specs.List.Sorted.{IsStrictlyIncreasing}
use Rattle.circuit_walk.specs.Programs.{KeptProgram}
use Rattle.circuit_walk.specs.Named.{IsRecord}
use Rattle.step_model.specs.TargetSets.{members}
use Rattle.step_model.proofs.MemberLemmas.{members_ascend, members_within}
use Rattle.backward.specs.private.Collapses.{members_at}

pub members_at-ascend : (sets : List (List Bool)) (rec : Option ℕ) → IsStrictlyIncreasing (members_at sets rec)
members_at-ascend sets None = λ k lt. absurd (omega (arith, lt))
members_at-ascend sets (Some r) = members_ascend (get_or sets r [])

pub members_at-within : (sets : List (List Bool)) (rec : Option ℕ) (m : ℕ) → IfSome rec (λ r. r < length sets) → All (λ set. length set ≡ m) sets → All (λ t. t < m) (members_at sets rec)
members_at-within sets None m within long = λ k d lt. absurd (omega (arith, lt))
members_at-within sets (Some r) m within long =
    subst (λ n. All (λ t. t < n) (members (get_or sets r []))) (long r [] within) (members_within (get_or sets r []))

pub record_has_set : (rec : Option ℕ) (records count : ℕ) → count ≡ records → IfSome rec (λ r. r < records) → IfSome rec (λ r. r < count)
record_has_set None records count e h = h
record_has_set (Some r) records count e h = omega (arith, e, h)

pub record_named : (program : KeptProgram) (rec : Option ℕ) → IsRecord program rec → IfSome rec (λ r. r < program.listing.records)
record_named program None h = tt
record_named program (Some r) h = h
