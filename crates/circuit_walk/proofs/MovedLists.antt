-- What instructions one after another make after more records and faults, and how many steps, records and faults they make,
-- whatever came before them.
use Rattle.std.proofs.Common.{◌≡◌, ℕ, zero, suc, ◌+◌, ◌*◌, false, List, [], ◌∷◌, ◌++◌, length, length-append, map, None, refl, sym, ap, ap₂, subst, ◌∙◌, append_assoc, append-nil, add-mul, arith}
use Rattle.std.specs.Prelude.{⊤}
use Rattle.stim_lexer.specs.Reached.{copies}
use Rattle.stim_parser.specs.Circuits.{Fits}
use Rattle.stim_parser.specs.Trees.{Tree}
use Rattle.stim_parser.specs.Verdicts.{Instruction}
use Rattle.circuit_walk.specs.Before.{Before}
use Rattle.circuit_walk.specs.Makes.{makes_faults, makes_records, one_if}
use Rattle.circuit_walk.specs.Meaning.{after, at_start, made_of, new_steps}
use Rattle.circuit_walk.specs.Refusals.{circuit_refusal, reaches_far}
use Rattle.circuit_walk.specs.Totals.{qubit_total}
use Rattle.circuit_walk.specs.private.InstructionSteps.{has_argument}
use Rattle.circuit_walk.specs.private.Walks.{state_after}
use Rattle.circuit_walk.proofs.CountLemmas.{new_faults-counted, new_records-counted}
use Rattle.circuit_walk.proofs.CourseLemmas.{AllOf, makers_of, near_one}
use Rattle.circuit_walk.proofs.EndLemmas.{ends}
use Rattle.circuit_walk.proofs.MeaningLemmas.{made_of-append, state_after-append}
use Rattle.circuit_walk.proofs.MovedInstructions.{IsLater, mapped-append}

-- ---- instructions that reach no record before the first

abbrev pub AreNear : ℕ → Before → List Instruction → Type 0
AreNear n b [] = ⊤
AreNear n b (i ∷ is) = (reaches_far b.records i.targets ≡ false) × AreNear n (after n b i) is

pub near_behind : (n : ℕ) (b : Before) (is js : List Instruction) → AreNear n b (is ++ js) → AreNear n (state_after n b is) js
near_behind n b [] js h = h
near_behind n b (i ∷ is) js h = near_behind n (after n b i) is js h.1

pub near_first : (n : ℕ) (b : Before) (is js : List Instruction) → AreNear n b (is ++ js) → AreNear n b is
near_first n b [] js h = tt
near_first n b (i ∷ is) js h = (h.0, near_first n (after n b i) is js h.1)

near_from : (tree : Tree) (before is : List Instruction) → circuit_refusal tree ≡ None → before ++ is ≡ makers_of tree → AreNear (qubit_total tree) (state_after (qubit_total tree) at_start before) is
near_from tree before [] accepted whole = tt
near_from tree before (i ∷ is) accepted whole =
    let n = qubit_total tree in (
      near_one tree before i is accepted whole,
      subst (λ (b : Before). AreNear n b is) (state_after-append n at_start before (i ∷ []))
          (near_from tree (before ++ i ∷ []) is accepted (append_assoc before (i ∷ []) is ∙ whole)),
    )

pub makers_near : (tree : Tree) → circuit_refusal tree ≡ None → AreNear (qubit_total tree) at_start (makers_of tree)
makers_near tree accepted = near_from tree [] (makers_of tree) accepted refl

-- ---- instructions that fit

pub fit_behind : (is js : List Instruction) → AllOf (is ++ js) → AllOf js
fit_behind [] js h = h
fit_behind (i ∷ is) js h = fit_behind is js h.1

pub fit_first : (is js : List Instruction) → AllOf (is ++ js) → AllOf is
fit_first [] js h = tt
fit_first (i ∷ is) js h = (h.0, fit_first is js h.1)

-- ---- how many there are, whatever came before

pub as_many : (n : ℕ) (b c : Before) (i : Instruction) → Fits i → length (new_steps n b i) ≡ length (new_steps n c i)
as_many n b c i fits = (ends n c i fits).over _ _ (ends n b i fits).end refl

-- from one place and from another to the places behind the same instructions there are as many records, and as many faults
pub record Grow (b behind c behind_c : Before) : Type 0 where
  pub records : behind.records + c.records ≡ behind_c.records + b.records
  pub faults : behind.faults + c.faults ≡ behind_c.faults + b.faults

grow_one : (n : ℕ) (b c : Before) (i : Instruction) → Fits i → Grow b (after n b i) c (after n c i)
grow_one n b c i fits =
    let many = as_many n b c i fits in
    record {
      records =
          omega (
            arith,
            new_records-counted n b i,
            new_records-counted n c i,
            ap (λ m. m * one_if (makes_records i.operation)) many,
          );
      faults =
          omega (
            arith,
            new_faults-counted n b i,
            new_faults-counted n c i,
            ap (λ m. m * one_if (makes_faults i.operation (has_argument i))) many,
          );
    }

pub grow : (n : ℕ) (b c : Before) (is : List Instruction) → AllOf is → Grow b (state_after n b is) c (state_after n c is)
grow n b c [] fit = record { records = omega arith; faults = omega arith }
grow n b c (i ∷ is) fit =
    let one = grow_one n b c i fit.0 in
    let more = grow n (after n b i) (after n c i) is fit.1 in
    record {
      records = omega (arith, one.records, more.records);
      faults = omega (arith, one.faults, more.faults);
    }

pub step_number : (n : ℕ) (b c : Before) (is : List Instruction) → AllOf is → length (made_of n (new_steps n) b is) ≡ length (made_of n (new_steps n) c is)
unfolding made_of
step_number n b c [] fit = refl
step_number n b c (i ∷ is) fit =
    omega (
      arith,
      length-append (new_steps n b i) (made_of n (new_steps n) (after n b i) is),
      length-append (new_steps n c i) (made_of n (new_steps n) (after n c i) is),
      as_many n b c i fit.0,
      step_number n (after n b i) (after n c i) is fit.1,
    )

-- ---- what they make

later_behind : (n : ℕ) (records faults : ℕ) (b c : Before) (i : Instruction) → Fits i → IsLater records faults b c → IsLater records faults (after n b i) (after n c i)
later_behind n records faults b c i fits is =
    let g = grow_one n b c i fits in
    record {
      records_are = omega (arith, g.records, is.records_are);
      faults_are = omega (arith, g.faults, is.faults_are);
    }

-- where `make` makes the same of one instruction but for a change, it does so of all of them
pub all_moved : {X : Type 0} (n records faults : ℕ) (make : Before → Instruction → List X) (change : X → X) → ((b c : Before) (i : Instruction) → IsLater records faults b c → reaches_far b.records i.targets ≡ false → make c i ≡ map change (make b i)) → (b c : Before) (is : List Instruction) → IsLater records faults b c → AllOf is → AreNear n b is → made_of n make c is ≡ map change (made_of n make b is)
unfolding made_of
all_moved n records faults make change each b c [] later fit near = refl
all_moved {X} n records faults make change each b c (i ∷ is) later fit near =
    ap₂ (λ (xs ys : List X). xs ++ ys) (each b c i later near.0)
    (all_moved n records faults make change each (after n b i) (after n c i) is (later_behind n records faults b c i fit.0 later) fit.1 near.1)
    ∙ sym (mapped-append change (make b i) (made_of n make (after n b i) is))

-- ---- copies

pub copies_turn : {X : Type 0} (count : ℕ) (xs : List X) → copies count xs ++ xs ≡ xs ++ copies count xs
copies_turn zero xs = sym (append-nil xs)
copies_turn {X} (suc count) xs = append_assoc xs (copies count xs) xs ∙ ap (λ (ys : List X). xs ++ ys) (copies_turn count xs)

pub fit_copies : (count : ℕ) (is : List Instruction) → AllOf is → AllOf (copies count is)
fit_copies zero is fit = tt
fit_copies (suc count) is fit = both is (copies count is) fit (fit_copies count is fit)
  where
    both : (is js : List Instruction) → AllOf is → AllOf js → AllOf (is ++ js)
    both [] js h k = k
    both (i ∷ is) js h k = (h.0, both is js h.1 k)

pub copies_number : (n count : ℕ) (b c : Before) (is : List Instruction) → AllOf is → length (made_of n (new_steps n) b (copies count is)) ≡ count * length (made_of n (new_steps n) c is)
unfolding made_of
copies_number n zero b c is fit = omega arith
copies_number n (suc count) b c is fit =
    omega (
      arith,
      ap length (made_of-append n (new_steps n) b is (copies count is)),
      length-append (made_of n (new_steps n) b is) (made_of n (new_steps n) (state_after n b is) (copies count is)),
      step_number n b c is fit,
      copies_number n count (state_after n b is) c is fit,
      add-mul 1 count (length (made_of n (new_steps n) c is)),
    )

-- what came before grows as much with each of them
pub record GrowsTimes (count : ℕ) (b behind c behind_c : Before) : Type 0 where
  pub records : behind.records + count * c.records ≡ b.records + count * behind_c.records
  pub faults : behind.faults + count * c.faults ≡ b.faults + count * behind_c.faults

pub copies_grow : (n count : ℕ) (b c : Before) (is : List Instruction) → AllOf is → GrowsTimes count b (state_after n b (copies count is)) c (state_after n c is)
copies_grow n zero b c is fit = record { records = omega arith; faults = omega arith }
copies_grow n (suc count) b c is fit =
    let one = grow n b c is fit in
    let more = copies_grow n count (state_after n b is) c is fit in
    let all = state_after-append n b is (copies count is) in
    record {
      records =
          omega (
            arith,
            ap (λ (d : Before). d.records) all,
            one.records,
            more.records,
            add-mul 1 count c.records,
            add-mul 1 count (state_after n c is).records,
          );
      faults =
          omega (
            arith,
            ap (λ (d : Before). d.faults) all,
            one.faults,
            more.faults,
            add-mul 1 count c.faults,
            add-mul 1 count (state_after n c is).faults,
          );
    }
