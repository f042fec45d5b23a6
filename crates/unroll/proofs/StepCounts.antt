-- No circuit makes more steps, or more faults, than it counts as.
use Rattle.std.proofs.Common.{ℕ, ◌+◌, ◌/◌, ◌≤◌, Bool, true, false, arith}
use Rattle.std.specs.Prelude.{if◌then◌else◌, ◌==◌}
use Rattle.std.proofs.lemmas.Nat.{mul-le}
use Rattle.gate_table.specs.Images.{arity_of}
use Rattle.stim_lexer.specs.Reached.{total}
use Rattle.stim_lexer.specs.Trees.{Nothing, Then, Block}
use Rattle.stim_parser.specs.declared.operation.Operation.{Operation}
use Rattle.stim_parser.specs.declared.operation.Operation.TheVariants.{Applies, Measurement, PauliError, CorrelatedError}
use Rattle.stim_parser.specs.Trees.{Tree}
use Rattle.stim_parser.specs.Verdicts.{Instruction}
use Rattle.circuit_walk.specs.Totals.{step_total, target_count}
use Rattle.unroll.specs.private.MadeTotals.{fault_count, fault_total, faults_counted, has_argument, made_count, made_total, records_made, step_count, steps_made}

-- ---- no more steps and faults of a program than an instruction counts as

few-gates : (alone : Bool) (n : ℕ) → (if alone then n else n / 2) ≤ 1 + n
few-gates true n = omega arith
few-gates false n = omega arith

few-steps : (o : Operation) (n : ℕ) → steps_made o n ≤ 1 + n
few-steps (Applies g) n = few-gates (arity_of g == 1) n
few-steps o n = omega arith

pub few-made : (i : Instruction) → made_count i ≤ step_count i
few-made i = few-steps i.operation (target_count i.operation i.targets)

few-flips : (flips : Bool) (m n : ℕ) → m ≤ n → (if flips then m else 0) ≤ 1 + n
few-flips true m n h = omega (arith, h)
few-flips false m n h = omega arith

few-records : (o : Operation) (n : ℕ) → records_made o n ≤ n
few-records (Measurement l) n = omega arith
few-records o n = omega arith

few-faults : (o : Operation) (flips : Bool) (n : ℕ) → faults_counted o flips n ≤ 1 + n
few-faults (PauliError l) flips n = omega arith
few-faults CorrelatedError flips n = omega arith
few-faults o flips n = few-flips flips (records_made o n) n (few-records o n)

pub few-faulty : (i : Instruction) → fault_count i ≤ step_count i
few-faulty i = few-faults i.operation (has_argument i) (target_count i.operation i.targets)

-- ---- no more steps and faults than a circuit counts as

pub few-tree : (count : Instruction → ℕ) → ((i : Instruction) → count i ≤ step_count i) → (t : Tree) → total 0 count t ≤ total 1 step_count t
unfolding total
few-tree count h Nothing = omega arith
few-tree count h (Then i rest) = omega (arith, h i, few-tree count h rest)
few-tree count h (Block line turns body rest) =
    let turn : 0 + total 0 count body ≤ 1 + total 1 step_count body = omega (arith, few-tree count h body) in
    let all = mul-le turns (0 + total 0 count body) turns (1 + total 1 step_count body) (omega arith) turn in
    omega (arith, all, few-tree count h rest)

pub made_few : (t : Tree) → made_total t ≤ step_total t
made_few t = few-tree made_count few-made t

pub faults_few : (t : Tree) → fault_total t ≤ step_total t
faults_few t = few-tree fault_count few-faulty t
