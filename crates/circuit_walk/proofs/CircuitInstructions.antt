-- The instructions of a circuit, each time that they are reached: each one fits, and its qubits are the circuit's.
use Rattle.std.proofs.Common.{◌≡◌, ℕ, zero, suc, ◌≤◌, List, [], ◌∷◌, ◌++◌, arith}
use Rattle.std.specs.Prelude.{⊤, max}
use Rattle.stim_parser.specs.Circuits.{AllFit, Fits, IsCircuit}
use Rattle.stim_parser.specs.Trees.{Tree}
use Rattle.stim_lexer.specs.Reached.{copies, greatest_by, instructions_of, reached}
use Rattle.stim_lexer.specs.Trees.{Nothing, Then, Block}
use Rattle.stim_parser.specs.Verdicts.{Instruction}
use Rattle.circuit_walk.specs.Totals.{qubit_total}
use Rattle.circuit_walk.proofs.TargetQubits.{qubits_named}

-- an instruction fits, on so many qubits
pub record FitsOn (n : ℕ) (i : Instruction) : Type 0 where
  pub fits : Fits i
  pub within : qubits_named i.targets ≤ n

-- so does each of these
abbrev pub EachFits : ℕ → List Instruction → Type 0
EachFits n [] = ⊤
EachFits n (i ∷ is) = FitsOn n i × EachFits n is

each-append : (n : ℕ) (is js : List Instruction) → EachFits n is → EachFits n js → EachFits n (is ++ js)
each-append n [] js h k = k
each-append n (i ∷ is) js h k = (h.0, each-append n is js h.1 k)

each-copies : (n turns : ℕ) (is : List Instruction) → EachFits n is → EachFits n (copies turns is)
each-copies n zero is h = tt
each-copies n (suc turns) is h = each-append n is (copies turns is) h (each-copies n turns is h)

-- the greatest of a list is that of its parts
pub greatest-append : (count : Instruction → ℕ) (is js : List Instruction) → greatest_by count (is ++ js) ≡ max (greatest_by count is) (greatest_by count js)
greatest-append count [] js = omega arith
greatest-append count (i ∷ is) js = omega (arith, greatest-append count is js)

fits_on : (n : ℕ) (t : Tree) → AllFit t → greatest_by (λ i. qubits_named i.targets) (instructions_of t) ≤ n → EachFits n (reached t)
fits_on n Nothing h le = tt
fits_on n (Then i rest) h le = (record { fits = h.0; within = omega (arith, le) }, fits_on n rest h.1 (omega (arith, le)))
fits_on n (Block line turns body rest) h le =
    let both = greatest-append (λ i. qubits_named i.targets) (instructions_of body) (instructions_of rest) in
    each-append n (copies turns (reached body)) (reached rest)
    (each-copies n turns (reached body) (fits_on n body h.1 (omega (arith, le, both))))
    (fits_on n rest h.2 (omega (arith, le, both)))

pub circuit_fits : (t : Tree) → IsCircuit t → EachFits (qubit_total t) (reached t)
circuit_fits t circuit = fits_on (qubit_total t) t circuit.fit (omega arith)
