-- A run in which no fault happens and each coin is 0 has the records of the reference run.
use Rattle.std.proofs.Common.{◌≡◌, ℕ, zero, suc, ◌+◌, Bool, true, false, List, [], ◌∷◌, ◌++◌, length, replicate, length-append, Option, None, Some, refl, ap, ap₂, sym, ◌∙◌}
use Rattle.std.specs.List.{list_any}
use Rattle.std.specs.Prelude.{Ok}
use Rattle.std.proofs.lemmas.List.{length-map}
use Rattle.pauli_word.specs.Parity.{exclusive_or}
use Rattle.pauli_word.specs.States.{applied}
use Rattle.run_laws.proofs.PairRuns.{with_coins}
use Rattle.step_model.specs.Frames.{zero_coins}
use Rattle.step_model.specs.Listing.{Listing, ListedStep, One, Two, Collapse, Fault, Feedback, measured_word, fault_word}
use Rattle.step_model.specs.Runs.{RunState, after_collapse, correction, flip_happens, happens, next, records_of, run_from, start}
use Rattle.step_model.specs.Targets.{difference, differences, parities, parity, targets_of}
use Rattle.frames.specs.Lines.{line_of}
use Rattle.engine.specs.Output.{done, program_output, run_lines}

-- no value is true
abbrev pub IsQuiet : List Bool → Type 0
IsQuiet values = list_any (λ value. value) values ≡ false

none-happens : (faults : List Bool) (f : ℕ) → IsQuiet faults → happens faults f ≡ false
none-happens [] f quiet = refl
none-happens (true ∷ faults) f quiet = cc
none-happens (false ∷ faults) zero quiet = refl
none-happens (false ∷ faults) (suc f) quiet = none-happens faults f quiet

no-flip : (faults : List Bool) (flip : Option ℕ) → IsQuiet faults → flip_happens faults flip ≡ flip_happens [] flip
no-flip faults None quiet = refl
no-flip faults (Some f) quiet = none-happens faults f quiet

same-next : (program : Listing) (faults : List Bool) (step : ListedStep) (m : RunState) → IsQuiet faults → next program faults step m ≡ next program [] step m
same-next program faults (One gate q) m quiet = refl
same-next program faults (Two gate a b) m quiet = refl
same-next program faults (Collapse c None) m quiet = refl
same-next program faults (Collapse c (Some r)) m quiet =
    ap (λ flips. after_collapse (measured_word program.qubits c) (correction program.qubits c) true (exclusive_or r.inverted flips) m)
    (no-flip faults r.flip quiet)
same-next program faults (Fault f) m quiet =
    ap (λ (applies : Bool). let after : RunState = record m { state = applied applies (fault_word program f) m.state } in after) (none-happens faults f quiet)
same-next program faults (Feedback w r) m quiet = refl

same-run : (program : Listing) (faults : List Bool) (steps : List ListedStep) (m : RunState) → IsQuiet faults → run_from program faults steps m ≡ run_from program [] steps m
same-run program faults [] m quiet = refl
same-run program faults (step ∷ steps) m quiet =
    ap (run_from program faults steps) (same-next program faults step m quiet)
    ∙ same-run program faults steps (next program [] step m) quiet

-- coins that are 0 are coins that aren't there
same-records : (program : Listing) (steps : List ListedStep) (coins : List Bool) (m : RunState) → IsQuiet coins
    → (run_from program [] steps (with_coins m coins)).records ≡ (run_from program [] steps (with_coins m [])).records
same-records program [] coins m quiet = refl
same-records program (One gate q ∷ steps) coins m quiet = same-records program steps coins (next program [] (One gate q) m) quiet
same-records program (Two gate a b ∷ steps) coins m quiet = same-records program steps coins (next program [] (Two gate a b) m) quiet
same-records program (Collapse c r ∷ steps) [] m quiet = refl
same-records program (Collapse c r ∷ steps) (true ∷ coins) m quiet = cc
same-records program (Collapse c r ∷ steps) (false ∷ coins) m quiet = same-records program steps coins (next program [] (Collapse c r) (with_coins m [])) quiet
same-records program (Fault f ∷ steps) coins m quiet = same-records program steps coins (next program [] (Fault f) m) quiet
same-records program (Feedback w r ∷ steps) coins m quiet = same-records program steps coins (next program [] (Feedback w r) m) quiet

pub zeros-quiet : (count : ℕ) → IsQuiet (replicate count false)
zeros-quiet zero = refl
zeros-quiet (suc count) = zeros-quiet count

pub quiet_records : (program : Listing) (faults coins : List Bool) → IsQuiet faults → IsQuiet coins → records_of program faults coins ≡ records_of program [] (zero_coins program)
quiet_records program faults coins no_fault no_coin =
    ap (λ (m : RunState). m.records) (same-run program faults program.steps (start coins) no_fault)
    ∙ same-records program program.steps coins (start []) no_coin
    ∙ sym (same-records program program.steps (zero_coins program) (start []) (zeros-quiet program.collapses))

no_difference : (values : List Bool) → differences values values ≡ replicate (length values) false
no_difference [] = refl
no_difference (true ∷ values) = ap (λ (rest : List Bool). false ∷ rest) (no_difference values)
no_difference (false ∷ values) = ap (λ (rest : List Bool). false ∷ rest) (no_difference values)

-- no target differs between a run and itself
no_events : (program : Listing) (records : List Bool)
    → difference program records records ≡ replicate (length program.detectors + length program.observables) false
no_events program records =
    no_difference (parities program records)
    ∙ ap (λ count. replicate count false) (length-map (targets_of program) (λ named. parity named records) ∙ length-append program.detectors program.observables)

-- so its lines are those of the reference run with no events
pub quiet_lines : (program : Listing) (faults coins reference : List Bool) (targets : ℕ) → IsQuiet faults → IsQuiet coins → reference ≡ records_of program [] (zero_coins program) → targets ≡ length program.detectors + length program.observables
    → line_of reference ++ line_of (replicate targets false) ≡ run_lines program faults coins
quiet_lines program faults coins reference targets no_fault no_coin is count =
    ap (λ (events : List Bool). line_of reference ++ line_of events) (ap (λ n. replicate n false) count ∙ sym (no_events program reference))
    ∙ ap₂ (λ records other. line_of records ++ line_of (difference program records other))
    (is ∙ sym (quiet_records program faults coins no_fault no_coin)) is

-- and where an order names neither coins nor faults it writes these
pub unasked_output : (program : Listing) (coins : Option (List ℕ)) (faults lines : List ℕ) → coins ≡ None → faults ≡ [] → lines ≡ run_lines program [] (zero_coins program)
    → program_output coins faults program ≡ Ok (done lines)
unasked_output program None [] lines no_coins no_faults is =
    let n : ℕ = length program.faults in
    let nothing : List Bool = records_of program [] (zero_coins program) in
    let none : run_lines program [] (zero_coins program) ≡ run_lines program (replicate n false) (zero_coins program) =
    sym (quiet_lines program [] (zero_coins program) nothing _ refl (zeros-quiet program.collapses) refl refl) ∙ quiet_lines program (replicate n false) (zero_coins program) nothing _ (zeros-quiet n) (zeros-quiet program.collapses) refl refl in
    ap (λ (text : List ℕ). Ok (done text)) (sym none ∙ sym is)
unasked_output program (Some text) faults lines no_coins no_faults is = cc
unasked_output program None (byte ∷ text) lines no_coins no_faults is = cc

-- the lines of a run without faults whose coins are all 0
pub noiseless_output : (program : Listing) (records : List Bool) (targets : ℕ) (lines : List ℕ) → records ≡ records_of program [] (zero_coins program)
    → targets ≡ length program.detectors + length program.observables
    → lines ≡ line_of records ++ line_of (replicate targets false)
    → program_output None [] program ≡ Ok (done lines)
noiseless_output program records targets lines are count is =
    let zeros = zero_coins program in
    unasked_output program None [] lines refl refl (is ∙ quiet_lines program [] zeros _ targets refl (zeros-quiet program.collapses) are count)
