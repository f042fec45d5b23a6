-- What is read is the letters of the row's stabilizer, where one may be replaced.
use Rattle.std.proofs.Common.{◌≡◌, ℕ, Bool, true, false, List, length, Option, ap, subst, sym, ◌∙◌}
use Rattle.std.specs.Prelude.{IfSome}
use Rattle.circuit_walk.specs.Letters.{letters_in}
use Rattle.pauli_word.specs.declared.letter.Letter.{Letter}
use Rattle.pauli_word.specs.States.{State}
use Rattle.pauli_word.specs.Words.{lone_letter}
use Rattle.circuit_walk.specs.Steps.{listed, measured}
use Rattle.step_model.specs.declared.step.Term.{Term}
use Rattle.step_model.specs.Listing.{measured_word, word_of_terms}
use Rattle.tableau.specs.Rows.{stabilizer_at, NamesRandom}
use Rattle.forward_sim.specs.References.{entry_of, IsEntry, IsStepEntry}
use Rattle.forward_sim.specs.private.Kept.{entry_for}
use Rattle.forward_sim.specs.private.Machines.{Running, qubit_count, run_of}
use Rattle.forward_sim.proofs.KeptWords.{kept_entry}
use Rattle.forward_sim.proofs.following.read_replaced.Goals as goal

of_row : (old seen : Running) (w : List Letter) (row : Option ℕ) (entry : Option (List Term)) → seen ≡ old → NamesRandom old.rows w row
    → IfSome row (λ r. length (stabilizer_at seen.rows r).letters ≡ qubit_count seen) → entry ≡ entry_for seen.rows row → IsEntry (qubit_count old) (run_of old).state w entry
of_row old seen w row entry same named long read =
    kept_entry (qubit_count old) old.rows w row entry
    (subst (λ (m : Running). IfSome row (λ r. length (stabilizer_at m.rows r).letters ≡ qubit_count m)) same long)
    (read ∙ ap (λ (m : Running). entry_for m.rows row) same) named

of_letter : (n : ℕ) (s : State) (letter : Letter) (q : ℕ) (reset : Bool) (entry : Option (List Term)) → IsEntry n s (lone_letter n q letter) entry → IsEntry n s (measured_word n (measured n reset letter q)) entry
of_letter n s letter q true entry h = h
of_letter n s letter q false entry h = h

pub returns-in-Collapse-clause-entry : goal.returns-in-Collapse-clause-entry
returns-in-Collapse-clause-entry g c =
    let program = c.args.program.now in
    let n = program.listing.qubits in
    let old = c.args.machine.now in
    let row = c.letter_row-row in
    let s = c.in-Collapse in
    let entry = entry_of c.read_row.new.word.terms in
    let read = of_row old row.new.machine (lone_letter (qubit_count old) s.qubit s.letter) row.result entry row.ensures.same row.ensures.row c.read_row.ensures.long c.read_row.ensures.read in
    subst (λ step. IsStepEntry n (run_of old).state (listed n step) entry) (sym s.is)
    (of_letter n (run_of old).state s.letter s.qubit s.reset entry
    (subst (λ m. IsEntry m (run_of old).state (lone_letter m s.qubit s.letter) entry) c.requires.step.qubits read))

pub returns-in-CollapseWord-clause-entry : goal.returns-in-CollapseWord-clause-entry
returns-in-CollapseWord-clause-entry g c =
    let program = c.args.program.now in
    let n = program.listing.qubits in
    let old = c.args.machine.now in
    let row = c.product_row-row in
    let terms = letters_in c.in-CollapseWord.letters in
    let entry = entry_of c.read_row-in-CollapseWord.new.word.terms in
    let read = of_row old row.new.machine (word_of_terms (qubit_count old) terms) row.result entry row.ensures.same row.ensures.row c.read_row-in-CollapseWord.ensures.long c.read_row-in-CollapseWord.ensures.read in
    subst (λ step. IsStepEntry n (run_of old).state (listed n step) entry) (sym c.in-CollapseWord.is)
    (subst (λ m. IsEntry m (run_of old).state (word_of_terms m terms) entry) c.requires.step.qubits read)
