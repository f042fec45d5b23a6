-- The letters that the steps of a program lend: they are at its qubits, and a fault applies their word.
use Rattle.std.proofs.Common.{◌≡◌, ℕ, Bool, List, Option, sym, ap, subst, ◌∙◌}
use Rattle.circuit_walk.specs.declared.letters.Letters.{Letters}
use Rattle.circuit_walk.specs.declared.step.FaultName.{FaultName}
use Rattle.circuit_walk.specs.declared.step.Step.{Step}
use Rattle.circuit_walk.specs.declared.step.Step.TheVariants as step
use Rattle.circuit_walk.specs.Letters.{AreSmall, letters_in}
use Rattle.circuit_walk.specs.Named.{IsStepOf}
use Rattle.circuit_walk.specs.Programs.{KeptProgram}
use Rattle.pauli_word.specs.declared.letter.Letter.{Letter}
use Rattle.pauli_word.specs.States.{applied}
use Rattle.step_model.specs.Listing.{Fault, effect_word, word_of_terms}
use Rattle.step_model.specs.Runs.{RunState, happens, next}
use Rattle.step_model.specs.WellFormed.{TermsFit}
use Rattle.forward_sim.specs.private.Machines.{in_state}

-- letters whose qubits are within the limit, and among so many
pub record AreLent (n : ℕ) (letters : Letters) : Type 0 where
  pub small : AreSmall letters
  pub fit : TermsFit n (letters_in letters)

module _ (program : KeptProgram) (s : Step) (n : ℕ) (of : IsStepOf program s) (qubits : n ≡ program.listing.qubits) where
  pub product_lent : (letters : Letters) (rec : Option ℕ) (inverted : Bool) (flip : Option FaultName) → s ≡ step.CollapseWord letters rec inverted flip → AreLent n letters
  product_lent letters rec inverted flip is =
      let parts = subst (IsStepOf program) is of in
      record { small = parts.0; fit = subst (λ k. TermsFit k (letters_in letters)) (sym qubits) parts.1.terms_fit }

  module _ (name : FaultName) (letters : Letters) (is : s ≡ step.Fault name letters) where
    pub fault_lent : AreLent n letters
    fault_lent =
        let parts = subst (IsStepOf program) is of in
        record { small = parts.2; fit = subst (λ k. TermsFit k (letters_in letters)) (sym qubits) parts.3 }

    pub fault_taken : (faults : List Bool) (m : RunState) → next program.listing faults (Fault name.number) m ≡ in_state m (applied (happens faults name.number) (word_of_terms n (letters_in letters)) m.state)
    fault_taken faults m =
        let parts = subst (IsStepOf program) is of in
        ap (λ (w : List Letter). in_state m (applied (happens faults name.number) w m.state))
        (ap (effect_word program.listing.qubits) parts.1 ∙ ap (λ k. word_of_terms k (letters_in letters)) (sym qubits))
