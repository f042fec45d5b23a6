-- Frames that change no sign of a state: at the start those of I and Z, and after a collapse that of its word.
use Rattle.std.proofs.Common.{◌≡◌, ℕ, zero, suc, not, ◌&&◌, ◌||◌, Bool, true, false, inl, inr, List, [], ◌∷◌, length, Option, refl, ap, ap₂, sym, ◌∙◌}
use Rattle.std.proofs.lemmas.Bool.{cases_Bool, and_parts}
use Rattle.std.specs.List.{list_all}
use Rattle.pauli_word.specs.declared.letter.Letter.{Letter}
use Rattle.pauli_word.specs.declared.letter.Letter.TheVariants.{Z}
use Rattle.pauli_word.specs.Letters.{letters_clash}
use Rattle.pauli_word.specs.Parity.{exclusive_or}
use Rattle.pauli_word.specs.Words.{Signed, anticommute, letters_product, lone_letter, with_sign_changed}
use Rattle.pauli_word.proofs.Parities.{same_truth, same_truth-true}
use Rattle.pauli_word.proofs.LetterTests.{at_two_letters}
use Rattle.step_model.specs.Listing.{Collapse, Measured, Word, Reset, Recorded, measured_word, Listing}
use Rattle.pauli_word.specs.States.{State, is_I_or_Z, start_state}
use Rattle.pauli_word.specs.Groups.{IsGroup}
use Rattle.step_model.specs.Runs.{RunState, next_coin, next}
use Rattle.run_laws.specs.Shifts.{IsShifted}
use Rattle.step_model.specs.WellFormed.{step_fits}
use Rattle.step_model.proofs.StateIsGroup.{length-measured}
use Rattle.run_laws.proofs.ShiftCollapse.{collapsed-none}
use Rattle.run_laws.proofs.ShiftSteps.{anticommute-multiplied}
use Rattle.pauli_word.proofs.LoneLetters.{length-lone_letter}
use Rattle.pauli_word.proofs.Groups.{all_of_none, sign_changed_twice}

no_clash : (a b : Letter) → is_I_or_Z a ≡ true → is_I_or_Z b ≡ true → letters_clash a b ≡ false
no_clash a b h k =
    same_truth-true _ _
    (sym (ap₂ (λ x y. not (x && y) || same_truth (letters_clash a b) false) h k)
    ∙ at_two_letters (λ a b. not (is_I_or_Z a && is_I_or_Z b) || same_truth (letters_clash a b) false) refl a b)

-- words of I and Z commute
I_or_Z-commute : (p v : List Letter) → list_all is_I_or_Z p ≡ true → list_all is_I_or_Z v ≡ true → anticommute p v ≡ false
I_or_Z-commute [] v h k = refl
I_or_Z-commute (a ∷ p) [] h k = refl
I_or_Z-commute (a ∷ p) (b ∷ v) h k =
    let x = and_parts (is_I_or_Z a) (list_all is_I_or_Z p) h in
    let y = and_parts (is_I_or_Z b) (list_all is_I_or_Z v) k in
    ap₂ exclusive_or (no_clash a b x.0 y.0) (I_or_Z-commute p v x.1 y.1)

pub start-shifted : (n : ℕ) (v : List Letter) → list_all is_I_or_Z v ≡ true → IsShifted n v start_state start_state
start-shifted n v h p size =
    elim (cases_Bool (list_all is_I_or_Z p.letters)) [
      | inl k ↦ ap (λ b. start_state (with_sign_changed b p)) (sym (I_or_Z-commute p.letters v k h))
      | inr k ↦ ap (λ b. b && not p.negative) k ∙ sym (ap (λ b. b && not (exclusive_or (anticommute p.letters v) p.negative)) k)
    ]

pub lone_letter-I_or_Z : (n q : ℕ) → list_all is_I_or_Z (lone_letter n q Z) ≡ true
lone_letter-I_or_Z zero q = refl
lone_letter-I_or_Z (suc n) zero = all_of_none n
lone_letter-I_or_Z (suc n) (suc q) = lone_letter-I_or_Z n q

-- after a collapse, and after its reset, all words of the state commute with the word collapsed
next-none : (program : Listing) (faults : List Bool) (c : Measured) (r : Option Recorded) (m : RunState) (p : Signed)
    → step_fits program (Collapse c r) ≡ true
    → IsGroup program.qubits m.state → length p.letters ≡ program.qubits → anticommute p.letters (measured_word program.qubits c) ≡ true
    → (next program faults (Collapse c r) m).state p ≡ false
next-none program faults (Reset letter q) r m p fits group size clash =
    collapsed-none program.qubits (lone_letter program.qubits q letter) m.state (next_coin m.coins) (with_sign_changed _ p) group (length-lone_letter program.qubits q letter) size clash
next-none program faults (Word w) r m p fits group size clash =
    collapsed-none program.qubits w m.state (next_coin m.coins) p group (length-measured program (Word w) r fits) size clash

-- so as a frame it changes no sign
pub collapse-shifted : (program : Listing) (faults : List Bool) (c : Measured) (r : Option Recorded) (m : RunState)
    → step_fits program (Collapse c r) ≡ true
    → IsGroup program.qubits m.state
    → IsShifted program.qubits (measured_word program.qubits c) (next program faults (Collapse c r) m).state (next program faults (Collapse c r) m).state
collapse-shifted program faults c r m fits group p size =
    let w = measured_word program.qubits c in
    let s = (next program faults (Collapse c r) m).state in
    elim (cases_Bool (anticommute p.letters w)) [
      | inl h ↦
          next-none program faults c r m p fits group size h
          ∙ sym (next-none program faults c r m (with_sign_changed (anticommute p.letters w) p) fits group size h)
      | inr h ↦ ap (λ b. s (with_sign_changed b p)) (sym h)
    ]

-- a frame may be multiplied by one that changes no sign of the first state
pub shifted-times : (n : ℕ) (v w : List Letter) (s t : State) → length w ≡ length v → IsShifted n v s t → IsShifted n w s s → IsShifted n (letters_product w v) s t
shifted-times n v w s t sizes shifted same p size =
    shifted p size
    ∙ same (with_sign_changed (anticommute p.letters v) p) size
    ∙ ap s (sign_changed_twice (anticommute p.letters w) (anticommute p.letters v) p)
    ∙ ap (λ b. s (with_sign_changed b p)) (sym (anticommute-multiplied true p.letters w v sizes))
