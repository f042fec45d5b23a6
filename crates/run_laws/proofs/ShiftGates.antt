-- The laws of images at the qubits of a step that fits.
use Rattle.std.proofs.Common.{◌≡◌, ℕ, ◌<◌, true, length, sym, ◌∙◌, subst}
use Rattle.gate_table.specs.declared.gate.Gate.{Gate}
use Rattle.pauli_word.specs.Words.{Signed, anticommute}
use Rattle.gate_table.specs.WordImages.{image_at, image_at_two, preimage_at, preimage_at_two}
use Rattle.step_model.specs.Listing.{One, Two, Listing}
use Rattle.step_model.specs.WellFormed.{step_fits}
use Rattle.gate_table.proofs.WordImageLaws.{image_at-anticommute, image_at-preimage_at}
use Rattle.gate_table.proofs.PairImageLaws.{image_at_two-anticommute, image_at_two-preimage_at_two}
use Rattle.step_model.proofs.StateIsGroup.{one_fits, two_fits}

-- a qubit of the program is one of a word of its qubits
inside : (n q : ℕ) (p : Signed) → length p.letters ≡ n → q < n → q < length p.letters
inside n q p size h = subst (λ m. q < m) (sym size) h

pub image_of_preimage : (program : Listing) (gate : Gate) (q : ℕ) (p : Signed) → step_fits program (One gate q) ≡ true → length p.letters ≡ program.qubits → image_at gate q (preimage_at gate q p) ≡ p
image_of_preimage program gate q p fits size =
    image_at-preimage_at gate q p (inside program.qubits q p size (one_fits program gate q fits).qubit)

pub image_of_preimage_two : (program : Listing) (gate : Gate) (a b : ℕ) (p : Signed) → step_fits program (Two gate a b) ≡ true → length p.letters ≡ program.qubits → image_at_two gate a b (preimage_at_two gate a b p) ≡ p
image_of_preimage_two program gate a b p fits size =
    let two = two_fits program gate a b fits in
    image_at_two-preimage_at_two gate a b p two.differ (inside program.qubits a p size two.first) (inside program.qubits b p size two.second)

pub anticommute-images : (program : Listing) (gate : Gate) (q : ℕ) (p r : Signed) → step_fits program (One gate q) ≡ true → length p.letters ≡ program.qubits → length r.letters ≡ program.qubits → anticommute (image_at gate q p).letters (image_at gate q r).letters ≡ anticommute p.letters r.letters
anticommute-images program gate q p r fits size size' =
    let h = (one_fits program gate q fits).qubit in
    image_at-anticommute gate q p r (inside program.qubits q p size h) (inside program.qubits q r size' h)

pub anticommute-images_two : (program : Listing) (gate : Gate) (a b : ℕ) (p r : Signed) → step_fits program (Two gate a b) ≡ true → length p.letters ≡ program.qubits → length r.letters ≡ program.qubits → anticommute (image_at_two gate a b p).letters (image_at_two gate a b r).letters ≡ anticommute p.letters r.letters
anticommute-images_two program gate a b p r fits size size' =
    let two = two_fits program gate a b fits in
    image_at_two-anticommute gate a b p r (size ∙ sym size') two.differ (inside program.qubits a p size two.first) (inside program.qubits b p size two.second)
