-- The text of a word, and the letters that are kept with it.
use Rattle.std.proofs.Common.{◌≡◌, ℕ, ◌≤◌, true, List, Option, None, Some, take, ap, subst, ◌∙◌}
use Rattle.std.specs.Prelude.{Bool, if◌then◌else◌}
use Rattle.step_model.specs.declared.step.Term.{Term}
use Rattle.step_model.specs.Listing.{word_of_terms}
use Rattle.step_model.specs.WellFormed.{TermsFit}
use Rattle.fault_list.specs.FaultLines.{word_text}
use Rattle.fault_list.specs.private.KeptTexts.{HasWord}

-- a text that was put, whose letters are kept
pub word_kept : {letters : Option (List Term)} {len : ℕ} {bytes : List ℕ} (terms : List Term) (there : Bool) → len ≤ 24704 → letters ≡ (if there then Some terms else None) → there ≡ true
    → ((qubits : ℕ) → TermsFit qubits terms → take len bytes ≡ word_text (word_of_terms qubits terms)) → HasWord letters len bytes
word_kept {letters} {len} {bytes} terms there within is known text =
    let are_kept : letters ≡ Some terms = is ∙ ap (λ b. if b then Some terms else None) known in
    record {
      within = within;
      text = λ others qubits are. let same : terms ≡ others = cc in subst (λ ts. TermsFit qubits ts → take len bytes ≡ word_text (word_of_terms qubits ts)) same (text qubits);
    }
