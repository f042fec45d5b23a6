-- What a fault does, by the record that it flips, and its letters.
use Rattle.std.proofs.Common.{◌≡◌, ◌<◌, ℕ, refl, sym, ap, subst, ◌∙◌}
use Rattle.std.specs.Prelude.{Some, None}
use Rattle.std.proofs.lemmas.List.Elements.{All-nil}
use Rattle.step_model.specs.declared.step.Term.{Term}
use Rattle.step_model.specs.Listing.{Effect, Applies, Flips, effect_at, no_effect, word_of_terms}
use Rattle.step_model.specs.WellFormed.{EffectFits, IsWellFormed, TermsFit}
use Rattle.circuit_walk.specs.declared.found_fault.FoundFault.{FoundFault}
use Rattle.circuit_walk.specs.Found.{IsFaultOf, effect_terms, flipped_record}
use Rattle.circuit_walk.specs.Letters.{letters_in}
use Rattle.circuit_walk.specs.Programs.{KeptProgram}
use Rattle.fault_list.specs.FaultLines.{effect_text, record_text, word_text}

pub effect_text-flips : (n r : ℕ) (e : Effect) → flipped_record e ≡ Some r → effect_text n e ≡ record_text r
effect_text-flips n r (Applies terms) h = cc
effect_text-flips n r (Flips s) h =
    let same : s ≡ r = cc in
    ap record_text same

effect_text-applies : (n : ℕ) (e : Effect) → flipped_record e ≡ None → effect_text n e ≡ word_text (word_of_terms n (effect_terms e))
effect_text-applies n (Applies terms) h = refl
effect_text-applies n (Flips r) h = cc

effect_terms_fit : (n : ℕ) (e : Effect) → EffectFits n e → TermsFit n (effect_terms e)
effect_terms_fit n (Applies terms) fits = fits
effect_terms_fit n (Flips r) fits = All-nil (λ (t : Term). t.qubit < n)

-- a fault that flips no record applies the word of its letters
pub letters_text : (program : KeptProgram) (fault : FoundFault) → IsFaultOf program fault → fault.flips ≡ None
    → effect_text program.listing.qubits (effect_at program.listing fault.number) ≡ word_text (word_of_terms program.listing.qubits (letters_in fault.letters))
letters_text program fault is none =
    let n = program.listing.qubits in
    effect_text-applies n (effect_at program.listing fault.number) (is.flips ∙ none)
    ∙ ap (λ terms. word_text (word_of_terms n terms)) (sym is.terms)

-- and they are at the program's qubits
pub letters_fit : (program : KeptProgram) (fault : FoundFault) → IsWellFormed program.listing → IsFaultOf program fault → TermsFit program.listing.qubits (letters_in fault.letters)
letters_fit program fault fits is =
    let n = program.listing.qubits in
    subst (TermsFit n) (sym is.terms)
    (effect_terms_fit n (effect_at program.listing fault.number) (fits.faults_fit fault.number no_effect is.there).effect)
