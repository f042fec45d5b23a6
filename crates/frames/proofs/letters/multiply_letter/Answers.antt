-- As for letters at qubits, which are here one letter at many.
use Rattle.std.proofs.Common.{◌≡◌, ℕ, ◌<◌, ◌-◌, ◌+◌, List, length, drop, get_or, set, refl, sym, ap, subst, ◌∙◌, arith}
use Rattle.std.proofs.lemmas.List.{get_or-map, length-map}
use Rattle.std.proofs.lemmas.List.Elements.{All-get_or}
use Rattle.bit_rows.specs.Lanes.{lane_bit}
use Rattle.pauli_word.specs.declared.letter.Letter.{Letter}
use Rattle.pauli_word.specs.Words.{lone_letter}
use Rattle.step_model.specs.Listing.{word_of_terms}
use Rattle.step_model.specs.Sensitivities.{multiplied}
use Rattle.step_model.specs.declared.step.Term.{Term}
use Rattle.step_model.specs.WellFormed.{TermsFit}
use Rattle.forward_sim.specs.References.{terms_at}
use Rattle.frames.specs.private.Followed.{letters_alone, multiplied_in}
use Rattle.frames.specs.LaneFrames.{GoesTo}
use Rattle.frames.specs.LaneLetters.{word_in, times_where}
use Rattle.frames.proofs.LaneFrameLaws.{length-word_in, letter_at-word_in, no_term, put_letters, set-times, times-more, times-none}
use Rattle.frames.proofs.letters.multiply_letter.Goals as goal

-- as many letters as qubits, each at its own
count : (a : Letter) (qubits : List ℕ) → length (terms_at a qubits) ≡ length qubits
count a qubits = length-map qubits (λ q. record { qubit = q; letter = a })

at : (a : Letter) (qubits : List ℕ) (i : ℕ) → i < length qubits → get_or (terms_at a qubits) i no_term ≡ record { qubit = get_or qubits i 0; letter = a }
at a qubits i within = get_or-map (λ q. record { qubit = q; letter = a }) qubits i 0 no_term within

pub loop-left-init : goal.loop-left-init
loop-left-init c = record {
  within = omega arith;
  so_far = subst (λ k. GoesTo (letters_alone c.args.letters.now) (letters_alone c.args.letters.now) (multiplied_in c.args.runs (word_of_terms (length c.args.letters.now) (drop k (terms_at c.args.letter c.args.qubits.now))))) (count c.args.letter c.args.qubits.now)
      (times-none (terms_at c.args.letter c.args.qubits.now) c.args.runs (letters_alone c.args.letters.now));
}

-- the qubit at a place is one of so many
inside : (n m i : ℕ) (a : Letter) (qubits : List ℕ) → m ≡ n → i < length qubits → TermsFit n (terms_at a qubits) → get_or qubits i 0 < m
inside n m i a qubits same within fit =
    let among : i < length (terms_at a qubits) = omega (arith, within, count a qubits) in
    let fits : get_or qubits i 0 < n = subst (λ (term : Term). term.qubit < n) (at a qubits i within)
    (All-get_or (λ (term : Term). term.qubit < n) (terms_at a qubits) i no_term among fit) in
    omega (arith, fits, same)

pub bounds-letters-qubit : goal.bounds-letters-qubit
bounds-letters-qubit c =
    inside (length c.args.letters.now) _ _ c.args.letter c.args.qubits.now c.loop-left.auto.letters (omega (arith, c.loop-left.invariant.within)) c.requires

pub slice_copy_out-here : goal.slice_copy_out-here
slice_copy_out-here c =
    inside (length c.args.letters.now) _ _ c.args.letter c.args.qubits.now c.loop-left.auto.letters (omega (arith, c.loop-left.invariant.within)) c.requires

pub loop-left-preserved : goal.loop-left-preserved
loop-left-preserved c =
    let a = c.args.letter in
    let qubits = c.args.qubits.now in
    let terms = terms_at a qubits in
    let runs = c.args.runs in
    let letters = c.loop-left.letters in
    let n = length c.args.letters.now in
    let m = length letters in
    let i = c.loop-left.left - 1 in
    let q = get_or qubits i 0 in
    let here : c.loop-left.left ≡ i + 1 = omega arith in
    let within : i < length qubits = omega (arith, c.loop-left.invariant.within) in
    let q_in : q < m = inside n m i a qubits c.loop-left.auto.letters within c.requires in
    let one : GoesTo (letters_alone letters) (letters_alone (set letters q c.times.result)) (multiplied_in runs (lone_letter m q a)) =
    put_letters (letters_alone letters) q c.times.result (λ j w. multiplied (lane_bit j runs) (lone_letter m q a) w)
    (λ j.
    ap (set (word_in j letters) q) (c.times.ensures j ∙ ap (times_where (lane_bit j runs) a) (sym (letter_at-word_in j letters q _ q_in)))
    ∙ set-times m (lane_bit j runs) (word_in j letters) q a (length-word_in j letters) q_in) in
    record {
      within = omega (arith, c.loop-left.invariant.within);
      so_far = times-more n terms i runs (letters_alone c.args.letters.now) (letters_alone letters) (letters_alone (set letters q c.times.result)) refl (omega (arith, within, count a qubits))
          (subst (λ k. GoesTo (letters_alone c.args.letters.now) (letters_alone letters) (multiplied_in runs (word_of_terms n (drop k terms)))) here c.loop-left.invariant.so_far)
          (subst (λ (term : Term). GoesTo (letters_alone letters) (letters_alone (set letters q c.times.result)) (multiplied_in runs (lone_letter m term.qubit term.letter))) (sym (at a qubits i within)) one);
    }
