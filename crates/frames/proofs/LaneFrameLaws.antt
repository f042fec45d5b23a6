-- One run's frame where letters are put at a qubit for all runs.
use Rattle.std.proofs.Common.{take, ◌≡◌, ℕ, zero, suc, replicate, ◌<◌, ◌+◌, Bool, true, false, List, [], ◌∷◌, ◌++◌, length, set, get_or, drop, refl, sym, ap, ap₂, ◌∙◌, length-set, arith}
use Rattle.std.proofs.lemmas.List.{map-set, set-get_or, drop_more, drop_all}
use Rattle.std.proofs.lemmas.List as lists
use Rattle.std.proofs.lemmas.List.Elements.{All-drop, All-same, All-take}
use Rattle.std.proofs.Math.Seq.{take-append_seam}
use Rattle.run_laws.specs.Shifts.{flipped_by}
use Rattle.run_laws.proofs.ShiftLists.{get_or-joined}
use Rattle.bit_rows.specs.Lanes.{lane_bit, lane}
use Rattle.pauli_word.specs.declared.letter.Letter.{Letter}
use Rattle.pauli_word.specs.declared.letter.Letter.TheVariants.{I}
use Rattle.pauli_word.specs.Letters.{letters_clash}
use Rattle.pauli_word.specs.Parity.{exclusive_or}
use Rattle.pauli_word.specs.Words.{anticommute, letter_at, letters_product, lone_letter, no_letters}
use Rattle.pauli_word.proofs.LoneLetters.{length-lone_letter, letters_product-lone_letter, letters_product_of_no_letters}
use Rattle.pauli_word.proofs.WordLaws.{letters_product_assoc, letters_product_comm}
use Rattle.step_model.specs.declared.step.Term.{Term}
use Rattle.step_model.specs.Frames.{Frame}
use Rattle.step_model.specs.Listing.{word_of_terms}
use Rattle.step_model.specs.Sensitivities.{multiplied}
use Rattle.step_model.specs.WellFormed.{TermsFit}
use Rattle.step_model.proofs.StepNumbers.{length-word_of_terms}
use Rattle.forward_sim.proofs.KeptWords.{word_of_both}
use Rattle.run_laws.proofs.ShiftSteps.{anticommute-multiplied}
use Rattle.run_laws.proofs.ShiftWords.{anticommute-lone}
use Rattle.frames.specs.private.Followed.{letters_alone, multiplied_in}
use Rattle.frames.specs.declared.letters.LaneLetters.{LaneLetters}
use Rattle.frames.specs.LaneFrames.{LaneFrames, frame_in, GoesTo}
use Rattle.frames.specs.LaneLetters.{letter_in, none_at, word_in, times_where}
use Rattle.frames.specs.Batches.{AreAtStart}
use Rattle.frames.proofs.LaneLaws.{letter_in-none}

-- a frame of a word and of flips
abbrev pub frame_with : List Letter → List Bool → Frame
frame_with word records = record { word = word; records = records }

abbrev pub with_letters : LaneFrames → List LaneLetters → LaneFrames
with_letters f letters = record f { letters = letters }

pub length-word_in : (j : ℕ) (letters : List LaneLetters) → length (word_in j letters) ≡ length letters
length-word_in j letters = lists.length-map letters (letter_in j)

pub letter_at-word_in : (j : ℕ) (letters : List LaneLetters) (q : ℕ) (d : LaneLetters) → q < length letters → letter_at (word_in j letters) q ≡ letter_in j (get_or letters q d)
letter_at-word_in j letters q d inside = lists.get_or-map (letter_in j) letters q d I inside

-- letters are put at a qubit, which are what `go` makes of each run's word
pub put_letters : (f : LaneFrames) (q : ℕ) (l : LaneLetters) (go : ℕ → List Letter → List Letter)
    → ((j : ℕ) → set (word_in j f.letters) q (letter_in j l) ≡ go j (word_in j f.letters))
    → GoesTo f (with_letters f (set f.letters q l)) (λ j v. record v { word = go j v.word })
put_letters f q l go is = record {
  qubits = length-set f.letters q l;
  room = refl;
  frames = λ j. ap (λ word. frame_with word (lane j f.flips)) (map-set (letter_in j) f.letters q l ∙ is j);
}

-- letters are put at two qubits
pub put_two : (f : LaneFrames) (a b : ℕ) (k l : LaneLetters) (go : ℕ → List Letter → List Letter)
    → ((j : ℕ) → set (set (word_in j f.letters) a (letter_in j k)) b (letter_in j l) ≡ go j (word_in j f.letters))
    → GoesTo f (with_letters f (set (set f.letters a k) b l)) (λ j v. record v { word = go j v.word })
put_two f a b k l go is = record {
  qubits = length-set (set f.letters a k) b l ∙ length-set f.letters a k;
  room = refl;
  frames = λ j. ap (λ word. frame_with word (lane j f.flips)) (map-set (letter_in j) (set f.letters a k) b l ∙ ap (λ w. set w b (letter_in j l)) (map-set (letter_in j) f.letters a k) ∙ is j);
}

-- a word where b, times a letter at a qubit
pub set-times : (n : ℕ) (b : Bool) (w : List Letter) (q : ℕ) (a : Letter) → length w ≡ n → q < n → set w q (times_where b a (letter_at w q)) ≡ multiplied b (lone_letter n q a) w
set-times n true w q a size inside = sym (letters_product-lone_letter n w q a size inside)
set-times n false w q a size inside = set-get_or w q I

-- times no letters
pub multiplied-none : (n : ℕ) (b : Bool) (w : List Letter) → length w ≡ n → multiplied b (no_letters n) w ≡ w
multiplied-none n true w size = letters_product_of_no_letters n w size
multiplied-none n false w size = refl

-- times two words
pub multiplied-product : (b : Bool) (u v w : List Letter) → multiplied b u (multiplied b v w) ≡ multiplied b (letters_product u v) w
multiplied-product true u v w = sym (letters_product_assoc u v w)
multiplied-product false u v w = refl

-- a word meets the first letter and the others
pub anticommute-first : (n : ℕ) (w : List Letter) (term : Term) (terms : List Term) → length w ≡ n → term.qubit < n
    → anticommute w (word_of_terms n (term ∷ terms)) ≡ exclusive_or (letters_clash (letter_at w term.qubit) term.letter) (anticommute w (word_of_terms n terms))
anticommute-first n w term terms size inside =
    anticommute-multiplied true w (lone_letter n term.qubit term.letter) (word_of_terms n terms) (length-lone_letter n term.qubit term.letter ∙ sym (length-word_of_terms n terms))
    ∙ ap (λ b. exclusive_or b (anticommute w (word_of_terms n terms))) (anticommute-lone w n term.qubit term.letter size inside)

abbrev pub no_term : Term
no_term = record { qubit = 0; letter = I }

-- one letter more is multiplied in
pub times-more : (n : ℕ) (terms : List Term) (i : ℕ) (runs : ℕ) (old mid new : LaneFrames) → length old.letters ≡ n → i < length terms
    → GoesTo old mid (multiplied_in runs (word_of_terms n (drop (i + 1) terms)))
    → GoesTo mid new (multiplied_in runs (lone_letter (length mid.letters) (get_or terms i no_term).qubit (get_or terms i no_term).letter))
    → GoesTo old new (multiplied_in runs (word_of_terms n (drop i terms)))
times-more n terms i runs old mid new size within before one =
    let term = get_or terms i no_term in
    let rest = drop (i + 1) terms in
    record {
      qubits = one.qubits ∙ before.qubits;
      room = one.room ∙ before.room;
      frames = λ j.
          let b = lane_bit j runs in
          let v = frame_in j old in
          one.frames j
          ∙ ap (λ (u : Frame). frame_with (multiplied b (lone_letter (length mid.letters) term.qubit term.letter) u.word) u.records) (before.frames j)
          ∙ ap (λ m. frame_with (multiplied b (lone_letter m term.qubit term.letter) (multiplied b (word_of_terms n rest) v.word)) v.records) (before.qubits ∙ size)
          ∙ ap (λ w. frame_with w v.records) (multiplied-product b (lone_letter n term.qubit term.letter) (word_of_terms n rest) v.word)
          ∙ ap (λ ts. frame_with (multiplied b (word_of_terms n ts) v.word) v.records) (sym (drop_more terms i no_term within));
    }

-- no letter is multiplied in yet
pub times-none : (terms : List Term) (runs : ℕ) (old : LaneFrames) → GoesTo old old (multiplied_in runs (word_of_terms (length old.letters) (drop (length terms) terms)))
times-none terms runs old = record {
  qubits = refl;
  room = refl;
  frames = λ j.
      let n = length old.letters in
      ap (λ w. frame_with w (lane j old.flips))
      (sym (multiplied-none n (lane_bit j runs) (word_in j old.letters) (length-word_in j old.letters))
      ∙ ap (λ ts. multiplied (lane_bit j runs) (word_of_terms n ts) (word_in j old.letters)) (sym (drop_all (length terms) terms (omega arith))));
}

-- what the letters that are left, multiplied in, make of frames is what all made of the first
abbrev pub LeadsOn : ℕ → List Term → ℕ → (ℕ → Frame) → LaneFrames → Type 0
LeadsOn n left runs ends f = (j : ℕ) → multiplied_in runs (word_of_terms n left) j (frame_in j f) ≡ ends j

-- the first letter is multiplied in
pub leads-more : (n : ℕ) (term : Term) (rest : List Term) (runs : ℕ) (ends : ℕ → Frame) (mid new : LaneFrames) → length mid.letters ≡ n
    → GoesTo mid new (multiplied_in runs (lone_letter (length mid.letters) term.qubit term.letter))
    → LeadsOn n (term ∷ rest) runs ends mid → LeadsOn n rest runs ends new
leads-more n term rest runs ends mid new size one before j =
    let b = lane_bit j runs in
    let v = frame_in j mid in
    let lone = lone_letter n term.qubit term.letter in
    let behind = word_of_terms n rest in
    ap (multiplied_in runs behind j) (one.frames j)
    ∙ ap (λ m. frame_with (multiplied b behind (multiplied b (lone_letter m term.qubit term.letter) v.word)) v.records) size
    ∙ ap (λ w. frame_with w v.records)
    (multiplied-product b behind lone v.word ∙ ap (λ u. multiplied b u v.word) (letters_product_comm behind lone))
    ∙ before j

-- behind the last letter
pub leads-all : (n runs : ℕ) (ends : ℕ → Frame) (f : LaneFrames) → length f.letters ≡ n → LeadsOn n [] runs ends f → (j : ℕ) → frame_in j f ≡ ends j
leads-all n runs ends f size before j =
    ap (λ w. frame_with w (lane j f.flips)) (sym (multiplied-none n (lane_bit j runs) (word_in j f.letters) (length-word_in j f.letters ∙ size)))
    ∙ before j

-- parts of what stands at n qubits stand there too
pub fit_front : (n : ℕ) (us vs : List Term) → TermsFit n (us ++ vs) → TermsFit n us
fit_front n us vs fit =
    All-same (λ (term : Term). term.qubit < n) us (take (length us) (us ++ vs)) (sym (lists.take_at us vs (length us) refl))
    (All-take (λ (term : Term). term.qubit < n) (length us) (us ++ vs) fit)

pub fit_back : (n : ℕ) (us vs : List Term) → TermsFit n (us ++ vs) → TermsFit n vs
fit_back n us vs fit =
    All-same (λ (term : Term). term.qubit < n) vs (drop (length us) (us ++ vs)) (sym (lists.drop_at us vs (length us) refl))
    (All-drop (λ (term : Term). term.qubit < n) (length us) (us ++ vs) fit)

-- two products of letters one after another
pub times-both : (us vs : List Term) (runs : ℕ) (old mid new : LaneFrames)
    → GoesTo old mid (multiplied_in runs (word_of_terms (length old.letters) vs))
    → GoesTo mid new (multiplied_in runs (word_of_terms (length mid.letters) us))
    → GoesTo old new (multiplied_in runs (word_of_terms (length old.letters) (us ++ vs)))
times-both us vs runs old mid new first second =
    let n = length old.letters in
    record {
      qubits = second.qubits ∙ first.qubits;
      room = second.room ∙ first.room;
      frames = λ j.
          let b = lane_bit j runs in
          let v = frame_in j old in
          second.frames j
          ∙ ap (λ (u : Frame). frame_with (multiplied b (word_of_terms (length mid.letters) us) u.word) u.records) (first.frames j)
          ∙ ap (λ m. frame_with (multiplied b (word_of_terms m us) (multiplied b (word_of_terms n vs) v.word)) v.records) first.qubits
          ∙ ap (λ w. frame_with w v.records) (multiplied-product b (word_of_terms n us) (word_of_terms n vs) v.word)
          ∙ ap (λ w. frame_with (multiplied b w v.word) v.records) (sym (word_of_both n us vs));
    }

-- the letters alone are multiplied, and the flips stay
pub times-alone : (old new : LaneFrames) (before after : List LaneLetters) (runs : ℕ) (terms : List Term)
    → before ≡ old.letters → new.letters ≡ after → new.flips ≡ old.flips → new.room ≡ old.room
    → GoesTo (letters_alone before) (letters_alone after) (multiplied_in runs (word_of_terms (length before) terms))
    → GoesTo old new (multiplied_in runs (word_of_terms (length old.letters) terms))
times-alone old new before after runs terms first last flips room alone = record {
  qubits = ap length last ∙ alone.qubits ∙ ap length first;
  room = room;
  frames = λ j.
      ap₂ (λ ls fs. frame_with (word_in j ls) (lane j fs)) last flips
      ∙ ap (λ (u : Frame). frame_with u.word (lane j old.flips)) (alone.frames j)
      ∙ ap (λ ls. frame_with (multiplied (lane_bit j runs) (word_of_terms (length ls) terms) (word_in j ls)) (lane j old.flips)) first;
}

-- what goes to the same frames, and two ways one after another
pub goes_as : (old new : LaneFrames) (f g : ℕ → Frame → Frame) → GoesTo old new f → ((j : ℕ) → f j (frame_in j old) ≡ g j (frame_in j old)) → GoesTo old new g
goes_as old new f g goes same = record { qubits = goes.qubits; room = goes.room; frames = λ j. goes.frames j ∙ same j }

pub goes_then : (old mid new : LaneFrames) (f g : ℕ → Frame → Frame) → GoesTo old mid f → GoesTo mid new g → GoesTo old new (λ j v. g j (f j v))
goes_then old mid new f g first second = record {
  qubits = second.qubits ∙ first.qubits;
  room = second.room ∙ first.room;
  frames = λ j. second.frames j ∙ ap (g j) (first.frames j);
}

-- frames of I alone stand at the start
word_in-none : (j n : ℕ) → word_in j (replicate n none_at) ≡ no_letters n
word_in-none j zero = refl
word_in-none j (suc n) = ap₂ (λ a w. a ∷ w) (letter_in-none j) (word_in-none j n)

pub at_start : (f : LaneFrames) (n : ℕ) → f.letters ≡ replicate n none_at → f.flips ≡ [] → AreAtStart f
at_start f n letters flips j =
    ap₂ (λ ls fs. frame_with (word_in j ls) (lane j fs)) letters flips
    ∙ ap (λ w. frame_with w []) (word_in-none j n ∙ ap no_letters (sym (ap length letters ∙ lists.length-replicate n none_at)))

-- a slice that is written back to the vector that lent it
pub written : {A : Type 0} (len : ℕ) (new items : List A) → length new ≡ len → take len (new ++ drop (length new) items) ≡ new
written len new items size = ap (λ k. take k (new ++ drop (length new) items)) (sym size) ∙ take-append_seam new (drop (length new) items)

-- a record's flip, and the reference's record
pub record-lane : (j word : ℕ) (flips : List ℕ) (values : List Bool) (index flip value : ℕ) (b : Bool)
    → lane_bit j word ≡ exclusive_or (lane_bit j flip) (lane_bit j value) → lane_bit j flip ≡ get_or (lane j flips) index false → lane_bit j value ≡ b → b ≡ get_or values index false
    → lane_bit j word ≡ get_or (flipped_by (lane j flips) values) index false
record-lane j word flips values index flip value b is flip_is value_is b_is =
    is ∙ ap₂ exclusive_or flip_is (value_is ∙ b_is) ∙ sym (get_or-joined (lane j flips) values index)
