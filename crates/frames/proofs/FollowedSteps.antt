-- The frame behind a step, as the loops over lanes make it.
use Rattle.std.proofs.lemmas.List as lists
use Rattle.std.proofs.Common.{◌∷◌, ◌++◌, append-nil, ap₂, get_or, set, ◌≡◌, ℕ, Bool, true, false, List, [], length, Option, None, Some, is_some, refl, subst, sym, ap, ◌∙◌}
use Rattle.std.specs.Prelude.{if◌then◌else◌, option_map}
use Rattle.bit_rows.specs.Lanes.{lane, lane_bit}
use Rattle.pauli_word.specs.declared.letter.Letter.{Letter}
use Rattle.pauli_word.specs.declared.letter.Letter.TheVariants.{I}
use Rattle.pauli_word.specs.Parity.{exclusive_or}
use Rattle.pauli_word.specs.Words.{anticommute, lone_letter}
use Rattle.circuit_walk.specs.declared.letters.Letters.{Letters}
use Rattle.circuit_walk.specs.declared.step.FaultName.{FaultName}
use Rattle.circuit_walk.specs.declared.step.Step.TheVariants as step
use Rattle.circuit_walk.specs.Letters.{letters_in}
use Rattle.circuit_walk.specs.Named.{IsStepOf}
use Rattle.circuit_walk.specs.Programs.{KeptProgram}
use Rattle.circuit_walk.specs.Steps.{measured, number_of, recorded}
use Rattle.step_model.specs.declared.step.Term.{Term}
use Rattle.step_model.specs.Frames.{Frame}
use Rattle.step_model.specs.Listing.{Listing, Collapse, Fault, Measured, Word, effect_word, measured_word, step_records, fault_word, word_of_terms}
use Rattle.step_model.specs.Runs.{flip_happens}
use Rattle.step_model.specs.Sensitivities.{cleared, multiplied}
use Rattle.frames.specs.private.Followed.{Turns, flips_in, followed, multiplied_in, reset_in, turned, turned_in, turned_where}
use Rattle.frames.specs.LaneFrames.{LaneFrames, frame_in, GoesTo, with_record}
use Rattle.frames.specs.LaneLetters.{word_in}
use Rattle.frames.proofs.FollowLaw.{turned-flip}
use Rattle.frames.proofs.LaneFrameLaws.{frame_with, goes_as, goes_then, length-word_in}

-- the flip of a frame that was turned: the coin, where the outcome is random
pub turned-flips : (n : ℕ) (replaced : Option (List Term)) (coin : Bool) (w : List Letter) (v : Frame) → Turns n replaced w → length v.word ≡ n
    → (if is_some replaced then coin else anticommute v.word w) ≡ anticommute (turned n replaced coin w v).word w
turned-flips n None coin w v turns size = refl
turned-flips n (Some terms) coin w v turns size = sym (turned-flip n terms coin w v size turns.1)

pub turned-records : (n : ℕ) (replaced : Option (List Term)) (b : Bool) (v : Frame) → (turned_where n replaced b v).records ≡ v.records
turned-records n None b v = refl
turned-records n (Some terms) b v = refl

pub turned-frame : (n : ℕ) (replaced : Option (List Term)) (b : Bool) (v : Frame) → turned_where n replaced b v ≡ frame_with (turned_where n replaced b v).word v.records
turned-frame n None b v = refl
turned-frame n (Some terms) b v = refl

pub measured-letter : (n : ℕ) (reset : Bool) (letter : Letter) (q : ℕ) → measured_word n (measured n reset letter q) ≡ lone_letter n q letter
measured-letter n true letter q = refl
measured-letter n false letter q = refl

-- no fault happens in the reference run
none-happens : (flip : Option ℕ) → flip_happens [] flip ≡ false
none-happens None = refl
none-happens (Some f) = refl

-- how many records a collapse makes
pub recorded-count : (c : Measured) (rec : Option ℕ) (inverted : Bool) (flip : Option FaultName) → length (step_records (Collapse c (recorded rec inverted flip))) ≡ (if is_some rec then 1 else 0)
recorded-count c None inverted flip = refl
recorded-count c (Some r) inverted flip = refl

-- frames that keep their flips keep their count of records
pub same-count : (old new : LaneFrames) → (frame_in 0 new).records ≡ (frame_in 0 old).records → length new.flips ≡ length old.flips
same-count old new same = sym (lists.length-map new.flips (lane_bit 0)) ∙ ap length same ∙ lists.length-map old.flips (lane_bit 0)

-- a collapse of a letter that is turned by the flips that it meets
module _ (n : ℕ) (replaced : Option (List Term)) (coins met flips q : ℕ) (letter : Letter) (old mid : LaneFrames)
    (size : length old.letters ≡ n) (w : List Letter) (turns : Turns n replaced w)
    (meets : (j : ℕ) → lane_bit j met ≡ anticommute (word_in j old.letters) w)
    (moved : GoesTo old mid (λ j v. turned_where n replaced (exclusive_or (lane_bit j coins) (lane_bit j met)) v))
    (turned_to : (j : ℕ) → lane_bit j flips ≡ (if is_some replaced then lane_bit j coins else lane_bit j met)) where
  pub goes_turned : GoesTo old mid (turned_in n replaced coins w)
  goes_turned = goes_as old mid _ (turned_in n replaced coins w) moved
      (λ j. ap (λ b. turned_where n replaced (exclusive_or (lane_bit j coins) b) (frame_in j old)) (meets j))

  pub flips_turned : (j : ℕ) → lane_bit j flips ≡ flips_in n replaced coins w old j
  flips_turned j =
      turned_to j
      ∙ ap (λ b. if is_some replaced then lane_bit j coins else b) (meets j)
      ∙ turned-flips n replaced (lane_bit j coins) w (frame_in j old) turns (length-word_in j old.letters ∙ size)

pub goes_left : (n : ℕ) (replaced : Option (List Term)) (coins : ℕ) (letter : Letter) (q : ℕ) (old mid : LaneFrames)
    → GoesTo old mid (turned_in n replaced coins (lone_letter n q letter))
    → GoesTo old mid (reset_in n replaced coins false letter q)
goes_left n replaced coins letter q old mid moved = goes_as old mid _ _ moved (λ j. turned-frame n replaced _ (frame_in j old))

pub goes_cleared : (n : ℕ) (replaced : Option (List Term)) (coins : ℕ) (letter : Letter) (q : ℕ) (old mid new : LaneFrames)
    → GoesTo old mid (turned_in n replaced coins (lone_letter n q letter))
    → GoesTo mid new (λ j v. record v { word = set v.word q I })
    → GoesTo old new (reset_in n replaced coins true letter q)
goes_cleared n replaced coins letter q old mid new moved clears =
    goes_as old new _ _ (goes_then old mid new _ _ moved clears)
    (λ j. ap (frame_with (set (turned n replaced (lane_bit j coins) (lone_letter n q letter) (frame_in j old)).word q I)) (turned-records n replaced _ (frame_in j old)))

-- frames that were turned, cleared where the collapse resets, and then had their flips recorded, went over a collapse
module _ (program : Listing) (faults : List ℕ) (replaced : Option (List Term)) (coins flips hits total : ℕ) (c : Measured)
    (inverted : Bool) (flip : Option FaultName) (old mid new : LaneFrames)
    (moved : GoesTo old mid (λ j v. record v { word = cleared c (turned program.qubits replaced (lane_bit j coins) (measured_word program.qubits c) v).word }))
    (flips_are : (j : ℕ) → lane_bit j flips ≡ flips_in program.qubits replaced coins (measured_word program.qubits c) old j)
    (hits_are : (j : ℕ) → lane_bit j hits ≡ flip_happens (lane j faults) (option_map number_of flip))
    (total_is : (j : ℕ) → lane_bit j total ≡ exclusive_or (lane_bit j flips) (lane_bit j hits)) where
  collapse_followed : (rec : Option ℕ) → GoesTo mid new (λ j v. with_record rec (lane_bit j total) v)
      → GoesTo old new (λ j v. followed program (lane j faults) replaced (lane_bit j coins) (Collapse c (recorded rec inverted flip)) v)
  collapse_followed None goes =
      goes_as old new _ _ (goes_then old mid new _ _ moved goes)
      (λ j.
      let u = turned program.qubits replaced (lane_bit j coins) (measured_word program.qubits c) (frame_in j old) in
      ap (frame_with (cleared c u.word)) (sym (append-nil u.records ∙ turned-records program.qubits replaced _ (frame_in j old))))
  collapse_followed (Some r) goes =
      goes_as old new _ _ (goes_then old mid new _ _ moved goes)
      (λ j.
      let u = turned program.qubits replaced (lane_bit j coins) (measured_word program.qubits c) (frame_in j old) in
      let named = option_map number_of flip in
      ap₂ (λ rs b. frame_with (cleared c u.word) (rs ++ b ∷ [])) (sym (turned-records program.qubits replaced _ (frame_in j old)))
      (total_is j
      ∙ ap₂ exclusive_or (flips_are j) (hits_are j ∙ sym (ap (λ b. exclusive_or b (flip_happens (lane j faults) named)) (none-happens named)))))

-- a collapse of a letter, and one of a product
module _ (program : Listing) (faults : List ℕ) (replaced : Option (List Term)) (coins flips hits total : ℕ)
    (inverted : Bool) (flip : Option FaultName) (old mid new : LaneFrames) (size : length old.letters ≡ program.qubits)
    (hits_are : (j : ℕ) → lane_bit j hits ≡ flip_happens (lane j faults) (option_map number_of flip))
    (total_is : (j : ℕ) → lane_bit j total ≡ exclusive_or (lane_bit j flips) (lane_bit j hits))
    (rec : Option ℕ) (goes : GoesTo mid new (λ j v. with_record rec (lane_bit j total) v)) where
  pub letter_followed : (reset : Bool) (letter : Letter) (q : ℕ)
      → GoesTo old mid (reset_in (length old.letters) replaced coins reset letter q)
      → ((j : ℕ) → lane_bit j flips ≡ flips_in (length old.letters) replaced coins (lone_letter (length old.letters) q letter) old j)
      → GoesTo old new (λ j v. followed program (lane j faults) replaced (lane_bit j coins) (Collapse (measured program.qubits reset letter q) (recorded rec inverted flip)) v)
  letter_followed true letter q moved flips_are =
      collapse_followed program faults replaced coins flips hits total (measured program.qubits true letter q) inverted flip old mid new
      (subst (λ n. GoesTo old mid (reset_in n replaced coins true letter q)) size moved)
      (λ j. flips_are j ∙ ap (λ n. flips_in n replaced coins (lone_letter n q letter) old j) size) hits_are total_is rec goes
  letter_followed false letter q moved flips_are =
      collapse_followed program faults replaced coins flips hits total (measured program.qubits false letter q) inverted flip old mid new
      (subst (λ n. GoesTo old mid (reset_in n replaced coins false letter q)) size moved)
      (λ j. flips_are j ∙ ap (λ n. flips_in n replaced coins (lone_letter n q letter) old j) size) hits_are total_is rec goes

  pub product_followed : (terms : List Term)
      → GoesTo old mid (turned_in (length old.letters) replaced coins (word_of_terms (length old.letters) terms))
      → ((j : ℕ) → lane_bit j flips ≡ flips_in (length old.letters) replaced coins (word_of_terms (length old.letters) terms) old j)
      → GoesTo old new (λ j v. followed program (lane j faults) replaced (lane_bit j coins) (Collapse (Word (word_of_terms program.qubits terms)) (recorded rec inverted flip)) v)
  product_followed terms moved flips_are =
      let n = program.qubits in
      collapse_followed program faults replaced coins flips hits total (Word (word_of_terms n terms)) inverted flip old mid new
      (goes_as old mid _ _ (subst (λ m. GoesTo old mid (turned_in m replaced coins (word_of_terms m terms))) size moved)
      (λ j. turned-frame n replaced _ (frame_in j old)))
      (λ j. flips_are j ∙ ap (λ m. flips_in m replaced coins (word_of_terms m terms) old j) size) hits_are total_is rec goes

-- frames that were multiplied by the letters of a fault where it happens went over it
pub fault_followed : (program : KeptProgram) (faults : List ℕ) (replaced : Option (List Term)) (coins runs : ℕ) (name : FaultName) (letters : Letters) (old new : LaneFrames)
    → length old.letters ≡ program.listing.qubits → IsStepOf program (step.Fault name letters)
    → ((j : ℕ) → lane_bit j runs ≡ get_or (lane j faults) name.number false)
    → GoesTo old new (multiplied_in runs (word_of_terms (length old.letters) (letters_in letters)))
    → GoesTo old new (λ j v. followed program.listing (lane j faults) replaced (lane_bit j coins) (Fault name.number) v)
fault_followed program faults replaced coins runs name letters old new size named happens goes =
    let word : word_of_terms (length old.letters) (letters_in letters) ≡ fault_word program.listing name.number =
    ap (λ n. word_of_terms n (letters_in letters)) size ∙ sym (ap (effect_word program.listing.qubits) named.1) in
    goes_as old new _ _ goes
    (λ j. ap₂ (λ b w. record (frame_in j old) { word = multiplied b w (frame_in j old).word }) (happens j) word)
