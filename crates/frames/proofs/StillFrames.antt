-- All frames are I at the start, and gates leave them so.
use Rattle.std.proofs.Common.{ℕ, false, List, length, None, refl, sym, ap, ◌∙◌}
use Rattle.std.proofs.lemmas.List as lists
use Rattle.bit_rows.specs.Lanes.{lane, lane_bit}
use Rattle.pauli_word.specs.Words.{Signed, no_letters, signed}
use Rattle.gate_table.specs.declared.gate.Gate.{Gate}
use Rattle.gate_table.specs.WordImages.{image_at, image_at_two}
use Rattle.gate_table.proofs.PairImageLaws.{image_at_two-none}
use Rattle.gate_table.proofs.WordImageLaws.{image_at-none}
use Rattle.step_model.specs.Frames.{Frame}
use Rattle.step_model.specs.Listing.{Listing, One, Two}
use Rattle.frames.specs.Batches.{AreAtStart}
use Rattle.frames.specs.LaneFrames.{LaneFrames, GoesTo, frame_in}
use Rattle.frames.specs.private.Followed.{AreStill, followed}

pub still-start : (f : LaneFrames) → AreAtStart f → AreStill f
still-start f starts j =
    let word = ap (λ (v : Frame). v.word) (starts j) in
    word ∙ ap no_letters (sym (ap length word ∙ lists.length-replicate (length f.letters) _))

module _ (program : Listing) (f : LaneFrames) (still : AreStill f) (gate : Gate) (faults : List ℕ) where
  pub still_one : (q : ℕ) → GoesTo f f (λ j v. followed program (lane j faults) None (lane_bit j 0) (One gate q) v)
  still_one q = record {
    qubits = refl;
    room = refl;
    frames = λ j.
        let v = frame_in j f in
        let n = length v.word in
        ap (λ word. record v { word = word })
        (still j ∙ sym (ap (λ word. (image_at gate q (signed word false)).letters) (still j) ∙ ap (λ (p : Signed). p.letters) (image_at-none gate q n false)));
  }

  pub still_two : (a b : ℕ) → GoesTo f f (λ j v. followed program (lane j faults) None (lane_bit j 0) (Two gate a b) v)
  still_two a b = record {
    qubits = refl;
    room = refl;
    frames = λ j.
        let v = frame_in j f in
        let n = length v.word in
        ap (λ word. record v { word = word })
        (still j ∙ sym (ap (λ word. (image_at_two gate a b (signed word false)).letters) (still j) ∙ ap (λ (p : Signed). p.letters) (image_at_two-none gate a b n false)));
  }
