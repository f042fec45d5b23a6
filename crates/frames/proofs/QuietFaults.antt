-- Frames stay as they are at a fault that happens in no run.
use Rattle.std.proofs.Common.{◌≡◌, ℕ, zero, suc, ◌<◌, ◌≤◌, List, [], ◌∷◌, None, refl, sym, ap, ◌∙◌}
use Rattle.std.specs.Prelude.{IfSome, slice_get}
use Rattle.bit_rows.specs.Lanes.{lane, lane_bit}
use Rattle.bit_rows.proofs.LaneLaws.{lane_bit-zero}
use Rattle.step_model.specs.Listing.{Listing, Fault, fault_word}
use Rattle.step_model.specs.Sensitivities.{multiplied}
use Rattle.frames.specs.LaneFrames.{LaneFrames, GoesTo, frame_in}
use Rattle.frames.specs.private.Followed.{followed}
use Rattle.frames.specs.private.Quiet.{HappensNowhere, NoneHappens}

pub quiet-goes : (program : Listing) (faults : List ℕ) (f runs : ℕ) (frames : LaneFrames) → HappensNowhere faults f
    → GoesTo frames frames (λ j v. followed program (lane j faults) None (lane_bit j runs) (Fault f) v)
quiet-goes program faults f runs frames quiet = record {
  qubits = refl;
  room = refl;
  frames = λ j. sym (ap (λ b. record (frame_in j frames) { word = multiplied b (fault_word program f) (frame_in j frames).word }) (quiet j));
}

-- faults whose words are 0 happen in no run
quiet_at : (faults : List ℕ) (f : ℕ) → IfSome (slice_get faults f) (λ runs. runs ≡ 0) → HappensNowhere faults f
quiet_at [] f none j = refl
quiet_at (runs ∷ faults) zero none j = ap (lane_bit j) none ∙ lane_bit-zero j
quiet_at (runs ∷ faults) (suc f) none j = quiet_at faults f none j

pub none_happens : (faults : List ℕ) (from end : ℕ) → ((f : ℕ) → from ≤ f → f < end → IfSome (slice_get faults f) (λ runs. runs ≡ 0)) → NoneHappens faults from end
none_happens faults from end none f low high = quiet_at faults f (none f low high)
