-- What follows runs of a program shows as many truth values of each as there are.
use Rattle.std.proofs.Common.{◌≡◌, ◌∙◌, length-append}
use Rattle.step_model.specs.Listing.{Listing}
use Rattle.frames.specs.declared.follower.Follower.{Follower}
use Rattle.frames.specs.declared.follower.Follower.TheVariants as follower
use Rattle.frames.specs.private.Followers.{Follows, kind_of, value_count}
use Rattle.frames.specs.private.ShownRuns.{shown_count}

pub value_count-shown : {A : Type 0} (program : Listing) (f : Follower A) → Follows program f → value_count f ≡ shown_count (kind_of f) program
value_count-shown program (follower.Records batch) h = h.records
value_count-shown program (follower.Detections beside) h = h.1 ∙ length-append program.detectors program.observables
value_count-shown program (follower.Alone alone) h = h.1 ∙ length-append program.detectors program.observables
