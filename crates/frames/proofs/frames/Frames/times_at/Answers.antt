use Rattle.std.proofs.Common.{ap, ◌∙◌}
use Rattle.forward_sim.specs.References.{terms_at}
use Rattle.frames.specs.LaneFrames.{LaneFrames}
use Rattle.frames.proofs.LaneFrameLaws.{times-alone, written}
use Rattle.frames.proofs.frames.Frames.times_at.Goals as goal

pub returns : goal.returns
returns g c =
    times-alone c.args.self.now _ c.deref_mut.result.now c.multiply_letter.new.letters c.args.runs (terms_at c.args.letter c.args.qubits.now)
    (c.deref_mut.ensures.value ∙ ap (λ (f : LaneFrames). f.letters) c.self.view_is)
    (written c.self.inside.letters.len c.multiply_letter.new.letters c.self.inside.letters.items (c.multiply_letter.ensures.qubits ∙ c.deref_mut.ensures.len))
    (ap (λ (f : LaneFrames). f.flips) c.self.view_is)
    (ap (λ (f : LaneFrames). f.room) c.self.view_is)
    c.multiply_letter.ensures
