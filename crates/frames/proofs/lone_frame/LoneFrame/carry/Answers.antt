-- The flip of the step is put behind those so far.
use Rattle.std.proofs.Common.{◌≡◌, [], ◌∷◌, ap, ◌∙◌, sym, length, append-nil}
use Rattle.std.specs.Option.{option_to_list}
use Rattle.circuit_walk.specs.Steps.{listed}
use Rattle.frames.specs.private.Flips.{flip_of}
use Rattle.run_laws.proofs.PairParity.{length-carried}
use Rattle.step_model.specs.Frames.{Frame}
use Rattle.frames.proofs.LoneLemmas.{on-way-carried}
use Rattle.frames.proofs.lone_frame.LoneFrame.carry.Goals as goal

pub returns-in_ok-push-clause-way : goal.returns-in_ok-push-clause-way
returns-in_ok-push-clause-way g c behind v steps h =
    let p = c.args.program.now.listing in
    let s = listed p.qubits c.args.step in
    let flip : option_to_list (flip_of p.qubits c.args.self.now.frame s) ≡ c.in-Some.flip ∷ [] = ap option_to_list (sym c.in_ok-flip.ensures.flip ∙ c.in-Some.is) in
    rw (c.requires.begun, c.in_ok-push.ensures.items, c.in_ok-flip.ensures.carried, ← flip)
    (on-way-carried p behind v c.args.self.now.collapsed s steps c.args.self.now.frame c.args.self.now.flips.items (rw c.requires.begun at h))

pub returns-in_default-clause-way : goal.returns-in_default-clause-way
returns-in_default-clause-way g c behind v steps h =
    let p = c.args.program.now.listing in
    let s = listed p.qubits c.args.step in
    let flip : option_to_list (flip_of p.qubits c.args.self.now.frame s) ≡ [] = ap option_to_list (sym c.in_ok-flip.ensures.flip ∙ c.in_default.is) in
    let on = on-way-carried p behind v c.args.self.now.collapsed s steps c.args.self.now.frame c.args.self.now.flips.items (rw c.requires.begun at h) in
    rw (c.requires.begun, c.in_ok-flip.ensures.carried) (rw (flip, append-nil) at on)

pub returns-in_ok-push-clause-size : goal.returns-in_ok-push-clause-size
returns-in_ok-push-clause-size g c =
    let p = c.args.program.now.listing in
    ap (λ (f : Frame). length f.word) c.in_ok-flip.ensures.carried ∙ length-carried p (listed p.qubits c.args.step) c.args.self.now.frame c.requires.fits c.requires.size

pub returns-in_default-clause-size : goal.returns-in_default-clause-size
returns-in_default-clause-size g c =
    let p = c.args.program.now.listing in
    ap (λ (f : Frame). length f.word) c.in_ok-flip.ensures.carried ∙ length-carried p (listed p.qubits c.args.step) c.args.self.now.frame c.requires.fits c.requires.size
