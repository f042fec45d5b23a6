-- The frame flips nothing before it begins, and begins behind the collapse that is none ahead.
use Rattle.std.proofs.Common.{◌≡◌, ◌-◌, ◌∷◌, suc, ap, ◌∙◌, sym, subst, true, false, Some, length, arith}
use Rattle.circuit_walk.specs.Steps.{listed}
use Rattle.step_model.specs.Frames.{Frame}
use Rattle.step_model.specs.Listing.{is_collapse}
use Rattle.frames.specs.private.LoneFrames.{IsOnWay}
use Rattle.frames.proofs.LoneLemmas.{on-way-step, on-way-collapse, on-way-begun, on-way-collapsed}
use Rattle.frames.proofs.lone_frame.LoneFrame.pass.Goals as goal

pub returns-then-not-is_collapse-clause-way : goal.returns-then-not-is_collapse-clause-way
returns-then-not-is_collapse-clause-way g c behind v steps h =
    let p = c.args.program.now.listing in
    let s = listed p.qubits c.args.step in
    let other : is_collapse s ≡ false = sym (c.is_collapse.ensures p.qubits) ∙ c.if-not-is_collapse.true in
    rw (c.requires.ahead, c.in_ok-pass.ensures p.qubits)
    (on-way-step p behind v c.args.self.now.collapsed s steps c.args.self.now.frame c.args.self.now.flips.items c.args.ahead other (rw c.requires.ahead at h))

pub returns-then-not-is_collapse-clause-size : goal.returns-then-not-is_collapse-clause-size
returns-then-not-is_collapse-clause-size g c = ap (λ (f : Frame). length f.word) (c.in_ok-pass.ensures c.args.program.now.listing.qubits) ∙ c.requires.size

pub returns-then-ahead-gt0-clause-way : goal.returns-then-ahead-gt0-clause-way
returns-then-ahead-gt0-clause-way g c behind v steps h =
    let p = c.args.program.now.listing in
    let s = listed p.qubits c.args.step in
    let here : is_collapse s ≡ true = sym (c.is_collapse.ensures p.qubits) ∙ c.if-not-is_collapse.false in
    let more : c.args.ahead ≡ suc (c.args.ahead - 1) = omega (arith, c.if-ahead-gt0.true) in
    rw (c.in_ok-push.ensures.items, c.in_ok-pass.ensures p.qubits)
    (on-way-collapse p behind v c.args.self.now.collapsed s steps c.args.self.now.frame c.args.self.now.flips.items (c.args.ahead - 1) here
    (subst (λ a. IsOnWay p behind v c.args.self.now.collapsed (s ∷ steps) (Some a) c.args.self.now.frame c.args.self.now.flips.items) more (rw c.requires.ahead at h)))

pub returns-then-ahead-gt0-clause-size : goal.returns-then-ahead-gt0-clause-size
returns-then-ahead-gt0-clause-size g c = ap (λ (f : Frame). length f.word) (c.in_ok-pass.ensures c.args.program.now.listing.qubits) ∙ c.requires.size

pub returns-in_ok-word-clause-way : goal.returns-in_ok-word-clause-way
returns-in_ok-word-clause-way g c behind v steps h =
    let p = c.args.program.now.listing in
    let s = listed p.qubits c.args.step in
    let here : is_collapse s ≡ true = sym (c.is_collapse.ensures p.qubits) ∙ c.if-not-is_collapse.false in
    let none : c.args.ahead ≡ 0 = omega (arith, c.if-ahead-gt0.false) in
    rw (c.in_ok-push.ensures.items, c.begin_as.ensures, c.in_ok-word.ensures.word, c.in_ok-pass.ensures p.qubits)
    (on-way-collapsed p behind v c.args.self.now.collapsed s steps c.args.self.now.frame c.args.self.now.flips.items here c.if-self.true
    (subst (λ a. IsOnWay p behind v c.args.self.now.collapsed (s ∷ steps) (Some a) c.args.self.now.frame c.args.self.now.flips.items) none (rw c.requires.ahead at h)))

pub returns-else-self-clause-way : goal.returns-else-self-clause-way
returns-else-self-clause-way g c behind v steps h =
    let p = c.args.program.now.listing in
    let s = listed p.qubits c.args.step in
    let here : is_collapse s ≡ true = sym (c.is_collapse.ensures p.qubits) ∙ c.if-not-is_collapse.false in
    let none : c.args.ahead ≡ 0 = omega (arith, c.if-ahead-gt0.false) in
    rw (c.in_ok-push.ensures.items, c.in_ok-pass.ensures p.qubits)
    (on-way-begun p behind v c.args.self.now.collapsed s steps c.args.self.now.frame c.args.self.now.flips.items here c.if-self.false
    (subst (λ a. IsOnWay p behind v c.args.self.now.collapsed (s ∷ steps) (Some a) c.args.self.now.frame c.args.self.now.flips.items) none (rw c.requires.ahead at h)))

pub returns-else-self-clause-size : goal.returns-else-self-clause-size
returns-else-self-clause-size g c = ap (λ (f : Frame). length f.word) (c.in_ok-pass.ensures c.args.program.now.listing.qubits) ∙ c.requires.size
