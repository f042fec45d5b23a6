-- A collapse's flip is whether its letter clashes with the frame's letter at its qubit, or its product anticommutes with the frame.
use Rattle.std.proofs.Common.{◌≡◌, ◌<◌, ◌++◌, Some, set, sym, ap, ◌∙◌}
use Rattle.std.specs.Prelude.{if◌then◌else◌}
use Rattle.pauli_word.specs.declared.letter.Letter.TheVariants.{I}
use Rattle.pauli_word.specs.Letters.{letters_clash}
use Rattle.pauli_word.specs.Words.{anticommute, letter_at}
use Rattle.circuit_walk.specs.Letters.{letters_in}
use Rattle.circuit_walk.specs.Steps.{measured, recorded}
use Rattle.step_model.specs.Frames.{Frame}
use Rattle.step_model.specs.Listing.{Collapse, word_of_terms}
use Rattle.frames.specs.private.Flips.{flip_of, recorded_flips}
use Rattle.frames.proofs.FrameSteps.{frame, flip_of-letter, carried-letter, carried-word}
use Rattle.frames.proofs.frame.Frame.carry.Given.{Over}
use Rattle.frames.proofs.frame.Frame.carry.Goals as goal
use Rattle.frames.proofs.frame.Frame.carry.Goals.{After-clashes-flip}

inside : (g : Over) (c : After-clashes-flip g) → c.in-Collapse.qubit < c.args.program.now.listing.qubits
inside g c = (rw c.in-Collapse.is at c.requires.named).1

clash : (g : Over) (c : After-clashes-flip g) → c.clashes-flip.result ≡ letters_clash (letter_at c.args.self.now.word c.in-Collapse.qubit) c.in-Collapse.letter
clash g c =
    let k = c.in-Collapse in
    c.clashes-flip.ensures
    ∙ (ap (λ a. letters_clash a k.letter) c.letter.ensures
    ∙ ap (λ (f : Frame). letters_clash (letter_at f.word k.qubit) k.letter) c.self.view_is)

flips : (g : Over) (c : After-clashes-flip g) → Some c.clashes-flip.result ≡ flip_of c.args.program.now.listing.qubits c.args.self.now (Collapse (measured c.args.program.now.listing.qubits c.in-Collapse.reset c.in-Collapse.letter c.in-Collapse.qubit) (recorded c.in-Collapse.rec c.in-Collapse.inverted c.in-Collapse.flip))
flips g c =
    let n = c.args.program.now.listing.qubits in
    let k = c.in-Collapse in
    ap Some (clash g c) ∙ sym (flip_of-letter n c.args.self.now k.letter k.qubit k.rec k.inverted k.flip c.requires.size (inside g c) k.reset)

pub returns-in-Collapse-clause-flip : goal.returns-in-Collapse-clause-flip
returns-in-Collapse-clause-flip g c =
    rw c.in-Collapse.is (flips g (goal.at.returns-in-Collapse-clause-flip g c).After-clashes-flip)

pub returns-in-Collapse-clause-carried : goal.returns-in-Collapse-clause-carried
returns-in-Collapse-clause-carried g c =
    let n = c.args.program.now.listing.qubits in
    let old = c.args.self.now in
    let k = c.in-Collapse in
    let here = (goal.at.returns-in-Collapse-clause-carried g c).After-clashes-flip in
    rw k.is
    (c.clear.ensures
    ∙ (ap (λ (f : Frame). frame (if k.reset then set f.word k.qubit I else f.word) f.records) c.in_ok-record-in-Collapse.ensures
    ∙ (ap (λ flip. frame (if k.reset then set old.word k.qubit I else old.word) (old.records ++ recorded_flips k.rec flip)) (clash g here)
    ∙ sym (carried-letter n old k.letter k.qubit k.rec k.inverted k.flip c.requires.size (inside g here) k.reset))))

pub returns-in-CollapseWord-clause-carried : goal.returns-in-CollapseWord-clause-carried
returns-in-CollapseWord-clause-carried g c =
    let n = c.args.program.now.listing.qubits in
    let old = c.args.self.now in
    let k = c.in-CollapseWord in
    let terms = letters_in k.letters in
    let meets = c.meets-flip.ensures ∙ ap (λ m. anticommute old.word (word_of_terms m terms)) c.requires.size in
    rw k.is
    (c.in_ok-record-in-CollapseWord.ensures
    ∙ (ap (λ flip. frame old.word (old.records ++ recorded_flips k.rec flip)) meets
    ∙ sym (carried-word n old (word_of_terms n terms) k.rec k.inverted k.flip)))
