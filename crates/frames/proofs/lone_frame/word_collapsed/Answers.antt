use Rattle.std.proofs.Common.{sym}
use Rattle.frames.proofs.FrameSteps.{measured_word-measured}
use Rattle.frames.proofs.lone_frame.word_collapsed.Goals as goal

pub returns-in-Collapse-clause-word : goal.returns-in-Collapse-clause-word
returns-in-Collapse-clause-word g c =
    let k = c.in-Collapse in
    let n = c.args.program.now.listing.qubits in
    let whole = sym (measured_word-measured n k.reset k.letter k.qubit) in
    rw k.is (rw (c.qubits-qubits.ensures, whole) at c.lone_word.ensures.word)

pub returns-in-CollapseWord-clause-word : goal.returns-in-CollapseWord-clause-word
returns-in-CollapseWord-clause-word g c =
    rw c.in-CollapseWord.is (rw c.qubits-qubits.ensures at c.product_of.ensures.product)
