-- The frames are turned by the flips that the letter meets, and cleared at its qubit where the collapse resets.
use Rattle.std.proofs.Common.{◌≡◌, ℕ, length, refl, ap, sym, ◌∙◌}
use Rattle.bit_rows.specs.Lanes.{lane_bit}
use Rattle.pauli_word.specs.Letters.{letters_clash}
use Rattle.pauli_word.specs.Words.{anticommute, lone_letter}
use Rattle.run_laws.proofs.ShiftWords.{anticommute-lone}
use Rattle.frames.specs.private.Followed.{flips_in, terms_of, turned_in}
use Rattle.frames.specs.LaneFrames.{GoesTo}
use Rattle.frames.specs.LaneLetters.{word_in}
use Rattle.frames.proofs.FollowedSteps.{flips_turned, goes_cleared, goes_left, goes_turned}
use Rattle.frames.proofs.LaneFrameLaws.{length-word_in}
use Rattle.frames.proofs.steps.collapse_letter.Given.{Over}
use Rattle.frames.proofs.steps.collapse_letter.Goals as goal
use Rattle.frames.proofs.steps.collapse_letter.Goals.{After-turn-flips}

-- the runs whose flips the letter meets
meets : (g : Over) (c : After-turn-flips g) (j : ℕ) → lane_bit j c.clashes-met.result ≡ anticommute (word_in j c.args.frames.now.letters) (lone_letter (length c.args.frames.now.letters) c.args.qubit c.args.letter)
meets g c j =
    let old = c.args.frames.now in
    c.clashes-met.ensures j
    ∙ ap (λ a. letters_clash a c.args.letter) (c.at.ensures j)
    ∙ sym (anticommute-lone (word_in j old.letters) (length old.letters) c.args.qubit c.args.letter (length-word_in j old.letters) c.requires.inside)

turns : (g : Over) (c : After-turn-flips g) → GoesTo c.args.frames.now c.turn-flips.new.frames (turned_in (length c.args.frames.now.letters) (terms_of c.args.replaced) c.args.coins (lone_letter (length c.args.frames.now.letters) c.args.qubit c.args.letter))
turns g c =
    let old = c.args.frames.now in
    let n = length old.letters in
    goes_turned n (terms_of c.args.replaced) c.args.coins c.clashes-met.result c.turn-flips.result c.args.qubit c.args.letter old c.turn-flips.new.frames refl (lone_letter n c.args.qubit c.args.letter) c.requires.turns (meets g c) c.turn-flips.ensures.moved c.turn-flips.ensures.flips

flips : (g : Over) (c : After-turn-flips g) (j : ℕ) → lane_bit j c.turn-flips.result ≡ flips_in (length c.args.frames.now.letters) (terms_of c.args.replaced) c.args.coins (lone_letter (length c.args.frames.now.letters) c.args.qubit c.args.letter) c.args.frames.now j
flips g c =
    let old = c.args.frames.now in
    let n = length old.letters in
    flips_turned n (terms_of c.args.replaced) c.args.coins c.clashes-met.result c.turn-flips.result c.args.qubit c.args.letter old c.turn-flips.new.frames refl (lone_letter n c.args.qubit c.args.letter) c.requires.turns (meets g c) c.turn-flips.ensures.moved c.turn-flips.ensures.flips

pub returns-then-reset-clause-moved : goal.returns-then-reset-clause-moved
returns-then-reset-clause-moved g c =
    let old = c.args.frames.now in
    let here = (goal.at.returns-then-reset-clause-moved g c).After-turn-flips in
    rw c.if-reset.true (goes_cleared (length old.letters) (terms_of c.args.replaced) c.args.coins c.args.letter c.args.qubit old c.turn-flips.new.frames c.clear.new.self (turns g here) c.clear.ensures)

pub returns-then-reset-clause-flips : goal.returns-then-reset-clause-flips
returns-then-reset-clause-flips g c = flips g (goal.at.returns-then-reset-clause-flips g c).After-turn-flips

pub returns-else-reset-clause-moved : goal.returns-else-reset-clause-moved
returns-else-reset-clause-moved g c =
    let old = c.args.frames.now in
    let here = (goal.at.returns-else-reset-clause-moved g c).After-turn-flips in
    rw c.if-reset.false (goes_left (length old.letters) (terms_of c.args.replaced) c.args.coins c.args.letter c.args.qubit old c.turn-flips.new.frames (turns g here))

pub returns-else-reset-clause-flips : goal.returns-else-reset-clause-flips
returns-else-reset-clause-flips g c = flips g (goal.at.returns-else-reset-clause-flips g c).After-turn-flips
