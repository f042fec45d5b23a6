use Rattle.std.proofs.Common.{arith, ap₂, ◌∙◌}
use Rattle.pauli_word.specs.Bits.{letter_of}
use Rattle.pauli_word.proofs.BitWords.{seen_length, seen_letter}
use Rattle.pauli_word.proofs.word.Word.letter.Goals as goal

pub get_both-bits-requires-clause-first : goal.get_both-bits-requires-clause-first
get_both-bits-requires-clause-first g c =
    let rows = seen_length c.self.inside.x c.self.inside.z c.self.inside.negative c.args.self.now c.self.invariant c.self.view_is in
    omega (arith, rows, c.requires)

pub get_both-bits-requires-clause-second : goal.get_both-bits-requires-clause-second
get_both-bits-requires-clause-second g c =
    let rows = seen_length c.self.inside.x c.self.inside.z c.self.inside.negative c.args.self.now c.self.invariant c.self.view_is in
    omega (arith, rows, c.self.invariant, c.requires)

pub returns : goal.returns
returns g c =
    c.of_bits.ensures
    ∙ (ap₂ letter_of c.get_both-bits.ensures.first c.get_both-bits.ensures.second
    ∙ seen_letter c.self.inside.x c.self.inside.z c.self.inside.negative c.args.self.now c.args.qubit c.self.invariant c.self.view_is)
