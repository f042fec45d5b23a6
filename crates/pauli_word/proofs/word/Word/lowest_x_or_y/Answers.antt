use Rattle.std.proofs.Common.{ap, ◌∙◌}
use Rattle.pauli_word.specs.Words.{lowest_X_or_Y}
use Rattle.pauli_word.proofs.LowestLetters.{lowest-letters_of}
use Rattle.pauli_word.proofs.word.Word.lowest_x_or_y.Goals as goal

pub returns : goal.returns
returns g c =
    c.first_one.ensures
    ∙ (lowest-letters_of c.self.inside.x c.self.inside.z c.self.invariant ∙ ap (λ w. lowest_X_or_Y w.letters) c.self.view_is)
