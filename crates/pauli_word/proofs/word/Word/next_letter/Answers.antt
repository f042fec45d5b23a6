use Rattle.pauli_word.proofs.NextLetters.{next_found}
use Rattle.pauli_word.proofs.word.Word.next_letter.Goals as goal

pub returns : goal.returns
returns g c =
    next_found c.self.inside.x c.self.inside.z c.self.inside.negative c.args.self.now c.self.invariant c.self.view_is c.args.start c.first_one_from.result
    c.first_one_from.ensures.none c.first_one_from.ensures.within c.first_one_from.ensures.is_set c.first_one_from.ensures.before
