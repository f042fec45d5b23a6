use Rattle.std.proofs.Common.{ℕ, ◌≤◌, subst, sym}
use Rattle.pauli_word.proofs.BitWords.{seen_length}
use Rattle.pauli_word.proofs.word.Word.is_short.Goals as goal

pub returns : goal.returns
returns g c =
    let long = seen_length c.self.inside.x c.self.inside.z c.self.inside.negative c.args.self.now c.self.invariant c.self.view_is in (
      λ yes. subst (λ (n : ℕ). n ≤ 64) (sym long) (c.is_short.ensures.0 yes),
      λ low. c.is_short.ensures.1 (subst (λ (n : ℕ). n ≤ 64) long low),
    )
