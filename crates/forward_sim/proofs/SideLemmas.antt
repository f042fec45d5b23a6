-- Where the generator is left by no shots.
use Rattle.std.proofs.Common.{◌≡◌, ℕ, ◌+◌, ◌*◌, ap, ◌∙◌, arith}
use Rattle.rand_pcg.specs.Lcg.{Lcg}
use Rattle.forward_sim.specs.Drawn.{after_words, after_shots}
use Rattle.forward_sim.proofs.WordLemmas.{after_words-none}

pub none_taken : (faults collapses : ℕ) (g : Lcg) → after_shots faults collapses 0 g ≡ g
none_taken faults collapses g =
    let none : 0 * (faults + collapses) ≡ 0 = omega arith in
    ap (λ n. after_words n g) none ∙ after_words-none g
