-- One more generator stands where the next shot begins.
use Rattle.std.proofs.Common.{◌≡◌, ◌+◌, ◌*◌, ◌<◌, length, set, get_or-set_same, get_or-set_other, sym, ap, ap₂, subst, ◌∙◌, arith, ⊎_elim}
use Rattle.std.proofs.lemmas.Bool.{cases_eq}
use Rattle.forward_sim.specs.Drawn.{after_words}
use Rattle.forward_sim.specs.private.AllLanes.{generator_at, nobody}
use Rattle.forward_sim.proofs.WordLemmas.{after_words-none, after_words-add}
use Rattle.forward_sim.proofs.side_draws.set_apart.Goals as goal

pub loop-l-init : goal.loop-l-init
loop-l-init c =
    let none : 0 * c.args.words ≡ 0 = omega arith in
    record { each = λ k h. absurd (omega arith); taken = c.copy_of-next.ensures ∙ sym (ap (λ n. after_words n c.args.rng.now) none ∙ after_words-none c.args.rng.now) }

pub loop-l-preserved : goal.loop-l-preserved
loop-l-preserved c =
    let l = c.loop-l.l in
    let words = c.args.words in
    let from = c.args.rng.now in
    let so_far = c.loop-l.invariant in
    let here : l < length c.loop-l.generators = omega (arith, c.loop-l-test.true, c.loop-l.auto.generators) in
    let next : l * words + words ≡ (l + 1) * words = omega arith in
    let one = c.copy_of.result in
    record {
      each = λ k h.
          ⊎_elim
          (λ (e : k ≡ l).
          subst (λ i. generator_at (set c.loop-l.generators l one) i ≡ after_words (i * words) from) (sym e)
          (get_or-set_same c.loop-l.generators l one nobody here ∙ (c.copy_of.ensures ∙ so_far.taken)))
          (λ (ne : k ≡ l → ⊥).
          get_or-set_other c.loop-l.generators l k one nobody ne ∙ so_far.each k (omega (arith, h, ne)))
          (cases_eq k l);
      taken =
          c.leap.ensures
          ∙ (ap₂ after_words c.of-jump.ensures so_far.taken
          ∙ (sym (after_words-add (l * words) words from)
          ∙ ap (λ n. after_words n from) next));
    }
