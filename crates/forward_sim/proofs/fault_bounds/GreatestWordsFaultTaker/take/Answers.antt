-- The word is pushed whose next number is the bound.
use Rattle.std.proofs.Common.{◌+◌, ◌∷◌, [], ◌++◌, sym, ap, ◌∙◌}
use Rattle.std.proofs.lemmas.List.{map-append}
use Rattle.forward_sim.specs.private.BoundRuns.{bounds_above}
use Rattle.forward_sim.proofs.BoundLemmas.{bounds_more}
use Rattle.forward_sim.proofs.fault_bounds.GreatestWordsFaultTaker.take.Goals as goal

pub returns : goal.returns
returns g c begun before well =
    let words = c.args.self.now.words.items in
    let most = c.word_below.result in
    let bound = c.chance_bound-bound.result in
    let was = before well in
    record {
      room_is = c.push_reserved.ensures.capacity ∙ was.room_is;
      bounds_are =
          ap bounds_above c.push_reserved.ensures.items
          ∙ map-append (λ w. w + 1) words (most ∷ [])
          ∙ ap (λ b. bounds_above words ++ b ∷ []) (sym (c.word_below.ensures.next c.if-bound.false))
          ∙ bounds_more c.args.program.now.listing (bounds_above words) c.args.fault.number bound c.requires.fault.there (c.chance_bound-bound.ensures ∙ c.requires.fault.bound) was.bounds_are;
    }
