use Rattle.std.proofs.Common.{◌<◌, subst, sym, ◌∙◌}
use Rattle.std.specs.Prelude.{All}
use Rattle.backward.proofs.PassPlaces.{hit_in_words}
use Rattle.backward.proofs.found.Found.note_hit.Goals as goal

pub note-requires-clause-hit : goal.note-requires-clause-hit
note-requires-clause-hit g c =
    subst (All (λ t. t < c.args.targets)) (sym (c.as_slice.ensures.value ∙ c.in_ok-hit.ensures.hit))
    (hit_in_words c.args.targets c.args.terms.now (g.T.Tracker.tracked c.args.tracker.now) c.requires.words)
