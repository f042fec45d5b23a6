-- The coordinates of the next detector are pushed, where there is memory for them.
use Rattle.std.proofs.Common.{[], ◌∷◌, ◌++◌, ap₂, sym, ◌∙◌}
use Rattle.std.proofs.lemmas.List.{take_more}
use Rattle.std.proofs.lemmas.Option.{get_or_from_slice_get, slice_get_within}
use Rattle.backward.proofs.analysis.GatheringCoordinateTaker.take.Goals as goal

pub returns-in-Ok : goal.returns-in-Ok
returns-in-Ok g c begun d stands given well =
    let coordinates = c.args._program.now.listing.coordinates in
    let next = c.args.coordinates.now in
    c.in-Ok.ensures.ok
    ∙ ap₂ (λ lists list. lists ++ list ∷ []) (stands well) (sym (get_or_from_slice_get coordinates d next [] given))
    ∙ sym (take_more coordinates d [] (slice_get_within coordinates d next given))
