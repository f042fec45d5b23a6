use Rattle.std.proofs.Common.{◌≡◌, [], ap, length, map, refl, ◌∙◌}
use Rattle.std.specs.List.{range_with_len}
use Rattle.std.proofs.lemmas.List.{length-replicate}
use Rattle.std.proofs.lemmas.Result.{IfOk-weaker}
use Rattle.stim_lexer.specs.Flat.{tree_of}
use Rattle.dem_text.specs.Meanings.{last_coordinates}
use Rattle.dem_text.specs.Models.{placed_lines}
use Rattle.dem_text.specs.private.Marked.{list_numbered}
use Rattle.dem_text.proofs.MarkLemmas.{marking-done}
use Rattle.dem_text.proofs.coordinates.coordinates_of.Goals as goal

pub returns : goal.returns
returns g c =
    let all = placed_lines (tree_of c.args.kept.now) in
    let new = c.mark_lines.new.self in
    let long = ap length c.in_ok-no_marks.ensures ∙ length-replicate c.args.detectors 0 in
    IfOk-weaker c.stood_for.result _ (λ found. found ≡ map (λ d. last_coordinates d [] all) (range_with_len 0 c.args.detectors))
    (λ found is.
    is
    ∙ ap (map (list_numbered new.lists)) c.as_slice.ensures.value
    ∙ marking-done all [] new.lists new.marks.items _ c.in_ok-mark_lines.ensures refl
    ∙ ap (λ n. map (λ d. last_coordinates d [] all) (range_with_len 0 n)) long)
    c.stood_for.ensures
