use Rattle.std.proofs.Common.{◌≡◌, List, [], ap₂, subst, sym, ◌∙◌}
use Rattle.std.specs.Prelude.{replicate}
use Rattle.record_targets.specs.declared.record_lists.Link.{Link}
use Rattle.record_targets.specs.private.Links.{AreLists, rows_at}
use Rattle.record_targets.proofs.LinkLemmas.{no_lists, no_rows}
use Rattle.record_targets.proofs.record_lists.RecordLists.new.Goals as goal

pub invariant_of-result : goal.invariant_of-result
invariant_of-result g c =
    let m = c.args.targets in
    let zeros : c.in_ok-places.places.items ≡ replicate c.args.records 0 = c.in_ok-places.ensures.items_if_clones_equal (λ y h. h) in
    subst (λ (links : List Link). AreLists m links c.in_ok-places.places.items) (sym c.new.ensures.items)
    (subst (AreLists m []) (sym zeros) (no_lists m c.args.records))

pub returns : goal.returns
returns g c =
    let zeros : c.in_ok-places.places.items ≡ replicate c.args.records 0 = c.in_ok-places.ensures.items_if_clones_equal (λ y h. h) in
    ap₂ (rows_at c.args.targets) c.new.ensures.items zeros ∙ no_rows c.args.targets c.args.records
