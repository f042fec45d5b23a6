use Rattle.std.proofs.Common.{ℕ, ◌==◌, List, length, ap, sym, ◌∙◌}
use Rattle.trackers.proofs.SetLemmas.{add_none}
use Rattle.trackers.proofs.list_set.ListSet.is_empty.Goals as goal

pub returns : goal.returns
returns g c h row long =
    let none = sym (ap (λ (xs : List ℕ). length xs == 0) c.as_slice.ensures) ∙ (sym c.is_empty.ensures ∙ h) in
    add_none row c.args.self.now c.self.inside.targets c.self.inside.items.items long none c.self.view_is
