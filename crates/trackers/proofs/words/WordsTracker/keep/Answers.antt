use Rattle.std.proofs.Common.{◌≡◌, List, ℕ, subst, sym, ◌∙◌, ap}
use Rattle.std.proofs.lemmas.Result.{IfOk-weaker}
use Rattle.trackers.specs.Tracked.{Fit, Tracked, restored}
use Rattle.trackers.specs.private.Transposed.{lists_of_each}
use Rattle.trackers.proofs.KeptLemmas.{kept_fit, kept_restored}
use Rattle.trackers.proofs.words.WordsTracker.keep.Goals as goal

pub returns-clause-fit : goal.returns-clause-fit
returns-clause-fit g c =
    let m = c.self.inside.targets in
    let columns = c.self.inside.columns.items in
    IfOk-weaker c.keep_columns.result _ _
    (λ lists made. subst (λ (l : List (List ℕ)). Fit c.args.self.now l) (sym (made ∙ ap lists_of_each c.deref.ensures.value))
    (subst (λ (t : Tracked). Fit t (lists_of_each columns)) c.self.view_is (kept_fit m columns c.self.invariant.columns_long)))
    c.keep_columns.ensures

pub returns-clause-words : goal.returns-clause-words
returns-clause-words g c =
    let m = c.self.inside.targets in
    let columns = c.self.inside.columns.items in
    IfOk-weaker c.keep_columns.result _ _
    (λ lists made. subst (λ (l : List (List ℕ)). restored l c.args.self.now ≡ c.args.self.now) (sym (made ∙ ap lists_of_each c.deref.ensures.value))
    (subst (λ (t : Tracked). restored (lists_of_each columns) t ≡ t) c.self.view_is (kept_restored m columns c.self.invariant.columns_long)))
    c.keep_columns.ensures
