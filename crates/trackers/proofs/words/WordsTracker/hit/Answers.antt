use Rattle.std.proofs.Common.{◌≡◌, List, OnOk, length, ap, ap₂, rules, ◌∙◌, arith}
use Rattle.std.proofs.lemmas.Result.{on_ok_weaker}
use Rattle.pauli_word.specs.declared.letter.Letter.{Letter}
use Rattle.trackers.specs.Tracked.{anticommuting}
use Rattle.trackers.specs.private.Transposed.{tracked_of}
use Rattle.trackers.proofs.LengthLemmas.{lent_long}
use Rattle.trackers.proofs.words.WordsTracker.hit.Goals as goal

pub list_hit-listed-requires-clause-terms : goal.list_hit-listed-requires-clause-terms
list_hit-listed-requires-clause-terms g c = λ k d lt. let below = c.requires k d lt in omega (arith, below, ap length c.as_slice-columns.ensures.value, ap (λ t. t.qubits) c.self.view_is)

pub list_hit-listed-requires-clause-long : goal.list_hit-listed-requires-clause-long
list_hit-listed-requires-clause-long g c =
    lent_long c.self.inside.targets c.self.inside.columns.items _ (g.S.TargetSet.bits c.self.inside.set) c.as_slice-columns.ensures.value c.self.invariant.set_long c.self.invariant.columns_long

pub returns-clause-hit : goal.returns-clause-hit
returns-clause-hit g c =
    let columns = c.self.inside.columns.items in
    let hit : OnOk c.list_hit-listed.result (c.list_hit-listed.new.hit.items ≡ anticommuting c.args.terms.now c.args.self.now) =
    on_ok_weaker c.list_hit-listed.result
    (λ h. h ∙ (ap₂ (λ m (columns : List (List Letter)). anticommuting c.args.terms.now (tracked_of m columns)) c.self.invariant.set_long c.as_slice-columns.ensures.value ∙ ap (anticommuting c.args.terms.now) c.self.view_is))
    c.list_hit-listed.ensures.hit in
    search rules

-- the sets stay as long
pub invariant_of-self : goal.invariant_of-self
invariant_of-self g c =
    record {
      columns_long = c.self.invariant.columns_long;
      first_long = c.self.invariant.first_long;
      second_long = c.self.invariant.second_long;
      set_long = c.list_hit-listed.ensures.len ∙ c.self.invariant.set_long;
      spare_long = c.list_hit-listed.ensures.spare ∙ c.self.invariant.spare_long;
      few = c.self.invariant.few;
    }
