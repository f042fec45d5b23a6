use Rattle.std.proofs.Common.{length, sym, ◌∙◌}
use Rattle.tableau.proofs.KeptRows.{Collapses, kept_size, collapses}
use Rattle.tableau.proofs.tableau.Tableau.collapse_word.Given.{Over}
use Rattle.tableau.proofs.tableau.Tableau.collapse_word.Goals as goal
use Rattle.tableau.proofs.tableau.Tableau.collapse_word.Goals.{After-collapse_code}

pub encode-requires-clause-word : goal.encode-requires-clause-word
encode-requires-clause-word g c = c.requires ∙ sym (kept_size c.self.inside.rows.items c.args.self.now c.self.invariant.0 c.self.view_is)

pub collapse_code-requires-clause-word : goal.collapse_code-requires-clause-word
collapse_code-requires-clause-word g c = c.requires ∙ sym (kept_size c.self.inside.rows.items c.args.self.now c.self.invariant.0 c.self.view_is)

-- what the collapse owes
owed : (g : Over) (c : After-collapse_code g) → Collapses (length c.self.inside.rows.items) c.args.self.now c.collapse_code.new.rows.items c.args.word.now.letters c.args.coin c.collapse_code.result.0 c.collapse_code.result.1
owed g c =
    collapses c.self.inside.rows.items c.args.self.now c.self.invariant.0 c.self.view_is c.args.word.now.letters c.args.coin c.requires c.encode.new.code.0 c.encode.ensures.of_word
    c.collapse_code.new.rows.items c.collapse_code.ensures.rows c.collapse_code.result.0 c.collapse_code.ensures.outcome c.collapse_code.result.1 c.collapse_code.ensures.row

pub invariant_of-self : goal.invariant_of-self
invariant_of-self g c =
    let kept = (owed g (goal.at.invariant_of-self g c).After-collapse_code).keeps in
    (kept.tableau, kept.long _ c.collapse_code.ensures.code, kept.long _ c.self.invariant.2)

pub returns : goal.returns
returns g c = (owed g (goal.at.returns g c).After-collapse_code).owed
