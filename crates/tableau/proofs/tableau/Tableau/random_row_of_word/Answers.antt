use Rattle.std.proofs.Common.{false, sym, ◌∙◌}
use Rattle.tableau.proofs.KeptRows.{kept_size, named}
use Rattle.tableau.proofs.tableau.Tableau.random_row_of_word.Goals as goal

pub encode-requires-clause-word : goal.encode-requires-clause-word
encode-requires-clause-word g c = c.requires ∙ sym (kept_size c.self.inside.rows.items c.args.self.now c.self.invariant.0 c.self.view_is)

pub returns-clause-row : goal.returns-clause-row
returns-clause-row g c =
    named c.self.inside.rows.items c.args.self.now c.self.invariant.0 c.self.view_is c.args.word.now.letters false c.requires c.encode.new.code.0 c.encode.ensures.of_word
    c.lowest_x_or_y.result c.lowest_x_or_y.ensures
