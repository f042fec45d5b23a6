use Rattle.std.proofs.Common.{false, ap, sym, ◌∙◌}
use Rattle.pauli_word.specs.Words.{signed}
use Rattle.tableau.proofs.KeptRows.{kept_size, inside, destabilizer_letters}
use Rattle.tableau.proofs.tableau.Tableau.destabilizer.Goals as goal

pub decode-requires-clause-inside : goal.decode-requires-clause-inside
decode-requires-clause-inside g c = inside c.self.inside.rows.items c.args.self.now c.self.invariant.0 c.self.view_is c.args.row c.requires.inside

pub decode-requires-clause-lengths : goal.decode-requires-clause-lengths
decode-requires-clause-lengths g c = c.requires.lengths ∙ sym (kept_size c.self.inside.rows.items c.args.self.now c.self.invariant.0 c.self.view_is)

pub returns : goal.returns
returns g c =
    c.decode.ensures ∙ ap (λ l. signed l false) (sym (destabilizer_letters c.self.inside.rows.items c.args.self.now c.self.invariant.0 c.self.view_is c.args.row (inside c.self.inside.rows.items c.args.self.now c.self.invariant.0 c.self.view_is c.args.row c.requires.inside)))
