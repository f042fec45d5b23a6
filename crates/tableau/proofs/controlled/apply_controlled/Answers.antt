use Rattle.std.proofs.Common.{sym, ap₂, ◌∙◌}
use Rattle.pauli_word.specs.declared.letter.Letter.{Letter}
use Rattle.tableau.specs.private.ControlledSteps.{after_controlled}
use Rattle.tableau.proofs.ControlledRows.{set_swapped}
use Rattle.tableau.proofs.controlled.apply_controlled.Goals as goal

pub returns-in-Z-X : goal.returns-in-Z-X
returns-in-Z-X g c =
    c.multiply_at.ensures ∙ ap₂ (λ (own other : Letter). after_controlled own other c.args.a c.args.b c.args.rows.now) (sym c.in-Z-X.is-0) (sym c.in-Z-X.is-1)

pub returns-in-Z-Z : goal.returns-in-Z-Z
returns-in-Z-Z g c =
    c.multiply_at-in-Z-Z.ensures ∙ ap₂ (λ (own other : Letter). after_controlled own other c.args.a c.args.b c.args.rows.now) (sym c.in-Z-Z.is-0) (sym c.in-Z-Z.is-1)

-- the pairs are written in the other order
pub returns-then-eq : goal.returns-then-eq
returns-then-eq g c =
    c.multiply_at-then-eq.ensures ∙ set_swapped c.args.rows.now c.args.b c.args.a _ _ (λ e. c.requires.rows.differ (sym e))
