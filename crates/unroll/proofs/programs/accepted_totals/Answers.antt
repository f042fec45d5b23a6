use Rattle.std.proofs.Common.{◌≡◌, None, sym, ◌∙◌}
use Rattle.unroll.specs.private.Counted.{refusal_counted}
use Rattle.unroll.proofs.FarLines.{refused-as-counted}
use Rattle.unroll.proofs.programs.accepted_totals.Goals as goal

pub returns-in-Some-clause-err : goal.returns-in-Some-clause-err
returns-in-Some-clause-err g c =
    sym (refused-as-counted c.args.circuit.now c.fits.ensures.fit) ∙ sym c.refusal_of.ensures ∙ c.in-Some.is

pub returns-in-None-clause-ok : goal.returns-in-None-clause-ok
returns-in-None-clause-ok g c =
    let counted : refusal_counted c.args.circuit.now ≡ None = sym c.refusal_of.ensures ∙ c.in-None.is in
    record {
      circuit = c.fits.ensures;
      counted = counted;
      accepted = sym (refused-as-counted c.args.circuit.now c.fits.ensures.fit) ∙ counted;
      are_totals = c.totals_of-totals.ensures;
    }
