use Rattle.std.proofs.Common.{length, ap, sym, subst, ◌∙◌, arith}
use Rattle.std.proofs.lemmas.List.{length-replicate}
use Rattle.std.specs.Prelude.{All}
use Rattle.pauli_word.specs.declared.letter.Letter.TheVariants.{I}
use Rattle.tableau.specs.private.Waiting.{IsSized}
use Rattle.tableau.proofs.WaitingLaws.{sized_more}
use Rattle.tableau.proofs.waiting_turns.identity_turns.Goals as goal

pub loop-init : goal.loop-init
loop-init g c =
    record {
      sized = subst (All (IsSized c.args.n)) (sym c.in_ok-turns.ensures.items) (λ k d h. absurd (omega arith));
      space = omega (arith, c.in_ok-turns.ensures.len, c.in_ok-turns.ensures.capacity);
    }

pub push_reserved-requires : goal.push_reserved-requires
push_reserved-requires g c = omega (arith, c.loop.invariant.space, c.loop-test.true)

pub loop-preserved : goal.loop-preserved
loop-preserved g c =
    record {
      sized =
          subst (All (IsSized c.args.n)) (sym c.push_reserved.ensures.items)
          (sized_more c.args.n c.loop.turns.items _ c.loop.invariant.sized (ap (λ w. length w.letters) c.in_ok-identity.ensures ∙ length-replicate c.args.n I));
      space = omega (arith, c.loop.invariant.space, c.push_reserved.ensures.len, c.push_reserved.ensures.capacity, c.loop-test.true);
    }

pub returns : goal.returns
returns g c = c.loop.invariant.sized
