-- One more node, and the list of the targets that were read for it.
use Rattle.stim_lexer.proofs.FlatLemmas.{items_kept-push}
use Rattle.stim_lexer.proofs.builder.Builder.add.Goals as goal

pub returns-clause-items : goal.returns-clause-items
returns-clause-items g c =
    rw (
      c.push_reserved.ensures.items,
      c.reserve.ensures.items,
      c.in_ok-end.ensures.ok,
      items_kept-push c.self.inside.targets.lists c.self.inside.nodes.items c.self.inside.targets.next c.args.node c.self.invariant,
      ← c.self.view_is,
    )
