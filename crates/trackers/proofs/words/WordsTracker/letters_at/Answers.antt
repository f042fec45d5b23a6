use Rattle.std.proofs.Common.{sym, ap, ◌∙◌, arith}
use Rattle.trackers.specs.Tracked.{letters_at}
use Rattle.trackers.proofs.CountLemmas.{column_counted}
use Rattle.trackers.proofs.LengthLemmas.{lent}
use Rattle.trackers.proofs.words.WordsTracker.letters_at.Goals as goal

pub letter_count-requires : goal.letter_count-requires
letter_count-requires g c =
    let at = lent c.args.q _ _ c.self.invariant c.self.view_is c.requires c.index.ensures in
    omega (arith, at.long, c.self.invariant.few)

pub returns : goal.returns
returns g c =
    let at = lent c.args.q _ _ c.self.invariant c.self.view_is c.requires c.index.ensures in
    c.letter_count.ensures
    ∙ (column_counted c.self.inside.targets c.args.q c.self.inside.columns.items _ at.within (sym at.is) at.long ∙ ap (letters_at c.args.q) c.self.view_is)
