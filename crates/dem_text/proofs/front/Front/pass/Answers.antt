use Rattle.std.proofs.Common.{[], refl}
use Rattle.dem_text.proofs.AlikeLemmas.{empty-first, empty-silent}
use Rattle.dem_text.proofs.PassedLemmas.{passed-silent}
use Rattle.dem_text.proofs.front.Front.pass.Goals as goal

pub returns-in-Some-behind_byte : goal.returns-in-Some-behind_byte
returns-in-Some-behind_byte g c =
    let first = empty-first c.args.text.now c.in-Some-behind_byte.after.now c.in-Some-behind_byte.ensures.text in (
      passed-silent c.args.self.now _ c.args.text.now [] c.in-Some-behind_byte.after.now first refl refl c.requires.ready empty-silent refl,
      first.less,
    )
