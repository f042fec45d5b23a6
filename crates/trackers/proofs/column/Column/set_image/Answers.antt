use Rattle.std.proofs.Common.{length}
use Rattle.std.proofs.lemmas.Result.{on_ok_weaker}
use Rattle.trackers.proofs.TransposedLemmas.{image_column}
use Rattle.trackers.proofs.column.Column.set_image.Goals as goal

pub returns-clause-ok : goal.returns-clause-ok
returns-clause-ok g c =
    on_ok_weaker c.add_image.result
    (image_column c.args.x c.args.z c.clear.new.self c.args.from.now c.add_image.new.self (length c.args.self.now) c.requires.from c.clear.ensures)
    c.add_image.ensures.ok
