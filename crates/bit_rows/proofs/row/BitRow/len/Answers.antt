use Rattle.std.proofs.Common.{sym}
use Rattle.bit_rows.proofs.Places.{row_long}
use Rattle.bit_rows.proofs.row.BitRow.len.Goals as goal

pub returns : goal.returns
returns g c = sym (row_long c.self.inside.places c.self.inside.words.items c.args.self.now c.self.view_is)
