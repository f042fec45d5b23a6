use Rattle.bit_rows.proofs.Places.{first_one_found}
use Rattle.bit_rows.proofs.row.BitRow.first_one.Goals as goal

pub returns : goal.returns
returns g c =
    let found = c.first_one_from.ensures in
    first_one_found c.args.self.now c.first_one_from.result found.none found.within found.is_set found.before
