use Rattle.std.proofs.Common.{length, refl}
use Rattle.tableau.proofs.TwistRows.{pivot_made}
use Rattle.tableau.proofs.collapse.set_pivot.Goals as goal

pub returns-clause-pivot : goal.returns-clause-pivot
returns-clause-pivot g c =
    pivot_made (length c.args.code.now.0.letters) c.args.qubit c.requires.inside c.args.code.now.0 refl c.args.coin
    c.set_letter.new.self c.set_letter.ensures c.change_sign.new.word c.change_sign.ensures c.copy_from.new.self c.copy_from.ensures c.set_letter-2.new.self c.set_letter-2.ensures c.change_sign-2.new.word c.change_sign-2.ensures
