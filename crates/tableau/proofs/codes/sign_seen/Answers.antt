use Rattle.tableau.proofs.SeenOutcomes.{sign_of_X, sign_of_Z}
use Rattle.tableau.proofs.codes.sign_seen.Goals as goal

pub returns-in-X : goal.returns-in-X
returns-in-X g c = sign_of_X c.diagonal_sign.result c.args.pair.now c.args.letter c.in-X.is c.diagonal_sign.ensures

pub returns-in-Z : goal.returns-in-Z
returns-in-Z g c = sign_of_Z c.diagonal_sign-in-Z.result c.args.pair.now c.args.letter c.in-Z.is c.diagonal_sign-in-Z.ensures
