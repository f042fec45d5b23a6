use Rattle.frames.proofs.LaneLaws.{clash-I, clash-X, clash-Y, clash-Z}
use Rattle.frames.proofs.letters.LaneLetters.clashes.Goals as goal

pub returns-in-I : goal.returns-in-I
returns-in-I c = rw c.in-I.is (λ j. clash-I j c.args.self)

pub returns-in-X : goal.returns-in-X
returns-in-X c = rw c.in-X.is (λ j. clash-X j c.args.self)

pub returns-in-Y : goal.returns-in-Y
returns-in-Y c = rw c.in-Y.is (λ j. clash-Y j c.args.self c.xor.result (c.xor.ensures j))

pub returns-in-Z : goal.returns-in-Z
returns-in-Z c = rw c.in-Z.is (λ j. clash-Z j c.args.self)
