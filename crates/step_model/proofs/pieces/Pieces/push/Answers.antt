use Rattle.std.proofs.Common.{◌≡◌}
use Rattle.step_model.proofs.Pushing.{Pushes-trans}
use Rattle.step_model.proofs.pieces.Pieces.push.Goals as goal

pub returns : goal.returns
returns g c =
    let before : c.hold.new.self ≡ c.args.self.now = cc in
    let between : c.hold-else-self-2.new.self ≡ c.send.new.self = cc in
    Pushes-trans (rw before at c.send.ensures.pushes) (rw between at c.send_past.ensures)
