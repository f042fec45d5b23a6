use Rattle.backward.proofs.points.leave.Goals as goal

pub returns : goal.returns
returns g c =
    record {
      point = c.in_ok-point.point;
      kept = c.in_ok-point.ensures;
      items = c.in_ok-push.ensures.items;
    }
