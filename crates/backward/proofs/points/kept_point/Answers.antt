use Rattle.backward.proofs.points.kept_point.Goals as goal

pub returns : goal.returns
returns g c =
    record {
      walk = c.copy.ensures;
      words = record { fit = c.in_ok-lists.ensures.fit; words = c.in_ok-lists.ensures.words };
    }
