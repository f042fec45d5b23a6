use Rattle.frames.proofs.shots.write_shots.Goals as goal

pub write_followed-requires : goal.write_followed-requires
write_followed-requires g c =
    record { follows = c.in_ok-follower.ensures.follows; kind = c.in_ok-follower.ensures.kind }

pub returns-clause-written : goal.returns-clause-written
returns-clause-written g c = c.write_followed.ensures.written

pub returns-clause-fault : goal.returns-clause-fault
returns-clause-fault g c = c.write_followed.ensures.fault

pub returns-clause-writes : goal.returns-clause-writes
returns-clause-writes g c = c.write_followed.ensures.writes

pub returns-clause-beginning : goal.returns-clause-beginning
returns-clause-beginning g c = c.write_followed.ensures.beginning
