use Rattle.forward_sim.proofs.keeping.keep_step.Goals as goal

pub go_past-requires : goal.go_past-requires
go_past-requires g c = c.requires

pub go_over-requires : goal.go_over-requires
go_over-requires g c = c.requires
