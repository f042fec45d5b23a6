use Rattle.dem_text.proofs.error_line.said_first.Goals as goal

pub returns : goal.returns
returns g c = record { line = c.first_line.result.0.now; first = c.first_line.ensures; says = c.in_ok-said-2.ensures }

pub returns-in-Some : goal.returns-in-Some
returns-in-Some g c = (rw c.in-Some.is at c.in_ok-said.ensures) c.args.depth c.args.number
