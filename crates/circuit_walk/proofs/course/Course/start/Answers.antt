-- Nothing came before the first step.
use Rattle.std.proofs.Common.{refl}
use Rattle.cursor.proofs.Nested.{are_nested}
use Rattle.stim_parser.specs.Circuits.{Fits}
use Rattle.circuit_walk.proofs.StartLemmas.{starts}
use Rattle.circuit_walk.proofs.course.Course.start.Goals as goal

pub start-requires : goal.start-requires
start-requires g c = are_nested Fits c.args.text.items.now.items c.requires.1.written

pub returns-clause-course : goal.returns-clause-course
returns-clause-course g c program held =
    starts program _ held c.start.ensures.place c.start.ensures.before c.none.ensures.at c.none.ensures.end refl refl refl
