-- All that instructions make came before.
use Rattle.std.proofs.Common.{refl}
use Rattle.cursor.proofs.Nested.{are_nested}
use Rattle.stim_parser.specs.Circuits.{Fits}
use Rattle.circuit_walk.proofs.StartLemmas.{ends_course}
use Rattle.circuit_walk.proofs.course.Course.end.Goals as goal

pub end-requires : goal.end-requires
end-requires g c = are_nested Fits c.args.text.items.now.items c.requires.1.written

pub returns-clause-course : goal.returns-clause-course
returns-clause-course g c program held =
    ends_course program _ held c.end.ensures.place c.end.ensures.before c.none.ensures.at c.none.ensures.end refl refl refl
