use Rattle.std.proofs.Common.{◌≡◌, drop}
use Rattle.dem_text.specs.Sums.{symptom_of}
use Rattle.dem_text.specs.private.Turned.{turned_by}
use Rattle.dem_text.proofs.flips.symptom.Given as goal

abbrev pub invariant-loop-line : goal.invariant-loop-line
invariant-loop-line g l = turned_by l.bits.items (drop l.line l.named) (drop l.line l.model.lines) ≡ symptom_of l.model l.named
