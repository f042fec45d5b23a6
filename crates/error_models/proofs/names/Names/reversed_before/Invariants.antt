use Rattle.std.proofs.Common.{◌≡◌, ◌≤◌, ◌+◌, ◌*◌, ◌++◌, take, drop}
use Rattle.std.specs.Prelude.{reverse}
use Rattle.error_models.specs.ModelText.{targets_text}
use Rattle.error_models.proofs.names.Names.reversed_before.Given as goal

-- the targets before this one are written
abbrev pub invariant-loop-target : goal.invariant-loop-target
invariant-loop-target g l =
    record {
      within : l.at ≤ l.end;
      least : l.end ≤ l.at + l.target-index * 8;
      written : drop l.at l.buffer ≡ targets_text l.self.detectors (reverse (take l.target-index l.targets)) ++ drop l.end l.fn.buffer;
    }
