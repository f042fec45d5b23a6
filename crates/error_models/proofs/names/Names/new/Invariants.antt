use Rattle.std.proofs.Common.{◌≡◌, length, vec_capacity}
use Rattle.error_models.specs.private.TargetNames.{AreNames}
use Rattle.error_models.proofs.names.Names.new.Given as goal

-- the targets so far have their texts
abbrev pub invariant-loop-target : goal.invariant-loop-target
invariant-loop-target g l =
    record {
      named : AreNames l.detectors l.names.items;
      counted : length l.names.items ≡ l.target;
      room : vec_capacity l.names ≡ l.targets;
    }
