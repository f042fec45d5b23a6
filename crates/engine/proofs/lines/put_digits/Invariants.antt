use Rattle.std.proofs.Common.{◌≡◌, length, map, take}
use Rattle.frames.specs.Lines.{digit_of}
use Rattle.engine.proofs.lines.put_digits.Given as goal

-- the digits so far
abbrev pub invariant-loop-index : goal.invariant-loop-index
invariant-loop-index l =
    record {
      room : length l.digits ≡ length l.values;
      digits : take l.index l.digits ≡ map digit_of (take l.index l.values);
    }
