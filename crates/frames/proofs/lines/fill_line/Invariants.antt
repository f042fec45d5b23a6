use Rattle.std.proofs.Common.{◌≡◌, ◌+◌, length, take}
use Rattle.frames.proofs.LineLemmas.{digits}
use Rattle.frames.proofs.lines.fill_line.Given as goal

-- the digits so far
abbrev pub invariant-loop-index : goal.invariant-loop-index
invariant-loop-index l =
    record {
      room : length l.line ≡ length l.octets + 1;
      digits : take l.index l.line ≡ digits l.shot (take l.index l.octets);
    }
