use Rattle.std.proofs.Common.{◌≡◌, ◌≤◌, ◌-◌, length, take}
use Rattle.std.specs.Prelude.{◌&&◌}
use Rattle.step_model.specs.Pushed.{Pushes}
use Rattle.fault_list.specs.private.FactorTexts.{is_none, joined_on, letter_factors}
use Rattle.fault_list.proofs.blocks.write_letters.Given as goal

-- the factors of the first letters were pushed
abbrev pub invariant-loop-done : goal.invariant-loop-done
invariant-loop-done g l =
    record {
      within : l.done ≤ length l.letters;
      none : l.none ≡ (l.first && is_none (letter_factors l.from (take l.done l.letters)));
      pushed : Pushes g.W.Sink.taken g.W.Sink.failures l.fn.sink l.sink l.fn.out l.out (joined_on l.first (letter_factors l.from (take l.done l.letters)));
    }

abbrev pub decreases-loop-done : goal.decreases-loop-done
decreases-loop-done g l = length l.letters - l.done
