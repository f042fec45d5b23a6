use Rattle.std.proofs.Common.{◌≡◌, length}
use Rattle.backward.specs.private.Numbered.{AreNumbers}
use Rattle.backward.proofs.text_store.kept_numbers.Given as goal

-- the texts of the probabilities before this one are kept
abbrev pub invariant-loop-chance : goal.invariant-loop-chance
invariant-loop-chance g l =
    record {
      counted : length l.numbers.items ≡ l.chance-index;
      numbered : AreNumbers l.chances l.text.texts l.numbers.items;
      detectors : l.text.detectors ≡ l.fn.text.detectors;
      targets : l.text.targets ≡ l.fn.text.targets;
      text : l.text.text ≡ l.fn.text.text;
    }
