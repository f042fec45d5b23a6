use Rattle.std.proofs.Common.{◌≡◌, length}
use Rattle.proved_tests.proofs.tests.calls.words.word_of.Given as goal

abbrev pub invariant-loop-qubit : goal.invariant-loop-qubit
invariant-loop-qubit l = length l.word.letters ≡ length l.letters
