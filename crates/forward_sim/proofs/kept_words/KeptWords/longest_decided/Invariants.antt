use Rattle.std.proofs.Common.{◌≡◌, ◌<◌, ◌≤◌, ℕ, None, get_or}
use Rattle.forward_sim.proofs.kept_words.KeptWords.longest_decided.Given as goal

-- none of the span replaced a word, nor did those since the last that did
abbrev pub invariant-loop-collapse : goal.invariant-loop-collapse
invariant-loop-collapse g l =
    record {
      begun : l.start ≤ l.collapse;
      order : l.longest.start ≤ l.longest.end;
      within : l.longest.end ≤ l.collapse;
      none : (k : ℕ) → l.longest.start ≤ k → k < l.longest.end → get_or l.self.replaced k None ≡ None;
      since : (k : ℕ) → l.start ≤ k → k < l.collapse → get_or l.self.replaced k None ≡ None;
    }
