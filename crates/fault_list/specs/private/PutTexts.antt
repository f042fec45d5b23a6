-- What is done to a buffer to put a text into it. (This project's own.)
use Rattle.std.specs.Prelude.{◌≡◌, ◌≤◌, ◌+◌, ℕ, List, ◌++◌, Option, None, IfSome, take}

-- where an end is answered, the text stands between `at` and there, and has so many bytes at most; where none is, what stood
-- before `at` still stands there
pub record Puts (most at : ℕ) (text old new : List ℕ) (answer : Option ℕ) : Type 0 where
  pub within : IfSome answer (λ end. end ≤ at + most)
  pub written : IfSome answer (λ end. take end new ≡ take at old ++ text)
  pub kept : answer ≡ None → take at new ≡ take at old
