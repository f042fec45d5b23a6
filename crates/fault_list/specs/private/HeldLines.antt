-- What writing does to a sink where the last bytes are still held in a buffer. (This project's own.)
use Rattle.std.specs.Prelude.{◌≡◌, ◌≤◌, ◌+◌, ℕ, List, ◌++◌, Option, None, IfSome, take}
use Rattle.step_model.specs.Held.{Held}
use Rattle.step_model.specs.Pushed.{Pushes}

-- some bytes were pushed, and those that are held now come after them: both are what was held before and these bytes
pub record PushesSome {S : Type 0} (taken : S → Option (List ℕ)) (failures : S → ℕ) (old new : S) (out_old out_new : Held) (before after bytes : List ℕ) : Type 0 where
  pub gone : List ℕ
  pub pushes : Pushes taken failures old new out_old out_new gone
  pub rest : gone ++ after ≡ before ++ bytes

-- what is done to put a text into a buffer at `at`, behind bytes that are held and may go out for it: where an end is answered, what
-- stands before there is held then; where none is, nothing went out, and what stood before `at` still stands there
pub record PutsHeld {S : Type 0} (taken : S → Option (List ℕ)) (failures : S → ℕ) (sink_old sink_new : S) (out_old out_new : Held) (most at : ℕ) (text old new : List ℕ) (answer : Option ℕ) : Type 0 where
  pub within : IfSome answer (λ end. end ≤ at + most)
  pub pushed : IfSome answer (λ end. PushesSome taken failures sink_old sink_new out_old out_new (take at old) (take end new) text)
  pub kept : answer ≡ None → take at new ≡ take at old
  pub same_sink : answer ≡ None → sink_new ≡ sink_old
  pub same_out : answer ≡ None → out_new ≡ out_old
