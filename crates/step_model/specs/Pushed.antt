-- What pushing bytes does to a sink and to what is held back for it. While no call fails, what the sink took, followed by
-- what is held now, is what was held before, followed by the bytes pushed. Where the sink fails, a prefix of these went
-- out. After that nothing changes any more. (The contract of a buffered writer, such as that of Rust's
-- std::io::BufWriter, with the failure kept until the end.)
use Rattle.std.specs.Prelude.{◌≡◌, ℕ, Bool, true, false, List, ◌++◌, Option}
use Rattle.step_model.specs.Ends.{Takes, TakesBeginning, next_count}
use Rattle.step_model.specs.Held.{Held}

-- a sink's bytes, where they are known, and its failures, with what is held back for it
pub record Outlet : Type 0 where
  pub taken : Option (List ℕ)
  pub failures : ℕ
  pub held : List ℕ

-- no call failed: some bytes went out, and the rest is held
pub record Holds (old new : Outlet) (bytes : List ℕ) : Type 0 where
  pub gone : List ℕ
  pub takes : Takes old.taken new.taken gone
  pub rest : gone ++ new.held ≡ old.held ++ bytes
  pub same_count : new.failures ≡ old.failures

-- a call failed: the sink took a prefix of the bytes, but not all
pub record Breaks (old new : Outlet) (bytes : List ℕ) : Type 0 where
  pub beginning : TakesBeginning old.taken new.taken (old.held ++ bytes)
  pub counted : new.failures ≡ next_count old.failures

-- the sink was not called
pub record Rests (old new : Outlet) : Type 0 where
  pub same_taken : new.taken ≡ old.taken
  pub same_count : new.failures ≡ old.failures

-- by cases: whether the sink had failed before, and whether it has failed now
abbrev pub IsPushed : Bool → Bool → Outlet → Outlet → List ℕ → Type 0
IsPushed true now old new bytes = Rests old new × (now ≡ true)
IsPushed false false old new bytes = Holds old new bytes
IsPushed false true old new bytes = Breaks old new bytes

-- the same for a sink of type S, whose bytes and failures are read by these functions
pub record Pushes {S : Type 0} (taken : S → Option (List ℕ)) (failures : S → ℕ) (old new : S) (held_old held_new : Held) (bytes : List ℕ) : Type 0 where
  pub pushed :
      IsPushed held_old.failed held_new.failed
      (record { taken = taken old; failures = failures old; held = held_old.bytes })
      (record { taken = taken new; failures = failures new; held = held_new.bytes })
      bytes
