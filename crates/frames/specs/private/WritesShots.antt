-- What a call owes that writes shots, and fails where memory runs out or the sink fails.
-- (This project's own.)
use Rattle.std.specs.Prelude.{◌≡◌, ◌⊎◌, ℕ, List, Option, Result, IfErr, OnOk, OnErr}
use Rattle.step_model.specs.declared.fault.Fault.{Fault}
use Rattle.step_model.specs.Ends.{Takes, TakesSome, write_failures}
use Rattle.step_model.specs.Faults.{memory_fault, write_fault}

pub record WritesShots {S T : Type 0} (taken : S → Option (List ℕ)) (failures : S → ℕ) (old new : S) (text : List ℕ) (result : Result T Fault) : Type 0 where
  pub written : OnOk result (Takes (taken old) (taken new) text)
  pub fault : IfErr result (λ e. (e ≡ memory_fault) ⊎ (e ≡ write_fault))
  pub writes : failures new ≡ write_failures result (failures old)
  pub beginning : OnErr result (TakesSome (taken old) (taken new) text)
