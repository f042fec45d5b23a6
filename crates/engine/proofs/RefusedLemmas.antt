-- A fault that refused the first step of what is asked refused all of it.
use Rattle.std.proofs.Common.{◌≡◌, ◌⊎◌, inl, inr, Result, Err, ap}
use Rattle.step_model.specs.declared.fault.Fault.{Fault}
use Rattle.step_model.specs.Faults.{memory_fault, ◌>>=◌}
use Rattle.engine.specs.Output.{Output}

pub refused_at_first : {T : Type 0} (read : Result T Fault) (next : T → Result Output Fault) (fault : Fault) → (fault ≡ memory_fault) ⊎ (read ≡ Err fault)
    → (fault ≡ memory_fault) ⊎ (read >>= next ≡ Err fault)
refused_at_first read next fault (inl memory) = inl memory
refused_at_first read next fault (inr is) = inr (ap (λ first. first >>= next) is)
