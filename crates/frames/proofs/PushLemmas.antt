-- Pushing to a sink that has failed.
use Rattle.std.proofs.Common.{◌≡◌, ℕ, true, Bool, List, Option, refl, sym, subst}
use Rattle.step_model.specs.Held.{Held}
use Rattle.step_model.specs.Pushed.{Outlet, IsPushed, Pushes}

-- nothing changes, whatever is pushed
pub Pushes-failed : {S : Type 0} {taken : S → Option (List ℕ)} {failures : S → ℕ} {s : S} {held : Held} (bytes : List ℕ)
    → held.failed ≡ true → Pushes taken failures s s held held bytes
Pushes-failed {S} {taken} {failures} {s} {held} bytes failed =
    let outlet : Outlet = record { taken = taken s; failures = failures s; held = held.bytes } in
    record {
      pushed = subst (λ (b : Bool). IsPushed b b outlet outlet bytes) (sym failed) (record { same_taken = refl; same_count = refl }, refl);
    }
