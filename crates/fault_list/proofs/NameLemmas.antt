-- The names of qubits.
use Rattle.std.proofs.Common.{◌≡◌, ◌≢◌, ℕ, ◌+◌, ◌≤◌, ◌<◌, List, length, set, take, sym, ap, inl, inr, ◌∙◌, subst, arith}
use Rattle.std.specs.Prelude.{decimal}
use Rattle.std.proofs.lemmas.Bool.{cases_lt}
use Rattle.std.proofs.lemmas.Fmt.{length-decimal-le}
use Rattle.std.proofs.lemmas.Grind.{get_or-set_at}
use Rattle.std.proofs.lemmas.List.{get_or-set_other, take-take}
use Rattle.fault_list.specs.declared.qubit_names.Name.{Name}
use Rattle.fault_list.specs.private.QubitNames.{IsName, AreNames}

-- the digits of a number that has few, where more bytes are left out behind them
pub digits_of_few : (q len : ℕ) (bytes text : List ℕ) → q < 4096 → len ≡ length (decimal q) → take len text ≡ decimal q → bytes ≡ take 4 text → IsName q (record { digits = bytes; len = len })
digits_of_few q len bytes text few counted digits copied =
    let short : len ≤ 4 = omega (arith, counted, length-decimal-le 4 q (omega arith) (omega (arith, few)) (omega (arith, few))) in
    record {
      within = short;
      digits = ap (take len) copied ∙ (take-take len 4 text short ∙ digits);
    }

-- one name more
pub named-more : (count : ℕ) (names : List Name) (name : Name) → count < length names → AreNames count names → IsName count name → AreNames (count + 1) (set names count name)
named-more count names name room named is = λ qubit d below.
    elim (cases_lt qubit count) [
      | inl before ↦
          let other : qubit ≢ count = λ same. absurd (omega (arith, same, before)) in
          subst (IsName qubit) (sym (get_or-set_other names count qubit name d other)) (named qubit d before)
      | inr behind ↦
          let same : qubit ≡ count = omega (arith, behind, below) in
          subst (IsName qubit) (sym (get_or-set_at names count qubit name d same room)) (subst (λ q. IsName q name) (sym same) is)
    ]
