-- Steps and measurements can't tell apart two states that hold the same words of n letters.
use Rattle.std.proofs.Common.{◌≡◌, ℕ, Bool, true, false, ◌&&◌, List, [], ◌∷◌, ◌++◌, length, drop, sym, ap, ap₂, ◌∙◌}
use Rattle.std.specs.List.{list_all}
use Rattle.std.specs.Prelude.{Option, Some, None, is_some, slice_index_or, if◌then◌else◌}
use Rattle.std.proofs.lemmas.Bool.{and_parts}
use Rattle.gate_table.specs.Images.{inverse_of}
use Rattle.gate_table.proofs.WordImageLaws.{length-image_at}
use Rattle.gate_table.proofs.PairImageLaws.{length-image_at_two}
use Rattle.pauli_word.specs.declared.letter.Letter.{Letter}
use Rattle.pauli_word.specs.Parity.{exclusive_or}
use Rattle.pauli_word.specs.States.{State, applied, outcome, collapsed}
use Rattle.pauli_word.specs.Words.{signed, product, anticommute, with_sign_changed}
use Rattle.pauli_word.proofs.WordLaws.{length-letters_product}
use Rattle.step_model.specs.Listing.{Listing, ListedStep, One, Two, Collapse, Fault, Feedback, measured_word, fault_word}
use Rattle.step_model.specs.Runs.{RunState, next_coin, corrected, after_collapse, correction, record_changes, happens, next, run_from}
use Rattle.step_model.specs.WellFormed.{step_fits}
use Rattle.step_model.proofs.StateIsGroup.{length-measured}
use Rattle.forward_sim.specs.SameRuns.{HoldSame, IsSameRun}

pub same-outcome : (n : ℕ) (s t : State) (w : List Letter) (coin : Bool) → HoldSame n s t → length w ≡ n → outcome s w coin ≡ outcome t w coin
same-outcome n s t w coin same size =
    let plus : s (signed w false) ≡ t (signed w false) = same (signed w false) size in
    let minus : s (signed w true) ≡ t (signed w true) = same (signed w true) size in
    cc

pub same-collapsed : (n : ℕ) (s t : State) (w : List Letter) (coin : Bool) → HoldSame n s t → length w ≡ n → HoldSame n (collapsed w coin s) (collapsed w coin t)
same-collapsed n s t w coin same size p size' =
    let plus : s (signed w false) ≡ t (signed w false) = same (signed w false) size in
    let minus : s (signed w true) ≡ t (signed w true) = same (signed w true) size in
    let here : s p ≡ t p = same p size' in
    let times : s (product (signed w coin) p) ≡ t (product (signed w coin) p) =
    same (product (signed w coin) p) (length-letters_product w p.letters (size ∙ sym size') ∙ size) in
    cc

pub same-applied : (n : ℕ) (s t : State) (b : Bool) (w : List Letter) → HoldSame n s t → HoldSame n (applied b w s) (applied b w t)
same-applied n s t b w same p size = same (with_sign_changed (b && anticommute p.letters w) p) size

pub same-corrected : (n : ℕ) (s t : State) (c : Option (List Letter)) (seen : Bool) → HoldSame n s t → HoldSame n (corrected c seen s) (corrected c seen t)
same-corrected n s t None seen same = same
same-corrected n s t (Some c) seen same = same-applied n s t seen c same

same-after_collapse : (n : ℕ) (w : List Letter) (c : Option (List Letter)) (recorded changes : Bool) (m k : RunState) → length w ≡ n → IsSameRun n m k → IsSameRun n (after_collapse w c recorded changes m) (after_collapse w c recorded changes k)
same-after_collapse n w c recorded changes m k size same =
    let coin : next_coin m.coins ≡ next_coin k.coins = ap next_coin same.coins in
    let seen : outcome m.state w (next_coin m.coins) ≡ outcome k.state w (next_coin k.coins) =
    same-outcome n m.state k.state w (next_coin m.coins) same.state size ∙ ap (outcome k.state w) coin in
    record {
      state = λ p size'.
          same-corrected n (collapsed w (next_coin m.coins) m.state) (collapsed w (next_coin m.coins) k.state) c (outcome m.state w (next_coin m.coins))
          (same-collapsed n m.state k.state w (next_coin m.coins) same.state size) p size'
          ∙ ap₂ (λ b x. corrected c b (collapsed w x k.state) p) seen coin;
      coins = ap (drop 1) same.coins;
      records = ap₂ (λ rs b. if recorded then rs ++ exclusive_or b changes ∷ [] else rs) same.records seen;
    }

pub same-next : (program : Listing) (faults : List Bool) (step : ListedStep) (m k : RunState) → step_fits program step ≡ true → IsSameRun program.qubits m k → IsSameRun program.qubits (next program faults step m) (next program faults step k)
same-next program faults (One g q) m k fits same =
    record {
      state = λ p size. same.state _ (length-image_at (inverse_of g) q p ∙ size);
      coins = same.coins;
      records = same.records;
    }
same-next program faults (Two g a b) m k fits same =
    record {
      state = λ p size. same.state _ (length-image_at_two (inverse_of g) a b p ∙ size);
      coins = same.coins;
      records = same.records;
    }
same-next program faults (Collapse c r) m k fits same =
    same-after_collapse program.qubits (measured_word program.qubits c) (correction program.qubits c) (is_some r) (record_changes faults r) m k (length-measured program c r fits) same
same-next program faults (Fault f) m k fits same =
    record {
      state = same-applied program.qubits m.state k.state (happens faults f) (fault_word program f) same.state;
      coins = same.coins;
      records = same.records;
    }
same-next program faults (Feedback w r) m k fits same =
    record {
      state = λ p size.
          same-applied program.qubits m.state k.state (slice_index_or m.records r false) w same.state p size
          ∙ ap (λ rs. applied (slice_index_or rs r false) w k.state p) same.records;
      coins = same.coins;
      records = same.records;
    }

pub same-run_from : (program : Listing) (faults : List Bool) (steps : List ListedStep) (m k : RunState) → list_all (step_fits program) steps ≡ true → IsSameRun program.qubits m k → (run_from program faults steps m).records ≡ (run_from program faults steps k).records
same-run_from program faults [] m k fits same = same.records
same-run_from program faults (step ∷ steps) m k fits same =
    let parts = and_parts (step_fits program step) (list_all (step_fits program) steps) fits in
    same-run_from program faults steps (next program faults step m) (next program faults step k) parts.1 (same-next program faults step m k parts.0 same)
