-- The coin of a collapse that is decided in the reference run changes no record.
use Rattle.std.proofs.Common.{◌≡◌, ℕ, suc, ◌<◌, ◌≤◌, Bool, true, false, List, [], ◌∷◌, get_or, drop, Option, None, refl, sym, ap, ap₂, subst, ◌∙◌, arith, ◌⊎◌, inl, inr, ⊎_elim}
use Rattle.std.specs.Prelude.{◌||◌}
use Rattle.std.specs.List.{list_all}
use Rattle.std.proofs.lemmas.Bool.{and_parts, cases_lt}
use Rattle.std.proofs.lemmas.List as lists
use Rattle.std.proofs.lemmas.List.{ext_get_or}
use Rattle.pauli_word.specs.States.{is_decided, start_state}
use Rattle.pauli_word.specs.Words.{no_letters, signed, with_sign_changed}
use Rattle.pauli_word.proofs.Groups.{IsGroup-start}
use Rattle.step_model.specs.declared.step.Term.{Term}
use Rattle.step_model.specs.Frames.{Frame, zero_coins}
use Rattle.step_model.specs.Listing.{Listing, ListedStep, One, Two, Collapse, Fault, Feedback, Measured, Recorded, measured_word}
use Rattle.step_model.specs.Runs.{RunState, next, next_coin, run_from, records_of, start}
use Rattle.step_model.specs.WellFormed.{IsWellFormed, step_fits}
use Rattle.step_model.proofs.StateIsGroup.{length-measured}
use Rattle.run_laws.proofs.PairRuns.{with_coins, same-collapse}
use Rattle.run_laws.proofs.ShiftCollapse.{is_decided-shifted}
use Rattle.run_laws.proofs.ShiftLists.{get_or-zeros}
use Rattle.run_laws.proofs.ShiftWords.{anticommute-none}
use Rattle.forward_sim.specs.References.{AreDecided, AreEntries, AreWordsOf, IsEntry, Kept, Walked, Words}
use Rattle.forward_sim.specs.declared.span.Span.{Span}
use Rattle.forward_sim.proofs.LaneLemmas.{is_tossed-before, is_tossed-behind}
use Rattle.forward_sim.specs.SameRuns.{IsSameRun}
use Rattle.forward_sim.proofs.RunRecords.{all_fit}
use Rattle.forward_sim.proofs.SameStates.{same-next}
use Rattle.forward_sim.proofs.WordsSaid.{zeros_after}
use Rattle.frames.specs.Batches.{DontCount}
use Rattle.frames.specs.private.Beside.{Differ}
use Rattle.frames.proofs.Beside.{collapse-differ}
use Rattle.frames.proofs.FollowLaw.{decided-records, decided-states, other-step}

-- two runs are the same but for their coins to come
abbrev SameButCoins : ℕ → RunState → RunState → Type 0
SameButCoins n m k = IsSameRun n (with_coins m []) (with_coins k [])

-- two lists of coins are the same where a word is replaced
abbrev Agree : List (Option (List Term)) → List Bool → List Bool → Type 0
Agree replaced first second = (k : ℕ) → (get_or replaced k None ≡ None) ⊎ (get_or first k false ≡ get_or second k false)

get_or-later : (xs : List Bool) (k : ℕ) → get_or (drop 1 xs) k false ≡ get_or xs (suc k) false
get_or-later [] k = refl
get_or-later (x ∷ xs) k = refl

agree_later : (entry : Option (List Term)) (replaced : List (Option (List Term))) (first second : List Bool) → Agree (entry ∷ replaced) first second
    → Agree replaced (drop 1 first) (drop 1 second)
agree_later entry replaced first second agree k =
    ⊎_elim
    (λ (none : get_or replaced k None ≡ None). inl none)
    (λ (same : get_or first (suc k) false ≡ get_or second (suc k) false). inr (get_or-later first k ∙ same ∙ sym (get_or-later second k)))
    (agree (suc k))

-- so two such runs are behind a collapse that is decided, and behind one whose coins are the same
decided_same : (program : Listing) (faults : List Bool) (c : Measured) (r : Option Recorded) (m k : RunState) → step_fits program (Collapse c r) ≡ true
    → is_decided m.state (measured_word program.qubits c) ≡ true → SameButCoins program.qubits m k
    → SameButCoins program.qubits (next program faults (Collapse c r) m) (next program faults (Collapse c r) k)
decided_same program faults c r m k fits decided same =
    let w = measured_word program.qubits c in
    let size = length-measured program c r fits in
    let other : is_decided k.state w ≡ true =
    sym (ap₂ (λ a b. a || b) (same.state (signed w false) size) (same.state (signed w true) size)) ∙ decided in
    let stepped = same-next program faults (Collapse c r) (with_coins m []) (with_coins k []) fits same in
    record {
      state = λ p long. sym (decided-states program faults c r m [] decided p) ∙ (stepped.state p long ∙ decided-states program faults c r k [] other p);
      coins = refl;
      records = sym (decided-records program faults c r m [] decided) ∙ (stepped.records ∙ decided-records program faults c r k [] other);
    }

coin_same : (program : Listing) (faults : List Bool) (c : Measured) (r : Option Recorded) (m k : RunState) → step_fits program (Collapse c r) ≡ true
    → next_coin m.coins ≡ next_coin k.coins → SameButCoins program.qubits m k
    → SameButCoins program.qubits (next program faults (Collapse c r) m) (next program faults (Collapse c r) k)
coin_same program faults c r m k fits coin same =
    let tossed : IsSameRun program.qubits m (with_coins k m.coins) = record { state = same.state; coins = refl; records = same.records } in
    let stepped = same-next program faults (Collapse c r) m (with_coins k m.coins) fits tossed in
    let there : next program faults (Collapse c r) (with_coins k m.coins) ≡ with_coins (next program faults (Collapse c r) k) (drop 1 m.coins) =
    same-collapse program faults c r k m.coins coin in
    record {
      state = λ p long. stepped.state p long ∙ ap (λ (run : RunState). run.state p) there;
      coins = refl;
      records = stepped.records ∙ ap (λ (run : RunState). run.records) there;
    }

-- two such runs make the same records, where their coins agree
records_agree : (program : Listing) (faults : List Bool) (steps : List ListedStep) (replaced : List (Option (List Term))) (v : Frame) (reference m k : RunState)
    → list_all (step_fits program) steps ≡ true → AreEntries program steps reference replaced → ((i : ℕ) → get_or reference.coins i false ≡ false)
    → Differ program.qubits v reference m → SameButCoins program.qubits m k → Agree replaced m.coins k.coins
    → (run_from program faults steps m).records ≡ (run_from program faults steps k).records
records_agree program faults [] replaced v reference m k fits entries zeros differ same agree = same.records
records_agree program faults (One g q ∷ steps) replaced v reference m k fits entries zeros differ same agree =
    let parts = and_parts (step_fits program (One g q)) (list_all (step_fits program) steps) fits in
    records_agree program faults steps replaced _ (next program [] (One g q) reference) (next program faults (One g q) m) (next program faults (One g q) k) parts.1 entries zeros
    (other-step program faults None false (One g q) v reference m parts.0 refl differ)
    (same-next program faults (One g q) (with_coins m []) (with_coins k []) parts.0 same) agree
records_agree program faults (Two g a b ∷ steps) replaced v reference m k fits entries zeros differ same agree =
    let parts = and_parts (step_fits program (Two g a b)) (list_all (step_fits program) steps) fits in
    records_agree program faults steps replaced _ (next program [] (Two g a b) reference) (next program faults (Two g a b) m) (next program faults (Two g a b) k) parts.1 entries zeros
    (other-step program faults None false (Two g a b) v reference m parts.0 refl differ)
    (same-next program faults (Two g a b) (with_coins m []) (with_coins k []) parts.0 same) agree
records_agree program faults (Collapse c r ∷ steps) [] v reference m k fits entries zeros differ same agree = absurd entries
records_agree program faults (Collapse c r ∷ steps) (entry ∷ replaced) v reference m k fits entries zeros differ same agree =
    let step : ListedStep = Collapse c r in
    let n = program.qubits in
    let w = measured_word n c in
    let parts = and_parts (step_fits program step) (list_all (step_fits program) steps) fits in
    let behind : SameButCoins n (next program faults step m) (next program faults step k) =
    ⊎_elim
    (λ (none : entry ≡ None).
    decided_same program faults c r m k parts.0
    (is_decided-shifted n v.word w reference.state m.state differ.states (length-measured program c r parts.0) ∙ subst (IsEntry n reference.state w) none entries.0) same)
    (λ (coin : get_or m.coins 0 false ≡ get_or k.coins 0 false). coin_same program faults c r m k parts.0 coin same)
    (agree 0) in
    records_agree program faults steps replaced _ (next program [] step reference) (next program faults step m) (next program faults step k) parts.1 entries.1 (zeros_after program step reference zeros)
    (collapse-differ program faults c r entry v reference m parts.0 (zeros 0) differ entries.0) behind (agree_later entry replaced m.coins k.coins agree)
records_agree program faults (Fault f ∷ steps) replaced v reference m k fits entries zeros differ same agree =
    let parts = and_parts (step_fits program (Fault f)) (list_all (step_fits program) steps) fits in
    records_agree program faults steps replaced _ (next program [] (Fault f) reference) (next program faults (Fault f) m) (next program faults (Fault f) k) parts.1 entries zeros
    (other-step program faults None false (Fault f) v reference m parts.0 refl differ)
    (same-next program faults (Fault f) (with_coins m []) (with_coins k []) parts.0 same) agree
records_agree program faults (Feedback w r ∷ steps) replaced v reference m k fits entries zeros differ same agree =
    let parts = and_parts (step_fits program (Feedback w r)) (list_all (step_fits program) steps) fits in
    records_agree program faults steps replaced _ (next program [] (Feedback w r) reference) (next program faults (Feedback w r) m) (next program faults (Feedback w r) k) parts.1 entries zeros
    (other-step program faults None false (Feedback w r) v reference m parts.0 refl differ)
    (same-next program faults (Feedback w r) (with_coins m []) (with_coins k []) parts.0 same) agree

-- coins of a span don't count where the reference run says that the outcomes there aren't random
pub decided_dont_count : (program : Listing) (words : Words) (span : Span) → IsWellFormed program → AreWordsOf program words → AreDecided span words → DontCount program span
decided_dont_count program (Kept replaced) span well_formed are decided faults coins others size size_of_others same =
    let n = program.qubits in
    records_agree program faults program.steps replaced (record { word = no_letters n; records = [] }) (start (zero_coins program)) (start coins) (start others)
    (all_fit program well_formed) are (get_or-zeros program.collapses)
    (record {
      size = lists.length-replicate n _;
      group = IsGroup-start n;
      states = λ p long. ap (λ b. start_state (with_sign_changed b p)) (sym (anticommute-none p.letters n));
      records_size = refl;
      records = refl;
    })
    (record { state = λ p long. refl; coins = refl; records = refl })
    (λ k.
    ⊎_elim
    (λ (before : k < span.start). inr (same k (is_tossed-before span k before)))
    (λ (from : span.start ≤ k).
    ⊎_elim
    (λ (inside : k < span.end). inl (decided k from inside))
    (λ (behind : span.end ≤ k). inr (same k (is_tossed-behind span k behind)))
    (cases_lt k span.end))
    (cases_lt k span.start))
decided_dont_count program (Walked walk) span well_formed are decided faults coins others size size_of_others same =
    ap (records_of program faults)
    (ext_get_or false coins others (size ∙ sym size_of_others)
    (λ k below.
    same k
    (⊎_elim
    (λ (before : k < span.start). is_tossed-before span k before)
    (λ (from : span.start ≤ k). is_tossed-behind span k (omega (arith, from, decided)))
    (cases_lt k span.start))))
