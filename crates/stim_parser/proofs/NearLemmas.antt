-- Where targets are found right at a look, no question of them applies.
use Rattle.std.proofs.Common.{◌≡◌, ℕ, ◌%◌, Bool, true, false, not, ◌&&◌, List, [], ◌∷◌, length, None, ◌⊎◌, inl, inr, refl, arith}
use Rattle.std.specs.List.{list_all, list_any}
use Rattle.std.proofs.lemmas.Bool.{and_from, and_parts, false≢true, or_from}
use Rattle.stim_lexer.specs.Bytes.{after_blanks}
use Rattle.stim_parser.specs.declared.forms.TargetForm.{TargetForm}
use Rattle.stim_parser.specs.declared.forms.TargetForm.TheVariants.{NoTargets, Qubits, QubitsInvertedAtWill, QubitPairs, PairsRecordFirst, PairsOneRecord, Paulis, Records}
use Rattle.stim_parser.specs.declared.target.Target.{Target}
use Rattle.stim_parser.specs.declared.target.Target.TheVariants.{Plain, Inverted, Back, Pauli, Star}
use Rattle.stim_parser.specs.Limits.{are_of_form, has_same_qubit, has_target_beyond, has_wrong_count, is_back, is_plain, is_plain_or_back, is_same_qubit, is_target_beyond, some_pair, takes_pairs}
use Rattle.stim_parser.specs.private.Right.{AreRight}
use Rattle.stim_parser.specs.Judging.{first_of}
use Rattle.stim_parser.specs.Verdicts.{circuit_table, refusals_of_targets}
use Rattle.stim_parser.specs.private.NearTargets.{are_near_pairs, is_near, is_of_kind}

-- ---- each target

not_false : (b : Bool) → not b ≡ true → b ≡ false
not_false false h = refl
not_false true h = absurd (false≢true h)

kind : (form : TargetForm) (targets : List Target) → list_all (is_near form) targets ≡ true → list_all (is_of_kind form) targets ≡ true
kind form [] h = refl
kind form (t ∷ targets) h =
    let parts = and_parts (is_near form t) (list_all (is_near form) targets) h in
    and_from (is_of_kind form t) (list_all (is_of_kind form) targets) (and_parts (is_of_kind form t) (not (is_target_beyond form t)) parts.0).0 (kind form targets parts.1)

any_beyond : (form : TargetForm) (targets : List Target) → list_all (is_near form) targets ≡ true → list_any (is_target_beyond form) targets ≡ false
any_beyond form [] h = refl
any_beyond form (t ∷ targets) h =
    let parts = and_parts (is_near form t) (list_all (is_near form) targets) h in
    or_from (is_target_beyond form t) (list_any (is_target_beyond form) targets) (not_false (is_target_beyond form t) (and_parts (is_of_kind form t) (not (is_target_beyond form t)) parts.0).1) (any_beyond form targets parts.1)

within : (form : TargetForm) (targets : List Target) → list_all (is_near form) targets ≡ true → has_target_beyond form targets ≡ false
unfolding has_target_beyond
within form targets h = any_beyond form targets h

pub right-none : (text : List ℕ) (targets : List Target) → targets ≡ [] → after_blanks text ≡ [] → AreRight circuit_table NoTargets text targets
unfolding are_of_form has_target_beyond has_wrong_count has_same_qubit
right-none text targets none blank = record { of_form = refl; within = rw none refl; others = rw blank refl }

pub right-qubits : (text : List ℕ) (targets : List Target) → list_all (is_near Qubits) targets ≡ true → AreRight circuit_table Qubits text targets
unfolding are_of_form has_wrong_count has_same_qubit
right-qubits text targets h = record { of_form = kind Qubits targets h; within = within Qubits targets h; others = refl }

pub right-measured : (text : List ℕ) (targets : List Target) → list_all (is_near QubitsInvertedAtWill) targets ≡ true → AreRight circuit_table QubitsInvertedAtWill text targets
unfolding are_of_form has_wrong_count has_same_qubit
right-measured text targets h = record { of_form = kind QubitsInvertedAtWill targets h; within = within QubitsInvertedAtWill targets h; others = refl }

pub right-paulis : (text : List ℕ) (targets : List Target) → list_all (is_near Paulis) targets ≡ true → AreRight circuit_table Paulis text targets
unfolding are_of_form has_wrong_count has_same_qubit
right-paulis text targets h = record { of_form = kind Paulis targets h; within = within Paulis targets h; others = refl }

pub right-records : (text : List ℕ) (targets : List Target) → list_all (is_near Records) targets ≡ true → AreRight circuit_table Records text targets
unfolding are_of_form has_wrong_count has_same_qubit
right-records text targets h = record { of_form = kind Records targets h; within = within Records targets h; others = refl }

-- ---- pairs

pair_parts : (a b : Target) (targets : List Target) → are_near_pairs (a ∷ b ∷ targets) ≡ true
    → (is_near QubitPairs a ≡ true) × (is_near QubitPairs b ≡ true) × (is_same_qubit a b ≡ false) × (are_near_pairs targets ≡ true)
pair_parts a b targets h =
    let parts = and_parts ((is_near QubitPairs a && is_near QubitPairs b) && not (is_same_qubit a b)) (are_near_pairs targets) h in
    let pair = and_parts (is_near QubitPairs a && is_near QubitPairs b) (not (is_same_qubit a b)) parts.0 in
    let both = and_parts (is_near QubitPairs a) (is_near QubitPairs b) pair.0 in
    (both.0, both.1, not_false (is_same_qubit a b) pair.1, parts.1)

pairs_near : (targets : List Target) → are_near_pairs targets ≡ true → list_all (is_near QubitPairs) targets ≡ true
pairs_near [] h = refl
pairs_near (a ∷ []) h = absurd (false≢true h)
pairs_near (a ∷ b ∷ targets) h =
    let parts = pair_parts a b targets h in
    and_from (is_near QubitPairs a) (list_all (is_near QubitPairs) (b ∷ targets)) parts.0
    (and_from (is_near QubitPairs b) (list_all (is_near QubitPairs) targets) parts.1 (pairs_near targets parts.3))

pairs_differ : (targets : List Target) → are_near_pairs targets ≡ true → some_pair is_same_qubit targets ≡ false
pairs_differ [] h = refl
pairs_differ (a ∷ []) h = refl
pairs_differ (a ∷ b ∷ targets) h =
    let parts = pair_parts a b targets h in or_from (is_same_qubit a b) (some_pair is_same_qubit targets) parts.2 (pairs_differ targets parts.3)

pairs_even : (targets : List Target) → are_near_pairs targets ≡ true → length targets % 2 ≡ 0
pairs_even [] h = refl
pairs_even (a ∷ []) h = absurd (false≢true h)
pairs_even (a ∷ b ∷ targets) h =
    let rest : length targets % 2 ≡ 0 = pairs_even targets (pair_parts a b targets h).3 in omega arith

-- of plain targets, the same is found for each form that takes pairs
plain_or_back : (targets : List Target) → list_all is_plain targets ≡ true → list_all is_plain_or_back targets ≡ true
plain_or_back [] h = refl
plain_or_back (t ∷ targets) h =
    let parts = and_parts (is_plain t) (list_all is_plain targets) h in rw (parts.0) (plain_or_back targets parts.1)

no_back : (t : Target) → is_plain t ≡ true → is_back t ≡ false
no_back (Plain n) h = refl
no_back (Inverted n) h = refl
no_back (Back k) h = absurd (false≢true h)
no_back (Pauli inverted l n) h = refl
no_back Star h = refl

no_second : (targets : List Target) → list_all is_plain targets ≡ true → some_pair (λ a b. is_back b) targets ≡ false
no_second [] h = refl
no_second (a ∷ []) h = refl
no_second (a ∷ b ∷ targets) h =
    let first = and_parts (is_plain a) (list_all is_plain (b ∷ targets)) h in
    let second = and_parts (is_plain b) (list_all is_plain targets) first.1 in
    or_from (is_back b) (some_pair (λ a b. is_back b) targets) (no_back b second.0) (no_second targets second.1)

no_both : (targets : List Target) → list_all is_plain targets ≡ true → some_pair (λ a b. is_back a && is_back b) targets ≡ false
no_both [] h = refl
no_both (a ∷ []) h = refl
no_both (a ∷ b ∷ targets) h =
    let first = and_parts (is_plain a) (list_all is_plain (b ∷ targets)) h in
    let second = and_parts (is_plain b) (list_all is_plain targets) first.1 in
    or_from (is_back a && is_back b) (some_pair (λ a b. is_back a && is_back b) targets) (rw (no_back a first.0) refl) (no_both targets second.1)

pair_form : (form : TargetForm) (targets : List Target) → takes_pairs form ≡ true → list_all is_plain targets ≡ true → are_of_form form targets ≡ true
unfolding are_of_form
pair_form QubitPairs targets pairs h = h
pair_form PairsRecordFirst targets pairs h = rw (plain_or_back targets h, no_second targets h) refl
pair_form PairsOneRecord targets pairs h = rw (plain_or_back targets h, no_both targets h) refl
pair_form form targets pairs h = absurd (false≢true pairs)

near_within : (form : TargetForm) (t : Target) → takes_pairs form ≡ true → is_near QubitPairs t ≡ true → is_target_beyond form t ≡ false
near_within QubitPairs (Plain n) pairs h = not_false (is_target_beyond QubitPairs (Plain n)) h
near_within PairsRecordFirst (Plain n) pairs h = not_false (is_target_beyond QubitPairs (Plain n)) h
near_within PairsOneRecord (Plain n) pairs h = not_false (is_target_beyond QubitPairs (Plain n)) h
near_within form (Plain n) pairs h = absurd (false≢true pairs)
near_within form (Inverted n) pairs h = absurd (false≢true h)
near_within form (Back k) pairs h = absurd (false≢true h)
near_within form (Pauli inverted l n) pairs h = absurd (false≢true h)
near_within form Star pairs h = absurd (false≢true h)

pairs_within : (form : TargetForm) (targets : List Target) → takes_pairs form ≡ true → list_all (is_near QubitPairs) targets ≡ true → has_target_beyond form targets ≡ false
unfolding has_target_beyond
pairs_within form [] pairs h = refl
pairs_within form (t ∷ targets) pairs h =
    let parts = and_parts (is_near QubitPairs t) (list_all (is_near QubitPairs) targets) h in
    or_from (is_target_beyond form t) (list_any (is_target_beyond form) targets) (near_within form t pairs parts.0) (pairs_within form targets pairs parts.1)

pairs_others : (form : TargetForm) (text : List ℕ) (targets : List Target) → takes_pairs form ≡ true → length targets % 2 ≡ 0 → some_pair is_same_qubit targets ≡ false → first_of (refusals_of_targets form text targets) ≡ None
unfolding has_wrong_count has_same_qubit
pairs_others QubitPairs text targets pairs even differ = rw (even, differ) refl
pairs_others PairsRecordFirst text targets pairs even differ = rw (even, differ) refl
pairs_others PairsOneRecord text targets pairs even differ = rw (even, differ) refl
pairs_others form text targets pairs even differ = absurd (false≢true pairs)

pub in_pairs : (form : TargetForm) → (form ≡ QubitPairs) ⊎ ((form ≡ PairsRecordFirst) ⊎ (form ≡ PairsOneRecord)) → takes_pairs form ≡ true
in_pairs form (inl e) = rw e refl
in_pairs form (inr (inl e)) = rw e refl
in_pairs form (inr (inr e)) = rw e refl

pub right-pairs : (form : TargetForm) (text : List ℕ) (targets : List Target) → takes_pairs form ≡ true → are_near_pairs targets ≡ true → AreRight circuit_table form text targets
right-pairs form text targets pairs h =
    let near = pairs_near targets h in
    record {
      of_form = pair_form form targets pairs (kind QubitPairs targets near);
      within = pairs_within form targets pairs near;
      others = pairs_others form text targets pairs (pairs_even targets h) (pairs_differ targets h);
    }
