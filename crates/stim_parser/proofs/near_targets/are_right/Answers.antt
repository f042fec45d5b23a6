use Rattle.std.proofs.Common.{◌∙◌, sym}
use Rattle.std.proofs.lemmas.List.{nil_from_length}
use Rattle.std.proofs.lemmas.Bool.{eqb-true}
use Rattle.stim_parser.proofs.NearLemmas.{in_pairs, right-none, right-qubits, right-measured, right-pairs, right-paulis, right-records}
use Rattle.stim_parser.proofs.near_targets.are_right.Goals as goal

pub returns-then-is_empty : goal.returns-then-is_empty
returns-then-is_empty c =
    λ h. rw c.in-NoTargets.is (right-none c.args.text.now c.args.targets.now (nil_from_length _ (eqb-true _ _ (sym c.is_empty.ensures ∙ c.if-is_empty.true))) (sym c.after_blanks.ensures ∙ nil_from_length _ (eqb-true _ _ (sym c.is_empty-then-is_empty.ensures ∙ h))))

pub returns-in-Qubits : goal.returns-in-Qubits
returns-in-Qubits c = λ h. rw c.in-Qubits.is (right-qubits c.args.text.now c.args.targets.now (sym c.are_near.ensures ∙ h))

pub returns-in-QubitsInvertedAtWill : goal.returns-in-QubitsInvertedAtWill
returns-in-QubitsInvertedAtWill c =
    λ h. rw c.in-QubitsInvertedAtWill.is (right-measured c.args.text.now c.args.targets.now (sym c.are_near-in-QubitsInvertedAtWill.ensures ∙ h))

pub returns-in-QubitPairs : goal.returns-in-QubitPairs
returns-in-QubitPairs c =
    λ h. right-pairs c.args.form c.args.text.now c.args.targets.now (in_pairs c.args.form c.in-QubitPairs.is) (sym c.are_near_pairs.ensures ∙ h)

pub returns-in-Paulis : goal.returns-in-Paulis
returns-in-Paulis c = λ h. rw c.in-Paulis.is (right-paulis c.args.text.now c.args.targets.now (sym c.are_near-in-Paulis.ensures ∙ h))

pub returns-in-Records : goal.returns-in-Records
returns-in-Records c = λ h. rw c.in-Records.is (right-records c.args.text.now c.args.targets.now (sym c.are_near-in-Records.ensures ∙ h))
