use Rattle.std.proofs.Common.{◌≡◌, ◌<◌, ◌∷◌, [], ℕ, List, None, length, ap, ap₂, subst, sym, ◌∙◌, arith}
use Rattle.std.specs.Prelude.{All, replicate}
use Rattle.pauli_word.specs.declared.letter.Letter.TheVariants.{Z}
use Rattle.step_model.specs.declared.step.Term.{Term}
use Rattle.step_model.specs.Targets.{targets_of}
use Rattle.backward.specs.private.Collapses.{noted}
use Rattle.backward.specs.private.Passes.{lowest_below, opened, tracked_before}
use Rattle.trackers.specs.Tracked.{anticommuting}
use Rattle.backward.proofs.PassPlaces.{lowest_below-none, lowest_below-more, length-lowest_below, hit_in_range}
use Rattle.backward.proofs.PassWords.{words_count}
use Rattle.backward.proofs.places.lowest_at_start.Goals as goal

pub loop-qubit-init : goal.loop-qubit-init
loop-qubit-init g c =
    record {
      words = c.requires;
      lowest = ap (opened c.target_count-targets.result) c.new-lowest.ensures.items ∙ (ap (λ (n : ℕ). replicate n None) c.target_count-targets.ensures.count ∙ lowest_below-none c.args.program.now.listing);
    }

pub note-requires-clause-long : goal.note-requires-clause-long
note-requires-clause-long g c =
    ap length c.loop-qubit.invariant.lowest ∙ (length-lowest_below c.args.program.now.listing c.loop-qubit.qubit ∙ sym c.target_count-targets.ensures.count)

pub note-requires-clause-hit : goal.note-requires-clause-hit
note-requires-clause-hit g c =
    let program = c.args.program.now.listing in
    let terms : List Term = record { qubit = c.loop-qubit.qubit; letter = Z } ∷ [] in
    let hit = c.as_slice.ensures.value ∙ (c.in_ok-hit.ensures.hit ∙ ap (anticommuting terms) c.loop-qubit.invariant.words) in
    subst (λ n. All (λ t. t < n) c.as_slice.result.now) (sym c.target_count-targets.ensures.count)
    (subst (All (λ t. t < length (targets_of program))) (sym hit) (hit_in_range program terms (tracked_before program program.steps) (words_count program program.steps)))

pub loop-qubit-preserved : goal.loop-qubit-preserved
loop-qubit-preserved g c =
    let program = c.args.program.now.listing in
    let qubit = c.loop-qubit.qubit in
    let terms : List Term = record { qubit = qubit; letter = Z } ∷ [] in
    let hit = c.as_slice.ensures.value ∙ (c.in_ok-hit.ensures.hit ∙ ap (anticommuting terms) c.loop-qubit.invariant.words) in
    record {
      words = c.hit.ensures.same ∙ c.loop-qubit.invariant.words;
      lowest =
          c.in_ok-note.ensures
          ∙ (ap₂ (noted qubit) hit c.loop-qubit.invariant.lowest
          ∙ lowest_below-more program qubit c.well_formed-2.ensures.steps_fit (omega (arith, c.loop-qubit-test.true, c.qubits-qubit-end.ensures)));
    }

pub returns-clause-lowest : goal.returns-clause-lowest
returns-clause-lowest g c =
    let program = c.args.program.now.listing in
    subst (λ n. opened n c.loop-qubit.lowest.items ≡ lowest_below program program.qubits) c.target_count-targets.ensures.count
    (c.loop-qubit.invariant.lowest ∙ ap (lowest_below program) (omega (arith, c.qubits-qubit-end.ensures)))

pub returns-clause-words : goal.returns-clause-words
returns-clause-words g c = c.loop-qubit.invariant.words ∙ sym c.requires
