-- Short texts of circuits that are too large as a whole. Their blocks aren't unrolled here: what they make is counted on
-- their trees, which is proved to be the same.
use Rattle.std.proofs.Common.{◌≡◌, ℕ, List, [], ◌∷◌, Option, Some, Err, codes, refl, sym, ap, ◌∙◌}
use Rattle.pauli_word.specs.declared.letter.Letter.TheVariants as letter
use Rattle.gate_table.specs.declared.gate.Gate.TheVariants as gate
use Rattle.step_model.specs.declared.fault.Cause.TheVariants as cause
use Rattle.step_model.specs.declared.fault.Fault.{Fault}
use Rattle.step_model.specs.Faults.{unless}
use Rattle.stim_lexer.specs.Trees.{Nothing, Then, Block}
use Rattle.stim_lexer.proofs.TreeLemmas.{each_tree_fits}
use Rattle.stim_parser.specs.declared.operation.Operation.TheVariants.{Applies, Measurement, QubitReset, DetectorDeclaration}
use Rattle.stim_parser.specs.declared.target.Target.TheVariants.{Plain}
use Rattle.stim_parser.specs.Circuits.{Fits}
use Rattle.stim_parser.specs.Judged.{Writes}
use Rattle.stim_parser.specs.Texts.{circuits}
use Rattle.stim_parser.specs.Trees.{Tree}
use Rattle.stim_parser.proofs.CircuitFits.{reading_fits}
use Rattle.unroll.specs.private.Counted.{refusal_counted}
use Rattle.circuit_walk.specs.Meaning.{listing_of}
use Rattle.unroll.specs.Programs.{program_in}
use Rattle.unroll.proofs.FarLines.{refused-as-counted}
use Rattle.unroll.proofs.OnTexts.{on_texts}
use Rattle.unroll.proofs.WorkedWords.{refused}
use Rattle.unroll.proofs.TextLemmas.{program_of_text}

-- a text is refused as what its tree makes is counted
by_count : (text : List ℕ) (tree : Tree) (fault : Fault) → Writes text tree → refusal_counted tree ≡ Some fault → program_in text ≡ Err fault
by_count text tree fault written counted =
    program_of_text text tree written
    ∙ ap (λ (r : Option Fault). unless r (listing_of tree))
    (sym (refused-as-counted tree (each_tree_fits Fits circuits reading_fits text tree written).fit) ∙ counted)

too_many_records : program_in (codes "REPEAT 8000001 {\nM 0\n}\n") ≡ refused cause.Records 0
unfolding on_texts
too_many_records =
    by_count (codes "REPEAT 8000001 {\nM 0\n}\n")
    (Block 1 8000001 (Then (record { line = 2; operation = Measurement letter.Z; arguments = []; targets = Plain 0 ∷ [] }) Nothing) Nothing)
    (record { cause = cause.Records; line = 0 }) refl refl

too_many_collapses : program_in (codes "REPEAT 4000001 {\nR 0 1\n}\n") ≡ refused cause.Records 0
unfolding on_texts
too_many_collapses =
    by_count (codes "REPEAT 4000001 {\nR 0 1\n}\n")
    (Block 1 4000001 (Then (record { line = 2; operation = QubitReset letter.Z; arguments = []; targets = Plain 0 ∷ Plain 1 ∷ [] }) Nothing) Nothing)
    (record { cause = cause.Records; line = 0 }) refl refl

too_many_detectors : program_in (codes "REPEAT 1000001 {\nDETECTOR\n}\n") ≡ refused cause.Detectors 0
unfolding on_texts
too_many_detectors =
    by_count (codes "REPEAT 1000001 {\nDETECTOR\n}\n")
    (Block 1 1000001 (Then (record { line = 2; operation = DetectorDeclaration; arguments = []; targets = [] }) Nothing) Nothing)
    (record { cause = cause.Detectors; line = 0 }) refl refl

-- a gate of one target counts two, and the turn one more
too_many_steps : program_in (codes "REPEAT 21333334 {\nH 0\n}\n") ≡ refused cause.Steps 0
unfolding on_texts
too_many_steps =
    by_count (codes "REPEAT 21333334 {\nH 0\n}\n")
    (Block 1 21333334 (Then (record { line = 2; operation = Applies gate.H; arguments = []; targets = Plain 0 ∷ [] }) Nothing) Nothing)
    (record { cause = cause.Steps; line = 0 }) refl refl
