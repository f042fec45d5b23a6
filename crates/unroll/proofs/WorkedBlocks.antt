-- Short texts with blocks and the program for which they stand, worked out by the definitions alone.
use Rattle.std.proofs.Common.{◌≡◌, [], ◌∷◌, ◌++◌, codes, refl, pos, Ok}
use Rattle.gate_table.specs.declared.gate.Gate.TheVariants as gate
use Rattle.pauli_word.specs.declared.letter.Letter.TheVariants.{I, X, Z}
use Rattle.step_model.specs.Listing.{One, Collapse, Fault, Feedback, Reset, Flips}
use Rattle.stim_lexer.specs.Reached.{copies}
use Rattle.unroll.specs.Programs.{program_in}
use Rattle.unroll.proofs.OnTexts.{on_texts}
use Rattle.unroll.proofs.WorkedWords.{quiet, measuring, measured, flipped, applies, half, quarter}

record_of_each_turn :
    program_in (codes "REPEAT 2 {\nM 0\nDETECTOR rec[-1]\n}\n")
    ≡ Ok (record (measuring 1 2 (measured (Z ∷ []) 0 ∷ measured (Z ∷ []) 1 ∷ [])) {
      detectors = (0 ∷ []) ∷ (1 ∷ []) ∷ [];
      coordinates = ([]) ∷ ([]) ∷ [];
    })
unfolding on_texts
record_of_each_turn = refl

-- a memory experiment: each turn compares its record with that before it, and moves the coordinates on
memory :
    program_in (codes "M 0\nREPEAT 2 {\nX_ERROR(0.5) 0\nM 0\n"
    ++ codes "DETECTOR(0, 1) rec[-1] rec[-2]\nSHIFT_COORDS(0, 1)\n}\nOBSERVABLE_INCLUDE(0) rec[-1]\n")
    ≡ Ok (record (measuring 1 3 (measured (Z ∷ []) 0 ∷ Fault 0 ∷ measured (Z ∷ []) 1 ∷ Fault 1 ∷ measured (Z ∷ []) 2 ∷ [])) {
      detectors = (1 ∷ 0 ∷ []) ∷ (2 ∷ 1 ∷ []) ∷ [];
      observables = (2 ∷ []) ∷ [];
      coordinates = (pos 0 ∷ pos 1 ∷ []) ∷ (pos 0 ∷ pos 2 ∷ []) ∷ [];
      faults = half (applies X 0) ∷ half (applies X 0) ∷ [];
    })
unfolding on_texts
memory = refl

-- each turn makes its own faults, in the order of its steps
faults_of_each_turn :
    program_in (codes "repeat 2 {\n    MR(0.5) 0\n    E(0.25) Z1\n}\n")
    ≡ Ok (record (measuring 2 2 (Collapse (Reset Z 0) (flipped 0 0) ∷ Fault 1 ∷ Collapse (Reset Z 0) (flipped 1 2) ∷ Fault 3 ∷ [])) {
      faults = half (Flips 0) ∷ quarter (applies Z 1) ∷ half (Flips 1) ∷ quarter (applies Z 1) ∷ [];
    })
unfolding on_texts
faults_of_each_turn = refl

-- the inner block makes two records in each of two turns, and the detector after it compares the last two
nested :
    program_in (codes "REPEAT 2 {\nH 0\nREPEAT 2 {\nM 0\n}\nDETECTOR rec[-1] rec[-2]\n}\nS 0\n")
    ≡ Ok (record (measuring 1 4
    (One gate.H 0
    ∷ measured (Z ∷ []) 0
    ∷ measured (Z ∷ []) 1
    ∷ One gate.H 0
    ∷ measured (Z ∷ []) 2
    ∷ measured (Z ∷ []) 3
    ∷ One gate.S 0
    ∷ [])) {
      detectors = (1 ∷ 0 ∷ []) ∷ (3 ∷ 2 ∷ []) ∷ [];
      coordinates = ([]) ∷ ([]) ∷ [];
    })
unfolding on_texts
nested = refl

-- the shift of the inner block is made three times in each turn of the outer one
nested_shifts :
    program_in (codes "REPEAT 2 {\nDETECTOR(0, 0)\nREPEAT 3 {\n"
    ++ codes "SHIFT_COORDS(1)\n}\nSHIFT_COORDS(0, 10)\n}\nDETECTOR(0, 0, 0)\n")
    ≡ Ok (record (quiet 0 []) {
      detectors = ([]) ∷ ([]) ∷ ([]) ∷ [];
      coordinates = (pos 0 ∷ pos 0 ∷ []) ∷ (pos 3 ∷ pos 10 ∷ []) ∷ (pos 6 ∷ pos 20 ∷ pos 0 ∷ []) ∷ [];
    })
unfolding on_texts
nested_shifts = refl

-- a record before the block is one further back in each turn after the first
feedback_in_turns :
    program_in (codes "M 1\nREPEAT 3 {\nCX rec[-1] 0\nM 0\n}\nOBSERVABLE_INCLUDE(0) rec[-1] rec[-4]\n")
    ≡ Ok (record (measuring 2 4
    (measured (I ∷ Z ∷ []) 0
    ∷ Feedback (X ∷ I ∷ []) 0
    ∷ measured (Z ∷ I ∷ []) 1
    ∷ Feedback (X ∷ I ∷ []) 1
    ∷ measured (Z ∷ I ∷ []) 2
    ∷ Feedback (X ∷ I ∷ []) 2
    ∷ measured (Z ∷ I ∷ []) 3
    ∷ [])) {
      observables = (3 ∷ 0 ∷ []) ∷ [];
    })
unfolding on_texts
feedback_in_turns = refl

-- an observable in a block is added to in each turn
observable_in_turns :
    program_in (codes "REPEAT 2 {\nM 0 1\nOBSERVABLE_INCLUDE(1) rec[-2]\n}\n")
    ≡ Ok (record (measuring 2 4
    (measured (Z ∷ I ∷ []) 0
    ∷ measured (I ∷ Z ∷ []) 1
    ∷ measured (Z ∷ I ∷ []) 2
    ∷ measured (I ∷ Z ∷ []) 3
    ∷ [])) {
      observables = ([]) ∷ (0 ∷ 2 ∷ []) ∷ [];
    })
unfolding on_texts
observable_in_turns = refl

-- as many blocks inside one another as there may be
deepest_block :
    program_in (copies 32 (codes "REPEAT 1 {\n") ++ codes "H 0\n" ++ copies 32 (codes "}\n"))
    ≡ Ok (quiet 1 (One gate.H 0 ∷ []))
unfolding on_texts
deepest_block = refl
