-- Short texts that name records, in detectors, in observables and in feedback, with the program for which they stand,
-- worked out by the definitions alone.
use Rattle.std.proofs.Common.{◌≡◌, [], ◌∷◌, ◌++◌, replicate, codes, refl, pos, negsuc, Ok}
use Rattle.gate_table.specs.declared.gate.Gate.TheVariants as gate
use Rattle.pauli_word.specs.declared.letter.Letter.TheVariants.{I, X, Y, Z}
use Rattle.step_model.specs.Listing.{Two, Feedback}
use Rattle.unroll.specs.Programs.{program_in}
use Rattle.unroll.proofs.OnTexts.{on_texts}
use Rattle.unroll.proofs.WorkedWords.{quiet, measuring, measured}

-- a detector lists a record as often as it is named, and may list none
records_of_detectors :
    program_in (codes "M 0 0\nDETECTOR rec[-2] rec[-1] rec[-2]\nDETECTOR\nM 0\nDETECTOR rec[-1]\n")
    ≡ Ok (record (measuring 1 3 (measured (Z ∷ []) 0 ∷ measured (Z ∷ []) 1 ∷ measured (Z ∷ []) 2 ∷ [])) {
      detectors = (0 ∷ 1 ∷ 0 ∷ []) ∷ ([]) ∷ (2 ∷ []) ∷ [];
      coordinates = ([]) ∷ ([]) ∷ ([]) ∷ [];
    })
unfolding on_texts
records_of_detectors = refl

-- a shift moves the coordinates of later detectors on the axes that it and they state
shifted_coordinates :
    program_in (codes "DETECTOR(1, -2)\nSHIFT_COORDS(10, 0, 5)\nDETECTOR(1, -2)\nDETECTOR\nDETECTOR(0,0,0,7)\n")
    ≡ Ok (record (quiet 0 []) {
      detectors = ([]) ∷ ([]) ∷ ([]) ∷ ([]) ∷ [];
      coordinates =
          (pos 1 ∷ negsuc 1 ∷ [])
          ∷ (pos 11 ∷ negsuc 1 ∷ [])
          ∷ ([])
          ∷ (pos 10 ∷ pos 0 ∷ pos 5 ∷ pos 7 ∷ [])
          ∷ [];
    })
unfolding on_texts
shifted_coordinates = refl

shifts_add_up :
    program_in (codes "SHIFT_COORDS(1)\nSHIFT_COORDS(2, -3)\nDETECTOR(0, 1)\n")
    ≡ Ok (record (quiet 0 []) { detectors = ([]) ∷ []; coordinates = (pos 3 ∷ negsuc 1 ∷ []) ∷ [] })
unfolding on_texts
shifts_add_up = refl

-- inclusions into one observable follow one another, and one that nothing is added to is empty
observable_between :
    program_in (codes "M 0 1\nOBSERVABLE_INCLUDE(2) rec[-1]\n"
    ++ codes "OBSERVABLE_INCLUDE(0) rec[-2]\nMX 0\nOBSERVABLE_INCLUDE(2) rec[-1] rec[-3]\n")
    ≡ Ok (record (measuring 2 3 (measured (Z ∷ I ∷ []) 0 ∷ measured (I ∷ Z ∷ []) 1 ∷ measured (X ∷ I ∷ []) 2 ∷ [])) {
      observables = (0 ∷ []) ∷ ([]) ∷ (1 ∷ 2 ∷ 0 ∷ []) ∷ [];
    })
unfolding on_texts
observable_between = refl

greatest_observable :
    program_in (codes "M 0\nOBSERVABLE_INCLUDE(1023) rec[-1]\n")
    ≡ Ok (record (measuring 1 1 (measured (Z ∷ []) 0 ∷ [])) { observables = replicate 1023 [] ++ (0 ∷ []) ∷ [] })
unfolding on_texts
greatest_observable = refl

feedback :
    program_in (codes "M 0 1\nCX rec[-1] 1 0 1\nCY rec[-2] 0\nCZ 0 rec[-2]\nCZ rec[-1] 1\n")
    ≡ Ok (measuring 2 2
    (measured (Z ∷ I ∷ []) 0
    ∷ measured (I ∷ Z ∷ []) 1
    ∷ Feedback (I ∷ X ∷ []) 1
    ∷ Two gate.CX 0 1
    ∷ Feedback (Y ∷ I ∷ []) 0
    ∷ Feedback (Z ∷ I ∷ []) 0
    ∷ Feedback (I ∷ Z ∷ []) 1
    ∷ []))
unfolding on_texts
feedback = refl
