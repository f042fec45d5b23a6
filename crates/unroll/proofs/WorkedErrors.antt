-- Short texts with errors and the program for which they stand, worked out by the definitions alone.
use Rattle.std.proofs.Common.{◌≡◌, [], ◌∷◌, codes, refl, Ok}
use Rattle.pauli_word.specs.declared.letter.Letter.TheVariants.{X, Y, Z}
use Rattle.step_model.specs.Listing.{Collapse, Fault, Word, Applies, Flips}
use Rattle.unroll.specs.Programs.{program_in}
use Rattle.unroll.proofs.OnTexts.{on_texts}
use Rattle.unroll.proofs.WorkedWords.{quiet, measuring, flipped, term, applies, certain, half, quarter}

errors_of_one_letter :
    program_in (codes "X_ERROR(0.5) 0 1\nY_ERROR(1) 1\nZ_ERROR(0) 0\n")
    ≡ Ok (record (quiet 2 (Fault 0 ∷ Fault 1 ∷ Fault 2 ∷ Fault 3 ∷ [])) {
      faults =
          half (applies X 0)
          ∷ half (applies X 1)
          ∷ certain (applies Y 1)
          ∷ record { text = codes "0"; bound = 0; effect = applies Z 0 }
          ∷ [];
    })
unfolding on_texts
errors_of_one_letter = refl

-- bounds are rounded down: 2^64 / 100 is 184467440737095516.16, and 2^64 / 1000 is 18446744073709551.616
correlated_errors :
    program_in (codes "CORRELATED_ERROR(0.01) X0 Z2\nE(1e-3) Y1\n")
    ≡ Ok (record (quiet 3 (Fault 0 ∷ Fault 1 ∷ [])) {
      faults =
          record { text = codes "0.01"; bound = 184_467_440_737_095_516; effect = Applies (term X 0 ∷ term Z 2 ∷ []) }
          ∷ record { text = codes "1e-3"; bound = 18_446_744_073_709_551; effect = applies Y 1 }
          ∷ [];
    })
unfolding on_texts
correlated_errors = refl

-- faults of errors and of records have their numbers in one order
errors_and_flips :
    program_in (codes "X_ERROR(0.5) 0\nM(0.25) 0\nZ_ERROR(0.5) 0\n")
    ≡ Ok (record (measuring 1 1 (Fault 0 ∷ Collapse (Word (Z ∷ [])) (flipped 0 1) ∷ Fault 2 ∷ [])) {
      faults = half (applies X 0) ∷ quarter (Flips 0) ∷ half (applies Z 0) ∷ [];
    })
unfolding on_texts
errors_and_flips = refl
