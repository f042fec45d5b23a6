-- Short texts with the program for which they stand, worked out by the definitions alone.
use Rattle.std.proofs.Common.{◌≡◌, [], ◌∷◌, codes, refl, None, Ok}
use Rattle.gate_table.specs.declared.gate.Gate.TheVariants as gate
use Rattle.pauli_word.specs.declared.letter.Letter.TheVariants.{I, X, Y, Z}
use Rattle.step_model.specs.Listing.{One, Two, Collapse, Fault, Word, Reset, Applies, Flips}
use Rattle.unroll.specs.Programs.{program_in}
use Rattle.unroll.proofs.OnTexts.{on_texts}
use Rattle.unroll.proofs.WorkedWords.{quiet, measuring, measured, inverted, flipped, flipped_inverse, term, certain, half, quarter, eighth}

nothing : program_in (codes "") ≡ Ok (quiet 0 [])
unfolding on_texts
nothing = refl

bell_pair :
    program_in (codes "H 0\nCX 0 1\nM 0 1\nDETECTOR rec[-1] rec[-2]\n")
    ≡ Ok (record (measuring 2 2 (One gate.H 0 ∷ Two gate.CX 0 1 ∷ measured (Z ∷ I ∷ []) 0 ∷ measured (I ∷ Z ∷ []) 1 ∷ [])) {
      detectors = (1 ∷ 0 ∷ []) ∷ [];
      coordinates = ([]) ∷ [];
    })
unfolding on_texts
bell_pair = refl

-- ---- gates

-- an alias in lower case, a tag, which may hold a `#`, a comment, a line without anything, and blanks around targets
names_and_comments :
    program_in (codes "H[a#b] 0\ncnot 0 1 # M 0\n\n# H 0\n  s_dag\t1   0 ")
    ≡ Ok (quiet 2 (One gate.H 0 ∷ Two gate.CX 0 1 ∷ One gate.SDag 1 ∷ One gate.SDag 0 ∷ []))
unfolding on_texts
names_and_comments = refl

-- blanks around arguments, targets and stars, carriage returns, zeros in front and the case of letters mean nothing; a
-- probability's text stays as it stands
spelled_otherwise :
    program_in (codes "H 00 \r\nE(0.50 )  x0\tz1\r\nmpp x0 *z1\r\n")
    ≡ Ok (record (measuring 2 1 (One gate.H 0 ∷ Fault 0 ∷ measured (X ∷ Z ∷ []) 0 ∷ [])) {
      faults =
          record { text = codes "0.50"; bound = 9_223_372_036_854_775_808; effect = Applies (term X 0 ∷ term Z 1 ∷ []) }
          ∷ [];
    })
unfolding on_texts
spelled_otherwise = refl

-- without targets only a correlated error makes something: one fault of no letters
no_targets :
    program_in (codes "H\nCX\nM(0.5)\nMPP\nX_ERROR(0.5)\nE(1)\n")
    ≡ Ok (record (quiet 0 (Fault 0 ∷ [])) { faults = certain (Applies []) ∷ [] })
unfolding on_texts
no_targets = refl

greatest_qubit : program_in (codes "H 4095\n") ≡ Ok (quiet 4096 (One gate.H 4095 ∷ []))
unfolding on_texts
greatest_qubit = refl

pairs_from_the_left :
    program_in (codes "SWAP 0 1 2 0\nXCZ 1 0\n")
    ≡ Ok (quiet 3 (Two gate.Swap 0 1 ∷ Two gate.Swap 2 0 ∷ Two gate.XCZ 1 0 ∷ []))
unfolding on_texts
pairs_from_the_left = refl

-- the qubits go up to one that only a statement of its place names
places_and_ticks : program_in (codes "QUBIT_COORDS(0.5, -1) 3\nTICK\nH 1\n") ≡ Ok (quiet 4 (One gate.H 1 ∷ []))
unfolding on_texts
places_and_ticks = refl

-- ---- measurements and resets

inverted_record :
    program_in (codes "M !1 0\nMX !0")
    ≡ Ok (measuring 2 3
    (Collapse (Word (I ∷ Z ∷ [])) (inverted 0)
    ∷ measured (Z ∷ I ∷ []) 1
    ∷ Collapse (Word (X ∷ I ∷ [])) (inverted 2)
    ∷ []))
unfolding on_texts
inverted_record = refl

flipped_records :
    program_in (codes "MX(0.125) 0 !1\n")
    ≡ Ok (record (measuring 2 2
    (Collapse (Word (X ∷ I ∷ [])) (flipped 0 0)
    ∷ Collapse (Word (I ∷ X ∷ [])) (flipped_inverse 1 1)
    ∷ [])) {
      faults = eighth (Flips 0) ∷ eighth (Flips 1) ∷ [];
    })
unfolding on_texts
flipped_records = refl

-- a reset makes a collapse and no record
resets :
    program_in (codes "R 1 0\nRX 0\nMY 1\n")
    ≡ Ok (record (measuring 2 1
    (Collapse (Reset Z 1) None
    ∷ Collapse (Reset Z 0) None
    ∷ Collapse (Reset X 0) None
    ∷ measured (I ∷ Y ∷ []) 0
    ∷ [])) {
      collapses = 4;
    })
unfolding on_texts
resets = refl

measured_and_reset :
    program_in (codes "MR(0.25) 0 0\nMRY !0\n")
    ≡ Ok (record (measuring 1 3
    (Collapse (Reset Z 0) (flipped 0 0)
    ∷ Collapse (Reset Z 0) (flipped 1 1)
    ∷ Collapse (Reset Y 0) (inverted 2)
    ∷ [])) {
      faults = quarter (Flips 0) ∷ quarter (Flips 1) ∷ [];
    })
unfolding on_texts
measured_and_reset = refl

-- a product has one record, which is inverted where an odd number of its factors has a `!`
products :
    program_in (codes "MPP(0.5) X0*!Y1 Z2\nMPP !X0 * !Z1*Y2\n")
    ≡ Ok (record (measuring 3 3
    (Collapse (Word (X ∷ Y ∷ I ∷ [])) (flipped_inverse 0 0)
    ∷ Collapse (Word (I ∷ I ∷ Z ∷ [])) (flipped 1 1)
    ∷ measured (X ∷ Z ∷ Y ∷ []) 2
    ∷ [])) {
      faults = half (Flips 0) ∷ half (Flips 1) ∷ [];
    })
unfolding on_texts
products = refl
