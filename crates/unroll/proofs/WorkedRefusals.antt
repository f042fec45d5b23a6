-- Short texts with the cause for which they are refused and the line at fault, worked out by the definitions alone.
use Rattle.std.proofs.Common.{◌≡◌, codes, refl}
use Rattle.step_model.specs.declared.fault.Cause.TheVariants as cause
use Rattle.stim_lexer.specs.Reached.{copies}
use Rattle.unroll.specs.Programs.{program_in}
use Rattle.unroll.proofs.OnTexts.{on_texts}
use Rattle.unroll.proofs.WorkedWords.{refused}

-- ---- lines

bad_byte : program_in (codes "H 0\nH 0é\n") ≡ refused cause.Byte 2
unfolding on_texts
bad_byte = refl

unknown_name : program_in (codes "H 0\n\nHADAMARD 0\n") ≡ refused cause.Name 3
unfolding on_texts
unknown_name = refl

left_out : program_in (codes "DEPOLARIZE1(0.1) 0\n") ≡ refused cause.LeftOut 1
unfolding on_texts
left_out = refl

no_probability : program_in (codes "X_ERROR 0\n") ≡ refused cause.Arguments 1
unfolding on_texts
no_probability = refl

great_probability : program_in (codes "M(1.5) 0\n") ≡ refused cause.Probability 1
unfolding on_texts
great_probability = refl

inverted_target : program_in (codes "H !0\n") ≡ refused cause.Target 1
unfolding on_texts
inverted_target = refl

record_second : program_in (codes "M 0\nCX 1 rec[-1]\n") ≡ refused cause.Target 2
unfolding on_texts
record_second = refl

great_qubit : program_in (codes "H 4095 4096\n") ≡ refused cause.Number 1
unfolding on_texts
great_qubit = refl

half_a_pair : program_in (codes "CX 0 1 2\n") ≡ refused cause.Count 1
unfolding on_texts
half_a_pair = refl

same_qubit : program_in (codes "CX 0 0\n") ≡ refused cause.SameQubit 1
unfolding on_texts
same_qubit = refl

same_factor : program_in (codes "MPP X0*Z1 X0*Z1*Y0\n") ≡ refused cause.SameQubit 1
unfolding on_texts
same_factor = refl

-- ---- blocks

no_turns : program_in (codes "REPEAT 0 {\nH 0\n}\n") ≡ refused cause.RepeatZero 1
unfolding on_texts
no_turns = refl

-- the innermost block that stays open
open_block : program_in (codes "REPEAT 2 {\nREPEAT 3 {\n}\nREPEAT 4 {\nH 0\n") ≡ refused cause.Block 4
unfolding on_texts
open_block = refl

closed_twice : program_in (codes "REPEAT 2 {\n}\n}\n") ≡ refused cause.Block 3
unfolding on_texts
closed_twice = refl

too_deep : program_in (copies 33 (codes "REPEAT 1 {\n")) ≡ refused cause.Depth 33
unfolding on_texts
too_deep = refl

-- ---- the whole circuit

record_before_start : program_in (codes "DETECTOR rec[-1]\n") ≡ refused cause.RecordBeforeStart 1
unfolding on_texts
record_before_start = refl

-- a block's first turn is judged, and all its turns count for what follows it
before_first_turn :
    program_in (codes "M 0\nREPEAT 2 {\nDETECTOR rec[-2]\nM 0\n}\n")
    ≡ refused cause.RecordBeforeStart 3
unfolding on_texts
before_first_turn = refl

before_all_turns :
    program_in (codes "REPEAT 3 {\nM 0\n}\nDETECTOR rec[-3]\nCZ 0 rec[-4]\n")
    ≡ refused cause.RecordBeforeStart 5
unfolding on_texts
before_all_turns = refl

-- a line that is refused by itself comes before any record target
line_before_record : program_in (codes "DETECTOR rec[-1]\nCX 0 0\n") ≡ refused cause.SameQubit 2
unfolding on_texts
line_before_record = refl

great_observable : program_in (codes "M 0\nOBSERVABLE_INCLUDE(1024) rec[-1]\n") ≡ refused cause.Detectors 2
unfolding on_texts
great_observable = refl
