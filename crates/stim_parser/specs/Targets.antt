-- The targets of an instruction, as they are written. A qubit is a number (`5`, `005`); an inverted one is `!` and a
-- number; a record is `rec[-k]`, k a number and at least 1: the kth last record; a Pauli target is one of `X Y Z x y z`
-- and a number, and may have a `!` before it. A `*` joins the Pauli targets beside it into one product. Targets stand
-- between blanks; those around a `*` may be left out.
-- (Stim's circuit format, github.com/quantumlib/Stim, doc/file_format_stim_circuit.md, "Target Types".)
use Rattle.std.specs.Prelude.{ℕ, ◌==◌, ◌-◌, Bool, true, false, ◌&&◌, if◌then◌else◌, List, [], ◌∷◌, ◌++◌, length, Option, None, Some, option_map, option_and_then, codes, bytes_eq, slice_range}
use Rattle.std.specs.Option.{option_or}
use Rattle.pauli_word.specs.declared.letter.Letter.{Letter}
use Rattle.pauli_word.specs.declared.letter.Letter.TheVariants as letter
use Rattle.stim_lexer.specs.Bytes.{is_empty}
use Rattle.stim_parser.specs.declared.target.Target.{Target}
use Rattle.stim_parser.specs.declared.target.Target.TheVariants.{Plain, Inverted, Back, Pauli, Star}
use Rattle.gate_table.specs.Names.{named_in}
use Rattle.stim_parser.specs.Numbers.{number_of}
use Rattle.stim_parser.specs.Pieces.{is_star, pieces_of}

-- what a function gives for each element, where it gives something for all
abbrev pub each_of : {X Y : Type 0} → (X → Option Y) → List X → Option (List Y)
each_of f [] = Some []
each_of f (x ∷ xs) = option_and_then (λ y. option_map (λ ys. y ∷ ys) (each_of f xs)) (f x)

-- ---- a record

-- the number of `rec[-k]`, which isn't 0
abbrev pub record_of : List ℕ → Option ℕ
record_of piece =
    let digits = slice_range piece 5 (length piece - 1) in
    if bytes_eq piece (codes "rec[-" ++ digits ++ codes "]")
    then option_and_then (λ k. if k == 0 then None else Some k) (number_of digits)
    else None

-- ---- a Pauli target

-- the letter that a byte writes, in either case
abbrev pub letter_of : ℕ → Option Letter
letter_of b = named_in ((codes "X", letter.X) ∷ (codes "Y", letter.Y) ∷ (codes "Z", letter.Z) ∷ []) (b ∷ [])

-- a letter and its qubit
abbrev pub pauli_of : Bool → List ℕ → Option Target
pauli_of inverted [] = None
pauli_of inverted (b ∷ digits) = option_and_then (λ l. option_map (Pauli inverted l) (number_of digits)) (letter_of b)

-- ---- any target

-- what follows a `!`
abbrev pub inverted_of : List ℕ → Option Target
inverted_of text = option_or (option_map Inverted (number_of text)) (pauli_of true text)

-- a target that is known by its first byte
abbrev pub marked_of : List ℕ → Option Target
marked_of [] = None
marked_of (b ∷ text) =
    if b == 33 then inverted_of text
    else (if is_star b && is_empty text then Some Star else pauli_of false (b ∷ text))

-- the target that a piece writes, in whichever form
unfoldable pub target_of : List ℕ → Option Target
target_of piece =
    option_or (option_map Plain (number_of piece)) (option_or (option_map Back (record_of piece)) (marked_of piece))

-- the targets of a text, where all can be read
unfoldable pub targets_in : List ℕ → Option (List Target)
targets_in text = each_of target_of (pieces_of text)
