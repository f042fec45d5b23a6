-- Letters at qubits, lent from the targets of an instruction: its own letter at the qubit of each target, or the factors of a
-- product, between which stars may stand. (Stim's circuit format, "Target Types"; how they are lent is this project's own.)
use Rattle.std.specs.Prelude.{List, [], ◌∷◌, All, Option, None, Some}
use Rattle.pauli_word.specs.declared.letter.Letter.{Letter}
use Rattle.step_model.specs.declared.step.Term.{Term}
use Rattle.stim_parser.specs.declared.target.Target.{Target}
use Rattle.stim_parser.specs.declared.target.Target.TheVariants.{Pauli, Star}
use Rattle.circuit_walk.specs.declared.letters.Letters.{Letters}
use Rattle.circuit_walk.specs.Targets.{term_at, term_of}
use Rattle.circuit_walk.specs.Small.{HasSmallQubit}

-- the letter of an instruction at the qubit of a target, or else the letter of the target there
abbrev pub named_letter : Option Letter → Target → Term
named_letter (Some l) target = term_at l target
named_letter None target = term_of target

-- the letters that targets name
abbrev pub letters_named : Option Letter → List Target → List Term
letters_named letter [] = []
letters_named letter (target ∷ Star ∷ targets) = named_letter letter target ∷ letters_named letter targets
letters_named letter (target ∷ targets) = named_letter letter target ∷ letters_named letter targets

-- what follows a star that stands first, or else all
abbrev pub behind_star : List Target → List Target
behind_star (Star ∷ targets) = targets
behind_star targets = targets

abbrev pub letters_in : Letters → List Term
letters_in letters = letters_named letters.letter letters.targets.now

-- the two letters of two Pauli targets alone, with no star between them
abbrev pub two_named : Option Letter → List Target → Option (Term × Term)
two_named None (Pauli i a p ∷ Pauli j b q ∷ []) = Some (term_of (Pauli i a p), term_of (Pauli j b q))
two_named letter targets = None

abbrev pub both_in : Letters → Option (Term × Term)
both_in letters = two_named letters.letter letters.targets.now

-- their qubits are within the limit
abbrev pub AreSmall : Letters → Type 0
AreSmall letters = All HasSmallQubit letters.targets.now
