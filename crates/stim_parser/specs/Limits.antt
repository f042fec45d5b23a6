-- What is asked of the arguments and of the targets of an instruction or of the start of a block. Each question has an
-- answer by itself; their order is said elsewhere. An instruction fits where no question finds anything wrong. (Stim's
-- circuit format, github.com/quantumlib/Stim, doc/file_format_stim_circuit.md, "Instruction Types", and doc/gates.md;
-- the limits are this project's.)
use Rattle.std.specs.Prelude.{ℕ, ◌==◌, ◌%◌, nat_lt, Bool, true, false, not, ◌&&◌, ◌||◌, List, [], ◌∷◌, length, is_some}
use Rattle.std.specs.List.{list_any, list_all, onto_first}
use Rattle.step_model.specs.Probabilities.{decimal_of, probability_bound}
use Rattle.stim_lexer.specs.Bytes.{is_empty}
use Rattle.stim_parser.specs.declared.forms.ArgumentForm.{ArgumentForm}
use Rattle.stim_parser.specs.declared.forms.ArgumentForm.TheVariants.{NoArguments, ProbabilityAtWill, OneProbability, WholeNumbers, Decimals, OneNumber}
use Rattle.stim_parser.specs.declared.forms.TargetForm.{TargetForm}
use Rattle.stim_parser.specs.declared.forms.TargetForm.TheVariants.{NoTargets, QubitsInvertedAtWill, QubitPairs, PairsRecordFirst, PairsOneRecord, Paulis, Products, Records, Turns}
use Rattle.stim_parser.specs.declared.target.Target.{Target}
use Rattle.stim_parser.specs.declared.target.Target.TheVariants.{Plain, Inverted, Back, Pauli, Star}
use Rattle.stim_parser.specs.Numbers.{is_number, without_minus, value_of, magnitude_of, is_number_beyond, is_qubit_beyond}

-- ---- arguments

-- a number of arguments that an instruction doesn't take
abbrev pub is_wrong_count : ArgumentForm → ℕ → Bool
is_wrong_count NoArguments n = not (n == 0)
is_wrong_count ProbabilityAtWill n = nat_lt 1 n
is_wrong_count WholeNumbers n = nat_lt 16 n
is_wrong_count Decimals n = nat_lt 16 n
is_wrong_count form n = not (n == 1)

-- an argument of the form that is asked; of a probability it is asked here only that it isn't empty, and its form later
abbrev pub is_argument : ArgumentForm → List ℕ → Bool
is_argument WholeNumbers text = is_number (without_minus text)
is_argument Decimals text = is_some (decimal_of (without_minus text))
is_argument OneNumber text = is_number text
is_argument form text = not (is_empty text)

-- a wrong number of arguments, or one of another form
unfoldable pub has_wrong_arguments : ArgumentForm → List (List ℕ) → Bool
has_wrong_arguments form arguments =
    is_wrong_count form (length arguments) || not (list_all (is_argument form) arguments)

-- whether an argument of this form is a probability
abbrev pub takes_probability : ArgumentForm → Bool
takes_probability ProbabilityAtWill = true
takes_probability OneProbability = true
takes_probability form = false

-- whether a text is accepted as a probability
abbrev pub is_probability : List ℕ → Bool
is_probability text = is_some (probability_bound text)

-- an argument that has to be a probability and isn't one that is accepted
unfoldable pub has_wrong_probability : ArgumentForm → List (List ℕ) → Bool
has_wrong_probability form arguments = takes_probability form && not (list_all is_probability arguments)

-- an argument is beyond its limit: a coordinate of a magnitude above the greatest one, or another number
abbrev pub has_argument_beyond : ℕ → ArgumentForm → List (List ℕ) → Bool
has_argument_beyond greatest WholeNumbers arguments = list_any (λ text. nat_lt greatest (magnitude_of text)) arguments
has_argument_beyond greatest OneNumber arguments = list_any (λ text. is_number_beyond (value_of text)) arguments
has_argument_beyond greatest form arguments = false

-- ---- forms of targets

-- a number alone
abbrev pub is_plain : Target → Bool
is_plain (Plain n) = true
is_plain target = false

-- a number, with a `!` or without
abbrev pub is_plain_or_inverted : Target → Bool
is_plain_or_inverted (Plain n) = true
is_plain_or_inverted (Inverted n) = true
is_plain_or_inverted target = false

-- a record
abbrev pub is_back : Target → Bool
is_back (Back k) = true
is_back target = false

-- a number alone, or a record
abbrev pub is_plain_or_back : Target → Bool
is_plain_or_back target = is_plain target || is_back target

-- a letter at a qubit, without a `!`
abbrev pub is_pauli : Target → Bool
is_pauli (Pauli inverted l q) = not inverted
is_pauli target = false

-- whether some pair from the left passes a test; a last target without a second is in none
abbrev pub some_pair : (Target → Target → Bool) → List Target → Bool
some_pair test (a ∷ b ∷ rest) = test a b || some_pair test rest
some_pair test targets = false

-- the products of targets: the factors that stars join
abbrev pub products_of : List Target → List (List Target)
products_of [] = []
products_of (factor ∷ Star ∷ targets) = onto_first factor (products_of targets)
products_of (factor ∷ targets) = (factor ∷ []) ∷ products_of targets

-- factors, with a `!` or without, and the stars that join them: none stands first, and a factor follows each
abbrev pub are_products : List Target → Bool
are_products [] = true
are_products (Pauli inverted l q ∷ Star ∷ target ∷ rest) = are_products (target ∷ rest)
are_products (Pauli inverted l q ∷ rest) = are_products rest
are_products targets = false

-- targets of the form that an instruction takes: of a pair the second, or both, may be no records
unfoldable pub are_of_form : TargetForm → List Target → Bool
are_of_form NoTargets targets = true
are_of_form QubitsInvertedAtWill targets = list_all is_plain_or_inverted targets
are_of_form PairsRecordFirst targets = list_all is_plain_or_back targets && not (some_pair (λ a b. is_back b) targets)
are_of_form PairsOneRecord targets = list_all is_plain_or_back targets && not (some_pair (λ a b. is_back a && is_back b) targets)
are_of_form Paulis targets = list_all is_pauli targets
are_of_form Products targets = are_products targets
are_of_form Records targets = list_all is_back targets
are_of_form form targets = list_all is_plain targets

-- ---- limits of targets

-- the qubit that a target names
abbrev pub qubit_of : Target → ℕ
qubit_of (Plain q) = q
qubit_of (Inverted q) = q
qubit_of (Pauli inverted l q) = q
qubit_of target = 0

-- whether the number of a target is beyond its limit
abbrev pub is_target_beyond : TargetForm → Target → Bool
is_target_beyond form (Back k) = is_number_beyond k
is_target_beyond Turns (Plain n) = is_number_beyond n
is_target_beyond form target = is_qubit_beyond (qubit_of target)

-- whether that of some target is
unfoldable pub has_target_beyond : TargetForm → List Target → Bool
has_target_beyond form targets = list_any (is_target_beyond form) targets

-- ---- how many targets

-- whether targets of this form go in pairs
abbrev pub takes_pairs : TargetForm → Bool
takes_pairs QubitPairs = true
takes_pairs PairsRecordFirst = true
takes_pairs PairsOneRecord = true
takes_pairs form = false

-- a number of targets that an instruction doesn't take; those that take none are judged elsewhere
unfoldable pub has_wrong_count : TargetForm → List Target → Bool
has_wrong_count Turns targets = not (length targets == 1)
has_wrong_count form targets = takes_pairs form && length targets % 2 == 1

-- ---- qubits named twice

-- whether two numbers alone name one qubit
abbrev pub is_same_qubit : Target → Target → Bool
is_same_qubit (Plain p) (Plain q) = p == q
is_same_qubit a b = false

-- whether two factors name one qubit
abbrev pub is_same_factor : Target → Target → Bool
is_same_factor (Pauli inverted l p) (Pauli other_inverted k q) = p == q
is_same_factor a b = false

-- a product that names one qubit twice
abbrev pub names_twice : List Target → Bool
names_twice [] = false
names_twice (factor ∷ factors) = list_any (is_same_factor factor) factors || names_twice factors

-- a pair or a product that names one qubit twice
unfoldable pub has_same_qubit : TargetForm → List Target → Bool
has_same_qubit Products targets = list_any names_twice (products_of targets)
has_same_qubit form targets = takes_pairs form && some_pair is_same_qubit targets
