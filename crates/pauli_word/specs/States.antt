-- The state of n qubits is the set of signed words that leave it unchanged, kept as a test of words. At the start
-- these are the words of I and Z with sign plus. A word that is applied changes the sign of the words that anticommute
-- with it. A collapse is the projective measurement of a word w of sign plus, inside a measurement or a reset. Where w
-- or -w is in the state the outcome is decided and the state stays. Otherwise the outcome is random: it is the
-- collapse's coin b, and the new state holds those words p that commute with w and for which p or (-1)^b w p was in the
-- old one. After each of these the words of a state form a commutative group without minus the identity. (Aaronson and
-- Gottesman, Phys. Rev. A 70, 052328 (2004), sections II and III; Gottesman, arXiv:quant-ph/9705052, chapter 3:
-- stabilizer groups.)
use Rattle.std.specs.Prelude.{Bool, true, false, not, ◌&&◌, ◌||◌, if◌then◌else◌, List}
use Rattle.std.specs.List.{list_all}
use Rattle.pauli_word.specs.declared.letter.Letter.{Letter}
use Rattle.pauli_word.specs.declared.letter.Letter.TheVariants.{I, X, Y, Z}
use Rattle.pauli_word.specs.Words.{Signed, signed, with_sign_changed, anticommute, product}

-- a state: of each signed word, whether it leaves the state unchanged
abbrev pub State : Type 0
State = Signed → Bool

-- whether a letter is I or Z
abbrev pub is_I_or_Z : Letter → Bool
is_I_or_Z X = false
is_I_or_Z Y = false
is_I_or_Z letter = true

-- at the start all qubits are 0
abbrev pub start_state : State
start_state p = list_all is_I_or_Z p.letters && not p.negative

-- the state after the word w is applied, where b; otherwise as it was
abbrev pub applied : Bool → List Letter → State → State
applied b w s p = s (with_sign_changed (b && anticommute p.letters w) p)

-- whether the outcome of a collapse of w is decided by the state
abbrev pub is_decided : State → List Letter → Bool
is_decided s w = s (signed w false) || s (signed w true)

-- the outcome of a collapse of w: 0 where w is in the state, 1 where -w is, otherwise the coin
abbrev pub outcome : State → List Letter → Bool → Bool
outcome s w coin = if s (signed w false) then false else (if s (signed w true) then true else coin)

-- the state after a collapse of w
abbrev pub collapsed : List Letter → Bool → State → State
collapsed w coin s p =
    if is_decided s w
    then s p
    else not (anticommute p.letters w) && (s p || s (product (signed w coin) p))

-- the letter by which a reset turns an outcome 1 of this letter into 0
abbrev pub correcting : Letter → Letter
correcting Z = X
correcting Y = X
correcting X = Z
correcting I = I
