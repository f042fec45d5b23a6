-- Targets that are found right at a look: each is of the kind that most lines of its form have, and within its limit. (This
-- project's own.)
use Rattle.std.specs.Prelude.{Bool, true, false, not, ◌&&◌, List, [], ◌∷◌}
use Rattle.stim_parser.specs.declared.forms.TargetForm.{TargetForm}
use Rattle.stim_parser.specs.declared.forms.TargetForm.TheVariants.{QubitPairs, QubitsInvertedAtWill, Paulis, Records}
use Rattle.stim_parser.specs.declared.target.Target.{Target}
use Rattle.stim_parser.specs.Limits.{is_back, is_pauli, is_plain, is_plain_or_inverted, is_same_qubit, is_target_beyond}

-- the kind; records in pairs are rare
abbrev pub is_of_kind : TargetForm → Target → Bool
is_of_kind QubitsInvertedAtWill = is_plain_or_inverted
is_of_kind Paulis = is_pauli
is_of_kind Records = is_back
is_of_kind form = is_plain

abbrev pub is_near : TargetForm → Target → Bool
is_near form target = is_of_kind form target && not (is_target_beyond form target)

-- pairs of such targets, in none of which a qubit is named twice
abbrev pub are_near_pairs : List Target → Bool
are_near_pairs [] = true
are_near_pairs (a ∷ b ∷ targets) =
    ((is_near QubitPairs a && is_near QubitPairs b) && not (is_same_qubit a b)) && are_near_pairs targets
are_near_pairs targets = false
