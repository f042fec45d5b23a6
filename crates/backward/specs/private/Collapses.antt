-- What going back over a collapse, a fault or feedback does to the words, to the targets that list each record and to
-- the places noted, however the words are kept. A collapse is the projective measurement inside a measurement or a
-- reset. (Sensitivities taken back over a circuit: Gidney, Quantum 5, 497 (2021). How they are kept here is this
-- project's own.)
use Rattle.std.specs.Prelude.{ℕ, Bool, true, false, List, [], ◌∷◌, Option, None, Some, slice_index_or, slice_set}
use Rattle.step_model.specs.declared.step.Term.{Term}
use Rattle.step_model.specs.TargetSets.{members}
use Rattle.trackers.specs.Tracked.{Tracked, each_word, with_I_at, added}

-- the words of some targets, multiplied by each letter at a qubit
abbrev pub times_terms : List ℕ → List Term → Tracked → Tracked
times_terms targets [] t = t
times_terms targets (term ∷ terms) t = times_terms targets terms (added targets term.letter term.qubit t)

-- the words, with I at the qubit that is reset, where one is
abbrev pub reset_at : Option ℕ → Tracked → Tracked
reset_at None t = t
reset_at (Some q) t = each_word (with_I_at q) t

-- the words before a collapse of a product of letters, where its record is listed by some targets
abbrev pub undone_collapse : List ℕ → List Term → Option ℕ → Tracked → Tracked
undone_collapse targets terms reset t = times_terms targets terms (reset_at reset t)

-- the targets in the set of a record, none where there is no record
abbrev pub members_at : List (List Bool) → Option ℕ → List ℕ
members_at sets None = []
members_at sets (Some r) = members (slice_index_or sets r [])

-- what is there; where nothing is, the value if b
abbrev pub or_where : ℕ → Bool → Option ℕ → Option ℕ
or_where value b (Some k) = Some k
or_where value true None = Some value
or_where value false None = None

-- the value noted for the targets of a list that have none yet
abbrev pub noted : ℕ → List ℕ → List (Option ℕ) → List (Option ℕ)
noted value [] found = found
noted value (t ∷ ts) found = noted value ts (slice_set found t (or_where value true (slice_index_or found t None)))
