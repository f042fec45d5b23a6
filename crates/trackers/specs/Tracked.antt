-- What a tracker keeps: one unsigned word a target, on some number of qubits; and what each call makes of the words.
-- (Sensitivities taken back over a circuit: Gidney, Quantum 5, 497 (2021). How they are kept here is this project's
-- own.)
use Rattle.std.specs.Prelude.{◌≡◌, ◌<◌, ◌+◌, ◌*◌, ◌==◌, ℕ, All, Bool, false, List, [], ◌∷◌, map, filter, count_by, length, replicate, slice_index_or, slice_set}
use Rattle.std.specs.List.{range_with_len, list_any}
use Rattle.gate_table.specs.declared.gate.Gate.{Gate}
use Rattle.pauli_word.specs.declared.letter.Letter.{Letter}
use Rattle.pauli_word.specs.declared.letter.Letter.TheVariants.{I}
use Rattle.pauli_word.specs.Bits.{letter_of, x_bit, z_bit}
use Rattle.pauli_word.specs.Words.{signed, anticommute, letter_at, no_letters, lone_letter}
use Rattle.step_model.specs.declared.step.Term.{Term}
use Rattle.gate_table.specs.WordImages.{preimage_at, preimage_at_two}
use Rattle.step_model.specs.Listing.{word_of_terms}
use Rattle.step_model.specs.Sensitivities.{multiplied}
use Rattle.step_model.specs.Targets.{is_listed}

-- the number of qubits, and the word of each target
pub record Tracked : Type 0 where
  pub qubits : ℕ
  pub words : List (List Letter)

-- this many identity words on n qubits
abbrev pub fresh : ℕ → ℕ → Tracked
fresh n count = record { qubits = n; words = replicate count (no_letters n) }

-- each word, changed by f
abbrev pub each_word : (List Letter → List Letter) → Tracked → Tracked
each_word f t = record { qubits = t.qubits; words = map f t.words }

-- the preimage of a word under a gate, its sign left out
abbrev pub undone_one : Gate → ℕ → List Letter → List Letter
undone_one gate q w = (preimage_at gate q (signed w false)).letters

abbrev pub undone_two : Gate → ℕ → ℕ → List Letter → List Letter
undone_two gate a b w = (preimage_at_two gate a b (signed w false)).letters

-- a word with I at a qubit
abbrev pub with_I_at : ℕ → List Letter → List Letter
with_I_at q w = slice_set w q I

-- whether a list of targets names one
abbrev pub is_among : List ℕ → ℕ → Bool
is_among targets t = list_any (λ u. t == u) targets

-- the words that a list names, times a letter at a qubit
abbrev pub added : List ℕ → Letter → ℕ → Tracked → Tracked
added targets letter q t =
    record {
      qubits = t.qubits;
      words =
          map (λ k. multiplied (is_among targets k) (lone_letter t.qubits q letter) (slice_index_or t.words k []))
          (range_with_len 0 (length t.words));
    }

-- the targets whose words anticommute with the product of letters at qubits, ascending
abbrev pub anticommuting : List Term → Tracked → List ℕ
anticommuting terms t =
    filter (λ k. anticommute (slice_index_or t.words k []) (word_of_terms t.qubits terms)) (range_with_len 0 (length t.words))

-- how many letters the words have at a qubit, where a Y is two: those with an X in them, and those with a Z
abbrev pub letters_at : ℕ → Tracked → ℕ
letters_at q t = count_by (λ word. x_bit (letter_at word q)) t.words + count_by (λ word. z_bit (letter_at word q)) t.words

-- the word of a target, from two lists of targets a qubit: its letter has an X in it where the first lists the target,
-- and a Z where the second does
abbrev pub listed_word : List (List ℕ) → ℕ → List Letter
listed_word (x ∷ z ∷ lists) t = letter_of (is_listed x t) (is_listed z t) ∷ listed_word lists t
listed_word (x ∷ []) t = []
listed_word [] t = []

-- there are two lists a qubit, of targets that have words
pub record Fit (t : Tracked) (lists : List (List ℕ)) : Type 0 where
  pub two_each : length lists ≡ 2 * t.qubits
  pub named : All (All (λ k. k < length t.words)) lists

-- the words that lists stand for, in place of those that there are
abbrev pub restored : List (List ℕ) → Tracked → Tracked
restored lists t = record { qubits = t.qubits; words = map (listed_word lists) (range_with_len 0 (length t.words)) }
