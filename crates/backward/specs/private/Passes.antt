-- Going back over the steps of a program: the words that a tracker keeps, the targets that list each record, and where
-- targets are random. A collapse is the projective measurement inside a measurement or a reset. (Gottesman,
-- arXiv:quant-ph/9807006: words carried through a circuit.)
use Rattle.std.specs.Prelude.{⊤, ◌≡◌, ℕ, ◌+◌, ◌<◌, ◌≤◌, ◌^◌, Bool, true, false, List, [], ◌∷◌, map, length, take, drop, replicate, All, IfSome, Option, None, Some, option_map, if◌then◌else◌, slice_index_or}
use Rattle.std.specs.List.{range_with_len}
use Rattle.pauli_word.specs.declared.letter.Letter.{Letter}
use Rattle.pauli_word.specs.Words.{lone_letter}
use Rattle.step_model.specs.declared.step.Term.{Term}
use Rattle.step_model.specs.Listing.{Listing, ListedStep, Collapse, Feedback, Measured, word_of_terms, measured_word}
use Rattle.step_model.specs.Sensitivities.{cleared, latest_place, lowest_X_or_Y}
use Rattle.step_model.specs.Targets.{targets_of, target_at}
use Rattle.step_model.specs.WellFormed.{collapse_count, records_made}
use Rattle.circuit_walk.specs.Programs.{KeptProgram}
use Rattle.circuit_walk.specs.Steps.{recorded}
use Rattle.circuit_walk.specs.Named.{IsNamedFlip, IsRecord}
use Rattle.circuit_walk.specs.declared.step.FaultName.{FaultName}
use Rattle.backward.specs.declared.found.Found.{Found}
use Rattle.trackers.specs.Tracked.{Tracked, with_I_at}
use Rattle.step_model.specs.TargetSets.{members}
use Rattle.record_targets.specs.ListingSets.{listing_set, sensitivity_before}

-- what is tracked before these steps
abbrev pub tracked_before : Listing → List ListedStep → Tracked
tracked_before program steps =
    record {
      qubits = program.qubits;
      words = map (λ d. (sensitivity_before program steps d).word) (range_with_len 0 (length (targets_of program)));
    }

-- the targets that list a record, none where there is no record
abbrev pub listing_at : Listing → List ListedStep → Option ℕ → List ℕ
listing_at program steps None = []
listing_at program steps (Some r) = members (listing_set program steps r)

-- for each target the latest collapse among these steps that its word anticommutes with; `before` collapses come before
-- them
abbrev pub latest_before : Listing → ℕ → List ListedStep → List (Option ℕ)
latest_before program before steps =
    map (λ d. option_map (λ k. before + k) (latest_place program.qubits (target_at program d) steps))
    (range_with_len 0 (length (targets_of program)))

-- for each target the lowest qubit below q at which its word at the start has X or Y
abbrev pub lowest_below : Listing → ℕ → List (Option ℕ)
lowest_below program q =
    map (λ d. lowest_X_or_Y (take q (sensitivity_before program program.steps d).word)) (range_with_len 0 (length (targets_of program)))

-- a list with something noted for some of n, which takes no memory where it is so for none
abbrev pub opened : ℕ → List (Option ℕ) → List (Option ℕ)
opened n [] = replicate n None
opened n (o ∷ list) = o ∷ list

-- how many records are made before a place
abbrev pub records_before : Listing → ℕ → ℕ
records_before program place = length (records_made (take place program.steps))

-- a step stands right after a place
abbrev pub IsStepAt : Listing → ℕ → ListedStep → Type 0
IsStepAt program place step = drop place program.steps ≡ step ∷ drop (place + 1) program.steps

-- a word with I at the qubit that is reset, where one is
abbrev pub reset_word : Option ℕ → List Letter → List Letter
reset_word None w = w
reset_word (Some q) w = with_I_at q w

-- letters at qubits, and a qubit that is reset, are what a collapse measures
pub record IsMeasured (n : ℕ) (terms : List Term) (reset : Option ℕ) (measured : Measured) : Type 0 where
  pub word_is : word_of_terms n terms ≡ measured_word n measured
  pub clears : (v : List Letter) → cleared measured v ≡ reset_word reset v

-- such a collapse, with its record and the fault that flips it, where it has them, is right after a place
pub record IsCollapseAt (program : KeptProgram) (place : ℕ) (terms : List Term) (reset rec : Option ℕ) (flip : Option FaultName) : Type 0 where
  pub measured : Measured
  pub inverted : Bool
  pub step : IsStepAt program.listing place (Collapse measured (recorded rec inverted flip))
  pub is_measured : IsMeasured program.listing.qubits terms reset measured
  pub terms_fit : All (λ term. term.qubit < program.listing.qubits) terms
  pub reset_fits : IfSome reset (λ q. q < program.listing.qubits)
  pub is_record : IsRecord program rec
  pub is_named : IsNamedFlip program rec flip

-- words and sets are of all targets of a program, and what a collapse names is there
pub record FitsCollapse (program : KeptProgram) (tracked : Tracked) (sets : List (List Bool)) (terms : List Term) (reset rec : Option ℕ) (flip : Option FaultName) : Type 0 where
  pub words : length tracked.words ≡ length (targets_of program.listing)
  pub long : All (λ set. length set ≡ length (targets_of program.listing)) sets
  pub few : length (targets_of program.listing) ≤ 2 ^ 32
  pub is_record : IfSome rec (λ r. r < length sets)
  pub is_named : IsNamedFlip program rec flip
  pub terms_fit : All (λ term. term.qubit < tracked.qubits) terms
  pub reset_fits : IfSome reset (λ q. q < tracked.qubits)

-- a letter that is applied where a record is 1 is right after a place
pub record IsFeedbackAt (program : Listing) (place : ℕ) (term : Term) (rec : ℕ) : Type 0 where
  pub step : IsStepAt program place (Feedback (lone_letter program.qubits term.qubit term.letter) rec)
  pub term_fits : term.qubit < program.qubits
  pub is_record : rec < program.records

-- the sets of the first records are those of the targets that list them at a place; where they are settled, at the
-- start, which is the same for each record that the steps before the place don't feed forward
pub record HoldsLists (program : Listing) (settled : Bool) (place known : ℕ) (sets : List (List Bool)) : Type 0 where
  pub size : length sets ≡ program.records
  pub long : All (λ set. length set ≡ length (targets_of program)) sets
  pub rows : (r : ℕ) → r < known → slice_index_or sets r [] ≡ listing_set program (drop (if settled then 0 else place) program.steps) r
  pub enough : records_before program place ≤ known
  pub few : known ≤ program.records

-- until the lists are settled, the latest places are noted
abbrev pub IsJudged : Listing → Bool → ℕ → List (Option ℕ) → ℕ → Type 0
IsJudged program true place latest left = ⊤
IsJudged program false place latest left =
    (opened (length (targets_of program)) latest ≡ latest_before program left (drop place program.steps))
    × (left + collapse_count (drop place program.steps) ≡ program.collapses)

-- what is kept of going back to a place
pub record IsPassed {A : Type 0} (program : Listing) (place : ℕ) (tracked : Tracked) (found : Found A) : Type 0 where
  pub within : place ≤ length program.steps
  pub words : tracked ≡ tracked_before program (drop place program.steps)
  pub lists : HoldsLists program found.settled place found.known found.lists
  pub judged : IsJudged program found.settled place found.latest.items found.left

-- whether lists are settled stays, and whether lists are kept; and which they are, where they are kept
pub record Stays {A : Type 0} (old new : Found A) : Type 0 where
  pub settled : new.settled ≡ old.settled
  pub keeps : new.keeps ≡ old.keeps
  pub known : old.keeps ≡ true → new.known ≡ old.known
