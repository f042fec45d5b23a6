-- What is kept, gone back over a step of each kind, and the line of the step.
use Rattle.std.proofs.Common.{◌≡◌, ℕ, zero, suc, ◌+◌, ◌-◌, ◌<◌, ◌≤◌, ◌==◌, Bool, true, false, List, [], ◌∷◌, ◌++◌, length, drop, get_or, set, Option, None, Some, inl, inr, refl, ap, ap₂, subst, sym, ◌∙◌, arith}
use Rattle.std.specs.Prelude.{All, IfSome, filter, option_map, slice_get, if◌then◌else◌}
use Rattle.std.specs.List.{AllPass, flat_map, range_with_len}
use Rattle.std.proofs.lemmas.Bool.{cases_eq, eq-eqb, ne_eqb}
use Rattle.std.proofs.lemmas.List.{append-nil, drop_more, get_or-drop, length-drop}
use Rattle.std.proofs.lemmas.Option.{slice_get_within, get_or_from_slice_get, slice_get-get_or}
use Rattle.gate_table.specs.declared.gate.Gate.{Gate}
use Rattle.pauli_word.specs.declared.letter.Letter.{Letter}
use Rattle.pauli_word.specs.Words.{anticommute, lone_letter, no_letters}
use Rattle.pauli_word.proofs.WordLaws.{anticommute_of_none}
use Rattle.step_model.specs.declared.step.Term.{Term}
use Rattle.step_model.specs.ErrorModels.{ErrorLine}
use Rattle.step_model.specs.Listing.{Listing, ListedStep, One, Two, Collapse, Fault, Feedback, Applies, Measured, Word, Recorded, effect_at, effect_word, word_of_terms, is_collapse}
use Rattle.step_model.specs.Sensitivities.{collapse_word, latest_place, later_or_here}
use Rattle.step_model.specs.Targets.{targets_of, target_at}
use Rattle.step_model.specs.WellFormed.{IsWellFormed, TermsFit, step_faults, step_fits, collapse_count}
use Rattle.circuit_walk.specs.Programs.{KeptProgram}
use Rattle.step_model.specs.Chances.{chance_at}
use Rattle.circuit_walk.specs.declared.step.FaultName.{FaultName}
use Rattle.circuit_walk.specs.declared.step.Step.{Step}
use Rattle.circuit_walk.specs.declared.letters.Letters.{Letters}
use Rattle.circuit_walk.specs.Letters.{letters_in}
use Rattle.circuit_walk.specs.Steps.{listed, measured, recorded}
use Rattle.circuit_walk.specs.Named.{IsNamed, IsNamedFlip, IsRecord}
use Rattle.backward.specs.declared.found.Found.{Found}
use Rattle.backward.specs.private.Collapses.{undone_collapse, members_at, noted}
use Rattle.record_targets.specs.ListingSets.{toggled_each, sensitivity_before}
use Rattle.backward.specs.private.Passes.{HoldsLists, IsCollapseAt, IsFeedbackAt, IsJudged, IsMeasured, IsPassed, IsStepAt, latest_before, listing_at, opened, records_before, tracked_before}
use Rattle.backward.specs.private.Stretches.{Gives, first_lines, flip_line, line_at, line_for, lines_at}
use Rattle.trackers.specs.Tracked.{Tracked, each_word, undone_one, undone_two, anticommuting}
use Rattle.backward.proofs.PassLines.{anticommuting-before, hit_at-collapse, hit_at-fault}
use Rattle.backward.proofs.PassPlaces.{latest_before-collapse, length-latest_before}
use Rattle.backward.proofs.PassRecords.{holds-fed, holds-over, listed_there, record_there, records_before-back, settled-at}
use Rattle.backward.proofs.PassWords.{recorded_number, words_count, tracked_before-one, tracked_before-two, tracked_before-collapse}
use Rattle.step_model.proofs.MemberLemmas.{map_agree}
use Rattle.trackers.proofs.WordLemmas.{word_of_one_term}

-- ---- a step of a walk
stepped : (steps : List ListedStep) (place : ℕ) (step : ListedStep) → Some step ≡ (if place == 0 then None else slice_get steps (place - 1)) → drop (place - 1) steps ≡ step ∷ drop (place - 1 + 1) steps
stepped steps place step e =
    elim (cases_eq place 0) as (λ _. drop (place - 1) steps ≡ step ∷ drop (place - 1 + 1) steps) [
      | inl none ↦ (let no : Some step ≡ None = e ∙ ap (λ b. if b then None else slice_get steps (place - 1)) (eq-eqb place 0 none) in cc)
      | inr some ↦
          (let at : slice_get steps (place - 1) ≡ Some step = sym (e ∙ ap (λ b. if b then None else slice_get steps (place - 1)) (ne_eqb place 0 some)) in
          drop_more steps (place - 1) step (slice_get_within steps (place - 1) step at)
          ∙ ap (λ s. s ∷ drop (place - 1 + 1) steps) (get_or_from_slice_get steps (place - 1) step step at))
    ]

pub walk_at : (walked program : KeptProgram) (place before : ℕ) (result : Option Step) (step : Step) → walked ≡ program → result ≡ Some step → before ≡ place - 1
    → option_map (listed walked.listing.qubits) result ≡ (if place == 0 then None else slice_get walked.listing.steps (place - 1))
    → IsStepAt program.listing before (listed program.listing.qubits step)
walk_at walked program place before result step same is at e =
    subst (λ k. IsStepAt program.listing k (listed program.listing.qubits step)) (sym at)
    (stepped program.listing.steps place (listed program.listing.qubits step)
    (ap (option_map (listed program.listing.qubits)) (sym is)
    ∙ subst (λ (w : KeptProgram). option_map (listed w.listing.qubits) result ≡ (if place == 0 then None else slice_get w.listing.steps (place - 1))) same e))

at_start : (steps : List ListedStep) (place : ℕ) → place ≤ length steps → None ≡ (if place == 0 then None else slice_get steps (place - 1)) → place ≡ 0
at_start steps place within e =
    elim (cases_eq place 0) as (λ _. place ≡ 0) [
      | inl none ↦ none
      | inr some ↦
          (let at : slice_get steps (place - 1) ≡ None = sym (e ∙ ap (λ b. if b then None else slice_get steps (place - 1)) (ne_eqb place 0 some)) in
          let d : ListedStep = Fault 0 in
          let there : slice_get steps (place - 1) ≡ Some (get_or steps (place - 1) d) = slice_get-get_or steps (place - 1) d (omega (arith, some, within)) in cc)
    ]

pub walk_end : (walked program : KeptProgram) (place : ℕ) (result : Option Step) → walked ≡ program → result ≡ None → place ≤ length program.listing.steps
    → option_map (listed walked.listing.qubits) result ≡ (if place == 0 then None else slice_get walked.listing.steps (place - 1)) → place ≡ 0
walk_end walked program place result same is within e =
    at_start program.listing.steps place within
    (ap (option_map (listed program.listing.qubits)) (sym is)
    ∙ subst (λ (w : KeptProgram). option_map (listed w.listing.qubits) result ≡ (if place == 0 then None else slice_get w.listing.steps (place - 1))) same e)

-- ---- what is measured
pub measured-letter : (n : ℕ) (letter : Letter) (q : ℕ) (reset : Bool) → IsMeasured n (record { qubit = q; letter = letter } ∷ []) (if reset then Some q else None) (measured n reset letter q)
measured-letter n letter q true = record { word_is = word_of_one_term n (record { qubit = q; letter = letter }); clears = λ v. refl }
measured-letter n letter q false = record { word_is = word_of_one_term n (record { qubit = q; letter = letter }); clears = λ v. refl }

pub reset_within : (n q : ℕ) (reset : Bool) (o : Option ℕ) → o ≡ (if reset then Some q else None) → q < n → IfSome o (λ k. k < n)
reset_within n q true o e h = subst (λ (o : Option ℕ). IfSome o (λ k. k < n)) (sym e) h
reset_within n q false o e h = subst (λ (o : Option ℕ). IfSome o (λ k. k < n)) (sym e) tt

one_within : (n : ℕ) (term : Term) → term.qubit < n → All (λ t. t.qubit < n) (term ∷ [])
one_within n term h zero d lt = h
one_within n term h (suc k) d lt = absurd (omega (arith, lt))

pub letter_at_place : (program : KeptProgram) (place : ℕ) (letter : Letter) (q : ℕ) (reset inverted : Bool) (rec : Option ℕ) (flip : Option FaultName) (o : Option ℕ)
    → IsStepAt program.listing place (Collapse (measured program.listing.qubits reset letter q) (recorded rec inverted flip)) → o ≡ (if reset then Some q else None) → q < program.listing.qubits → IsRecord program rec → IsNamedFlip program rec flip
    → IsCollapseAt program place (record { qubit = q; letter = letter } ∷ []) o rec flip
letter_at_place program place letter q reset inverted rec flip o at is within named_record named_flip =
    record {
      measured = measured program.listing.qubits reset letter q;
      inverted = inverted;
      step = at;
      is_measured = subst (λ (o : Option ℕ). IsMeasured program.listing.qubits (record { qubit = q; letter = letter } ∷ []) o (measured program.listing.qubits reset letter q)) (sym is) (measured-letter program.listing.qubits letter q reset);
      terms_fit = one_within program.listing.qubits (record { qubit = q; letter = letter }) within;
      reset_fits = reset_within program.listing.qubits q reset o is within;
      is_record = named_record;
      is_named = named_flip;
    }

-- a product that a step lends
pub word_at_place : (program : KeptProgram) (place : ℕ) (letters : Letters) (inverted : Bool) (rec : Option ℕ) (flip : Option FaultName)
    → IsStepAt program.listing place (Collapse (Word (word_of_terms program.listing.qubits (letters_in letters))) (recorded rec inverted flip)) → TermsFit program.listing.qubits (letters_in letters) → IsRecord program rec → IsNamedFlip program rec flip
    → IsCollapseAt program place (letters_in letters) None rec flip
word_at_place program place letters inverted rec flip at fit named_record named_flip =
    record {
      measured = Word (word_of_terms program.listing.qubits (letters_in letters));
      inverted = inverted;
      step = at;
      is_measured = record { word_is = refl; clears = λ v. refl };
      terms_fit = fit;
      reset_fits = tt;
      is_record = named_record;
      is_named = named_flip;
    }

-- the fault that flips a record has a probability of the program's
pub flip_named : (program : KeptProgram) (rec : Option ℕ) (flip : Option FaultName) → IsNamedFlip program rec flip → IfSome flip (λ name. name.chance < length program.chances)
flip_named program rec None h = tt
flip_named program None (Some name) h = absurd h
flip_named program (Some r) (Some name) h = h.named.chance

-- ---- sizes
pub words_of_size : (program : Listing) (steps : List ListedStep) (t : Tracked) → t ≡ tracked_before program steps → length t.words ≡ length (targets_of program)
words_of_size program steps t e = ap (λ (t : Tracked). length t.words) e ∙ words_count program steps

pub later_fit : (program : Listing) (place : ℕ) → AllPass (step_fits program) program.steps → AllPass (step_fits program) (drop place program.steps)
later_fit program place fits k d lt =
    ap (step_fits program) (get_or-drop place program.steps k d) ∙ fits (place + k) d (omega (arith, lt, length-drop place program.steps))

-- ---- where targets are random
pub latest_of_size : (program : Listing) (settled : Bool) (place : ℕ) (latest : List (Option ℕ)) (left : ℕ) → IsJudged program settled place latest left → settled ≡ false → length (opened (length (targets_of program)) latest) ≡ length (targets_of program)
latest_of_size program true place latest left h e = cc
latest_of_size program false place latest left h e = ap length h.0 ∙ length-latest_before program left (drop place program.steps)

collapses_left : (place : ℕ) (steps : List ListedStep) → collapse_count (drop place steps) ≤ collapse_count steps
collapses_left zero steps = omega arith
collapses_left (suc place) [] = omega arith
collapses_left (suc place) (step ∷ steps) = omega (arith, collapses_left place steps)

pub collapse_is_left : (program : Listing) (settled : Bool) (place : ℕ) (c : Measured) (r : Option Recorded) (latest : List (Option ℕ)) (left : ℕ) → IsWellFormed program → IsStepAt program place (Collapse c r) → IsJudged program settled (place + 1) latest left → settled ≡ false → 0 < left
collapse_is_left program true place c r latest left fits at h e = cc
collapse_is_left program false place c r latest left fits at h e = omega (arith, h.1, fits.collapses_counted, ap collapse_count at, collapses_left place program.steps)

other_place : (step : ListedStep) (o : Option ℕ) → is_collapse step ≡ false → o ≡ later_or_here step o false
other_place step None e = refl
other_place step (Some k) e = let same : k ≡ 0 + k = omega arith in ap Some same ∙ ap (λ b. Some ((if b then 1 else 0) + k)) (sym e)

latest_before-other : (program : Listing) (left : ℕ) (step : ListedStep) (steps : List ListedStep) → is_collapse step ≡ false → collapse_word program.qubits step ≡ no_letters program.qubits → latest_before program left steps ≡ latest_before program left (step ∷ steps)
latest_before-other program left step steps other word =
    map_agree (λ d. option_map (λ k. left + k) (latest_place program.qubits (target_at program d) steps)) (λ d. option_map (λ k. left + k) (latest_place program.qubits (target_at program d) (step ∷ steps)))
    (λ d. ap (option_map (λ k. left + k))
    (other_place step (latest_place program.qubits (target_at program d) steps) other
    ∙ ap (later_or_here step (latest_place program.qubits (target_at program d) steps))
    (sym (ap (λ w. anticommute w (sensitivity_before program steps d).word) word ∙ anticommute_of_none program.qubits (sensitivity_before program steps d).word))))
    (range_with_len 0 (length (targets_of program)))

count_other : (step : ListedStep) (steps : List ListedStep) → is_collapse step ≡ false → collapse_count (step ∷ steps) ≡ collapse_count steps
count_other step steps e = let none : (if is_collapse step then 1 else 0) ≡ 0 = ap {B = ℕ} (λ b. if b then 1 else 0) e in omega (arith, none)

judged-other : (program : Listing) (settled : Bool) (place : ℕ) (step : ListedStep) (latest : List (Option ℕ)) (left : ℕ) → IsStepAt program place step → is_collapse step ≡ false → collapse_word program.qubits step ≡ no_letters program.qubits → IsJudged program settled (place + 1) latest left → IsJudged program settled place latest left
judged-other program true place step latest left at other word h = tt
judged-other program false place step latest left at other word h = (
  h.0 ∙ (latest_before-other program left step (drop (place + 1) program.steps) other word ∙ ap (latest_before program left) (sym at)),
  omega (arith, h.1, ap collapse_count at, count_other step (drop (place + 1) program.steps) other),
)

judged-collapse : (program : Listing) (settled : Bool) (place : ℕ) (terms : List Term) (c : Measured) (r : Option Recorded) (t : Tracked) (latest new_latest : List (Option ℕ)) (left new_left : ℕ) → IsStepAt program place (Collapse c r) → word_of_terms program.qubits terms ≡ collapse_word program.qubits (Collapse c r)
    → t ≡ tracked_before program (drop (place + 1) program.steps) → (settled ≡ false → 0 < left)
    → (settled ≡ false → opened (length (targets_of program)) new_latest ≡ noted (left - 1) (anticommuting terms t) (opened (length (targets_of program)) latest)) → (settled ≡ false → new_left ≡ left - 1)
    → IsJudged program settled (place + 1) latest left → IsJudged program settled place new_latest new_left
judged-collapse program true place terms c r t latest new_latest left new_left at word words some is fewer h = tt
judged-collapse program false place terms c r t latest new_latest left new_left at word words some is fewer h =
    let steps : List ListedStep = drop (place + 1) program.steps in
    let next : left ≡ left - 1 + 1 = omega (arith, some refl) in (
      is refl
          ∙ (ap₂ (λ t known. noted (left - 1) (anticommuting terms t) known) words (h.0 ∙ ap (λ k. latest_before program k steps) next)
          ∙ (latest_before-collapse program (left - 1) terms c r steps word
          ∙ ap₂ (λ k l. latest_before program k l) (sym (fewer refl)) (sym at))),
      omega (arith, h.1, fewer refl, some refl, ap collapse_count at),
    )

-- ---- what is kept, gone back over a step
module _ {A : Type 0} (program : KeptProgram) (place : ℕ) (t : Tracked) (found : Found A) (h : IsPassed program.listing (place + 1) t found) where
  abbrev steps : List ListedStep
  steps = drop (place + 1) program.listing.steps

  here : place ≤ length program.listing.steps
  here = omega (arith, h.within)

  pub passed-one : (gate : Gate) (q : ℕ) (after : Tracked) → IsStepAt program.listing place (One gate q) → after ≡ each_word (undone_one gate q) t → IsPassed program.listing place after found
  passed-one gate q after at e =
      record {
        within = here;
        words = e ∙ (ap (each_word (undone_one gate q)) h.words ∙ (tracked_before-one program.listing gate q steps ∙ ap (tracked_before program.listing) (sym at)));
        lists = holds-over program.listing found.settled place found.known found.lists (One gate q) at (λ r. refl) h.lists;
        judged = judged-other program.listing found.settled place (One gate q) found.latest.items found.left at refl refl h.judged;
      }

  pub passed-two : (gate : Gate) (a b : ℕ) (after : Tracked) → IsStepAt program.listing place (Two gate a b) → after ≡ each_word (undone_two gate a b) t → IsPassed program.listing place after found
  passed-two gate a b after at e =
      record {
        within = here;
        words = e ∙ (ap (each_word (undone_two gate a b)) h.words ∙ (tracked_before-two program.listing gate a b steps ∙ ap (tracked_before program.listing) (sym at)));
        lists = holds-over program.listing found.settled place found.known found.lists (Two gate a b) at (λ r. refl) h.lists;
        judged = judged-other program.listing found.settled place (Two gate a b) found.latest.items found.left at refl refl h.judged;
      }

  pub passed-fault : (f : ℕ) (after : Tracked) → IsStepAt program.listing place (Fault f) → after ≡ t → IsPassed program.listing place after found
  passed-fault f after at e =
      record {
        within = here;
        words = e ∙ (h.words ∙ ap (tracked_before program.listing) (sym at));
        lists = holds-over program.listing found.settled place found.known found.lists (Fault f) at (λ r. refl) h.lists;
        judged = judged-other program.listing found.settled place (Fault f) found.latest.items found.left at refl refl h.judged;
      }

-- over feedback, where the lists are settled, and before
module _ {A : Type 0} (program : Listing) (place : ℕ) (t : Tracked) (found : Found A) (h : IsPassed program (place + 1) t found) where
  pub passed-feedback : (term : Term) (rec : ℕ) (after : Tracked) → IsFeedbackAt program place term rec → found.settled ≡ true → after ≡ t → IsPassed program place after found
  passed-feedback term rec after at settled e =
      let step : ListedStep = Feedback (lone_letter program.qubits term.qubit term.letter) rec in
      record {
        within = omega (arith, h.within);
        words = e ∙ (h.words ∙ ap (tracked_before program) (sym at.step));
        lists = subst (λ b. HoldsLists program b place found.known found.lists) (sym settled)
            (settled-at program (place + 1) place found.known found.lists (omega (arith, h.lists.enough, records_before-back program place step at.step)) (subst (λ b. HoldsLists program b (place + 1) found.known found.lists) settled h.lists));
        judged = judged-other program found.settled place step found.latest.items found.left at.step refl refl h.judged;
      }

  pub passed-fed : (term : Term) (rec : ℕ) (after : Tracked) (sets : List (List Bool)) (hit : List ℕ) → IsFeedbackAt program place term rec → found.settled ≡ false → after ≡ t
      → hit ≡ anticommuting (term ∷ []) t → sets ≡ set found.lists rec (toggled_each hit (get_or found.lists rec []))
      → (place ≤ length program.steps) × (after ≡ tracked_before program (drop place program.steps)) × HoldsLists program found.settled place found.known sets × IsJudged program found.settled place found.latest.items found.left
  passed-fed term rec after sets hit at settled e is fed =
      let w : List Letter = lone_letter program.qubits term.qubit term.letter in
      let step : ListedStep = Feedback w rec in
      let steps : List ListedStep = drop (place + 1) program.steps in
      let listed_hit : hit ≡ filter (λ d. anticommute (sensitivity_before program steps d).word w) (range_with_len 0 (length (targets_of program))) =
      is ∙ (ap (anticommuting (term ∷ [])) h.words
      ∙ (anticommuting-before program (term ∷ []) steps ∙ ap (λ v. filter (λ d. anticommute (sensitivity_before program steps d).word v) (range_with_len 0 (length (targets_of program)))) (word_of_one_term program.qubits term))) in (
        omega (arith, h.within),
        e ∙ (h.words ∙ ap (tracked_before program) (sym at.step)),
        subst (λ b. HoldsLists program b place found.known sets) (sym settled)
            (holds-fed program place found.known found.lists sets w rec at.step at.is_record
            (fed ∙ ap (λ hit. set found.lists rec (toggled_each hit (get_or found.lists rec []))) listed_hit)
            (subst (λ b. HoldsLists program b (place + 1) found.known found.lists) settled h.lists)),
        judged-other program found.settled place step found.latest.items found.left at.step refl refl h.judged,
      )

-- ---- what is held by equal parts
pub holds_same : (program : Listing) (settled new_settled : Bool) (place known new_known : ℕ) (sets new_sets : List (List Bool)) → new_settled ≡ settled → new_known ≡ known → new_sets ≡ sets → HoldsLists program settled place known sets → HoldsLists program new_settled place new_known new_sets
holds_same program settled new_settled place known new_known sets new_sets s k l h =
    subst (λ b. HoldsLists program b place new_known new_sets) (sym s) (subst (λ n. HoldsLists program settled place n new_sets) (sym k) (subst (HoldsLists program settled place known) (sym l) h))

-- ---- lines
pub gives_none : (holds : List ErrorLine → Type 0) (more : List ErrorLine) → more ≡ [] → Gives holds holds more
gives_none holds more e lines h = subst holds (sym (ap (λ (l : List ErrorLine). lines ++ l) e ∙ append-nil lines)) h

pub no_line : (program : Listing) (place : ℕ) (step : ListedStep) → IsStepAt program place step → step_faults step ≡ [] → lines_at program place ≡ []
no_line program place step at none =
    ap (first_lines program) at ∙ ap (flat_map (line_at program step (drop (place + 1) program.steps))) none

pub fault_line : (program : KeptProgram) (place : ℕ) (name : FaultName) (terms : List Term) (t : Tracked) → IsStepAt program.listing place (Fault name.number) → IsNamed program name → effect_at program.listing name.number ≡ Applies terms → t ≡ tracked_before program.listing (drop (place + 1) program.listing.steps)
    → line_for (chance_at program.chances name.chance).text (anticommuting terms t) ≡ lines_at program.listing place
fault_line program place name terms t at named effect words =
    let steps : List ListedStep = drop (place + 1) program.listing.steps in
    ap₂ (λ text hit. line_for text hit) (sym named.text)
    (ap (anticommuting terms) words ∙ hit_at-fault program.listing name.number terms steps (sym (ap (effect_word program.listing.qubits) effect)))
    ∙ (sym (append-nil (line_at program.listing (Fault name.number) steps name.number)) ∙ ap (first_lines program.listing) (sym at))

no_targets : (program : KeptProgram) (flip : Option FaultName) → flip_line program flip [] ≡ []
no_targets program None = refl
no_targets program (Some name) = refl

flip_line_is : (program : KeptProgram) (c : Measured) (rec : Option ℕ) (inverted : Bool) (flip : Option FaultName) (steps : List ListedStep) → IsNamedFlip program rec flip
    → flip_line program flip (listing_at program.listing steps rec) ≡ first_lines program.listing (Collapse c (recorded rec inverted flip) ∷ steps)
flip_line_is program c None inverted flip steps named = no_targets program flip
flip_line_is program c (Some r) inverted None steps named = refl
flip_line_is program c (Some r) inverted (Some name) steps named =
    let record_is : Recorded = record { number = r; inverted = inverted; flip = Some name.number } in
    ap₂ (λ text hit. line_for text hit) (sym named.named.text) (hit_at-collapse program.listing c record_is steps name.number refl)
    ∙ sym (append-nil (line_at program.listing (Collapse c (Some record_is)) steps name.number))

-- ---- a collapse
number_is : (rec : Option ℕ) (inverted : Bool) (flip : Option FaultName) → recorded_number (recorded rec inverted flip) ≡ rec
number_is None inverted flip = refl
number_is (Some r) inverted flip = refl

recorded_is : (rec : Option ℕ) (inverted : Bool) (flip : Option FaultName) → IfSome rec (λ n. (r : Recorded) × (recorded rec inverted flip ≡ Some r) × (r.number ≡ n))
recorded_is None inverted flip = tt
recorded_is (Some n) inverted flip = (_, refl, refl)

module _ {A : Type 0} (program : KeptProgram) (place : ℕ) (terms : List Term) (reset rec : Option ℕ) (flip : Option FaultName) (t : Tracked) (found : Found A) (fits : IsWellFormed program.listing) (at : IsCollapseAt program place terms reset rec flip) (h : IsPassed program.listing (place + 1) t found) where
  abbrev pub later : List ListedStep
  later = drop (place + 1) program.listing.steps

  -- the targets that list its record are those that its lists say
  pub listed_targets : members_at found.lists rec ≡ listing_at program.listing later rec
  listed_targets = listed_there program.listing found.settled place found.known found.lists at.measured rec (recorded rec at.inverted flip) fits at.step (recorded_is rec at.inverted flip) h.lists

  pub collapse_words : (hit : List ℕ) (after : Tracked) → hit ≡ members_at found.lists rec → after ≡ undone_collapse hit terms reset t → after ≡ tracked_before program.listing (drop place program.listing.steps)
  collapse_words hit after is e =
      e ∙ (ap₂ (λ hit t. undone_collapse hit terms reset t) (is ∙ listed_targets) h.words
      ∙ (tracked_before-collapse program.listing at.measured (recorded rec at.inverted flip) later terms reset rec at.is_measured (number_is rec at.inverted flip) (later_fit program.listing (place + 1) fits.steps_fit)
      ∙ ap (tracked_before program.listing) (sym at.step)))

  pub collapse_lists : HoldsLists program.listing found.settled place found.known found.lists
  collapse_lists = holds-over program.listing found.settled place found.known found.lists (Collapse at.measured (recorded rec at.inverted flip)) at.step (λ r. refl) h.lists

  pub collapse_judged : (new_latest : List (Option ℕ)) (new_left : ℕ) → (found.settled ≡ false → opened (length (targets_of program.listing)) new_latest ≡ noted (found.left - 1) (anticommuting terms t) (opened (length (targets_of program.listing)) found.latest.items))
      → (found.settled ≡ false → new_left ≡ found.left - 1) → IsJudged program.listing found.settled place new_latest new_left
  collapse_judged new_latest new_left is fewer =
      judged-collapse program.listing found.settled place terms at.measured (recorded rec at.inverted flip) t found.latest.items new_latest found.left new_left at.step at.is_measured.word_is h.words
      (collapse_is_left program.listing found.settled place at.measured (recorded rec at.inverted flip) found.latest.items found.left fits at.step h.judged) is fewer h.judged

  pub collapse_line : (hit : List ℕ) → hit ≡ members_at found.lists rec → flip_line program flip hit ≡ lines_at program.listing place
  collapse_line hit is =
      ap (flip_line program flip) (is ∙ listed_targets)
      ∙ (flip_line_is program at.measured rec at.inverted flip later at.is_named ∙ ap (first_lines program.listing) (sym at.step))

  -- the lists of the records before it are enough from here on
  pub collapse_keeps : (known : ℕ) → known ≡ found.known → IfSome rec (λ r. (records_before program.listing place ≤ r) × (r ≤ known))
  collapse_keeps known is = by_record rec (recorded rec at.inverted flip) at.step (recorded_is rec at.inverted flip)
    where
      by_record : (rec : Option ℕ) (r : Option Recorded) → IsStepAt program.listing place (Collapse at.measured r) → IfSome rec (λ n. (recorded : Recorded) × (r ≡ Some recorded) × (recorded.number ≡ n)) → IfSome rec (λ r. (records_before program.listing place ≤ r) × (r ≤ known))
      by_record None r there is_record = tt
      by_record (Some n) r there (recorded, whole, number) =
          let step : IsStepAt program.listing place (Collapse at.measured (Some recorded)) = subst (λ o. IsStepAt program.listing place (Collapse at.measured o)) whole there in
          let first : n ≡ records_before program.listing place = sym number ∙ record_there program.listing place at.measured recorded fits step in
          (omega (arith, first), omega (arith, first, is, h.lists.enough, records_before-back program.listing place (Collapse at.measured (Some recorded)) step))
