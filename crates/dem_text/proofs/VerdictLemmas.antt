-- The end of a text whose lines were read: its refusal, or what its model counts.
use Rattle.std.proofs.Common.{◌≡◌, ℕ, ◌+◌, ◌<◌, ◌≤◌, ◌^◌, max, Bool, true, false, if◌then◌else◌, List, [], ◌∷◌, length, None, Some, Result, Ok, Err, refl, ap, subst, sym, ◌∙◌, append-nil, ◌⊎◌, inl, inr, arith}
use Rattle.std.proofs.lemmas.Bool.{cases_Bool}
use Rattle.std.proofs.lemmas.Bool.Decides.{nat_tests}
use Rattle.step_model.specs.declared.fault.Fault.{Fault}
use Rattle.step_model.specs.declared.fault.Cause.TheVariants.{DemNumber, DemSteps}
use Rattle.step_model.specs.Faults.{without_line}
use Rattle.stim_lexer.specs.Lines.{lines_of}
use Rattle.stim_lexer.specs.Reached.{greatest_by, reached}
use Rattle.stim_lexer.specs.Texts.{items_from, refused}
use Rattle.stim_lexer.specs.Trees.{items_of}
use Rattle.stim_lexer.proofs.TextLemmas.{after, after-err, after-ok}
use Rattle.dem_text.specs.declared.front.End.{End}
use Rattle.dem_text.specs.declared.front.End.TheVariants as «end»
use Rattle.dem_text.specs.declared.front.Front.{Front}
use Rattle.dem_text.specs.declared.standing.Standing.{Standing}
use Rattle.dem_text.specs.Judged.{Writes}
use Rattle.dem_text.specs.Meanings.{detector_count, detectors_to, is_error, observable_count, observables_to}
use Rattle.dem_text.specs.Models.{first_beyond, is_beyond, model_in, placed_lines}
use Rattle.dem_text.specs.Reached.{block_lines, has_many_lines, most_lines}
use Rattle.dem_text.specs.Shifts.{Placed, Shift, placed_at, placed_from, shift_after}
use Rattle.dem_text.specs.Texts.{Item, items_in, models}
use Rattle.dem_text.specs.Trees.{Tree}
use Rattle.dem_text.specs.Verdicts.{Instruction}
use Rattle.dem_text.specs.private.Counted.{error_count}
use Rattle.dem_text.specs.private.Ended.{IsAtEnd, IsModelRead}
use Rattle.dem_text.specs.private.Folds.{Folded, counts_past, fold_after, fold_over, fold_start, past, stand_after}
use Rattle.dem_text.proofs.ReadLemmas.{refused-text, written-model}

-- ---- what the fold leaves of lines

-- behind lines that are reached, before which so many were counted
record HasStood (lines : List Placed) (detectors observables errors : ℕ) (s : Standing) : Type 0 where
  pub beyond_is : s.beyond ≡ first_beyond lines
  pub counts_are : first_beyond lines ≡ None
      → (s.counts.detectors ≡ max detectors (detector_count lines)) × ((s.counts.observables ≡ max observables (observable_count lines)) × (s.counts.errors ≡ errors + error_count lines))

not-some : {X : Type 0} (x : X) → Some x ≡ None → ⊥
not-some x e = cc

stays : (named : List ℕ) (is : List Instruction) (f : Folded) (line : ℕ) → f.standing.beyond ≡ Some line → (fold_over named f is).standing.beyond ≡ Some line
stays named [] f line h = h
stays named (i ∷ is) f line h =
    let same : stand_after i f.standing ≡ f.standing = rw h refl in
    stays named is (fold_after named f i) line (ap (λ (s : Standing). s.beyond) same ∙ h)

fold-stood : (named : List ℕ) (is : List Instruction) (f : Folded) (shift : Shift) (d o e : ℕ) → f.standing.beyond ≡ None → f.standing.shift ≡ shift → f.standing.counts.detectors ≡ d → f.standing.counts.observables ≡ o → f.standing.counts.errors ≡ e
    → HasStood (placed_from shift is) d o e (fold_over named f is).standing
unfolding placed_from
fold-stood named [] f shift d o e none same ds os es =
    record { beyond_is = none; counts_are = λ _. (omega (arith, ds), (omega (arith, os), omega (arith, es))) }
fold-stood named (i ∷ is) f shift d o e none same ds os es =
    by_line (is_beyond (placed_at shift i)) refl (λ d' o' e'. fold-stood named is (fold_after named f i) (shift_after i shift) d' o' e')
  where
    after_is : stand_after i f.standing ≡ past (placed_at f.standing.shift i) (shift_after i f.standing.shift) f.standing
    after_is = rw none refl

    by_line : (b : Bool) → is_beyond (placed_at shift i) ≡ b
        → ((d' o' e' : ℕ) → (fold_after named f i).standing.beyond ≡ None → (fold_after named f i).standing.shift ≡ shift_after i shift → (fold_after named f i).standing.counts.detectors ≡ d' → (fold_after named f i).standing.counts.observables ≡ o' → (fold_after named f i).standing.counts.errors ≡ e'
        → HasStood (placed_from (shift_after i shift) is) d' o' e' (fold_over named (fold_after named f i) is).standing)
        → HasStood (placed_at shift i ∷ placed_from (shift_after i shift) is) d o e (fold_over named (fold_after named f i) is).standing
    by_line true h others =
        let first : first_beyond (placed_at shift i ∷ placed_from (shift_after i shift) is) ≡ Some i.line = rw h refl in
        let near : is_beyond (placed_at f.standing.shift i) ≡ true = rw same h in
        let there : (stand_after i f.standing).beyond ≡ Some i.line = ap (λ (s : Standing). s.beyond) after_is ∙ rw near refl in
        record {
          beyond_is = stays named is (fold_after named f i) i.line there ∙ sym first;
          counts_are = λ none. absurd (not-some i.line (sym first ∙ none));
        }
    by_line false h others =
        let first : first_beyond (placed_at shift i ∷ placed_from (shift_after i shift) is) ≡ first_beyond (placed_from (shift_after i shift) is) = rw h refl in
        let near : is_beyond (placed_at f.standing.shift i) ≡ false = rw same h in
        let all : stand_after i f.standing ≡ (record { shift = shift_after i f.standing.shift; counts = counts_past (placed_at f.standing.shift i) f.standing.counts; passed = f.standing.passed + 1; beyond = None }) =
        after_is ∙ rw near refl
        in
        let rest =
        others (max d (greatest_by detectors_to (placed_at shift i).targets)) (max o (greatest_by observables_to (placed_at shift i).targets)) (if is_error i.operation then e + 1 else e)
        (ap (λ (s : Standing). s.beyond) all)
        (ap (λ (s : Standing). s.shift) all ∙ ap (shift_after i) same)
        (ap (λ (s : Standing). s.counts.detectors) all ∙ rw (same, ds) refl)
        (ap (λ (s : Standing). s.counts.observables) all ∙ rw (same, os) refl)
        (ap (λ (s : Standing). s.counts.errors) all ∙ rw es refl)
        in
        record {
          beyond_is = rest.beyond_is ∙ sym first;
          counts_are = λ none.
              let counts = rest.counts_are (sym first ∙ none) in
              (omega (arith, counts.0), (omega (arith, counts.1.0), counts.1.1 ∙ errors));
        }
      where
        errors : (if is_error i.operation then e + 1 else e) + error_count (placed_from (shift_after i shift) is) ≡ e + error_count (placed_at shift i ∷ placed_from (shift_after i shift) is)
        errors =
            elim (cases_Bool (is_error i.operation)) [
              | inl y ↦ rw y (omega arith)
              | inr n ↦ rw n (omega arith)
            ]

-- ---- a text whose lines were read

module _ {A : Type 0} (front : Front A) (named : List ℕ) (places : ℕ) (text : List ℕ) (tree : Tree) (ended : End) (at : IsAtEnd named places text tree ended front) where
  reads : (r : Result (List Item) Fault) → items_from models [] front.read (lines_of at.rest) ≡ r → items_in text ≡ after (items_of tree) r
  reads r e =
      let read = at.read.read_is in
      let here : 0 + length at.lines ≡ front.read = omega (arith, read) in
      ap (λ ls. items_from models [] 0 ls) at.lines_are
      ∙ at.read.making.makes (lines_of at.rest)
      ∙ ap (λ n. after (items_of tree) (items_from models [] n (lines_of at.rest))) here
      ∙ ap (after (items_of tree)) e

  refuses : (fault : Fault) → items_from models [] front.read (lines_of at.rest) ≡ Err fault → model_in text ≡ Err fault
  refuses fault e = refused-text text fault (reads (Err fault) e ∙ after-err (items_of tree) fault)

  pub line-refused : (fault : Fault) → (ended ≡ «end».Open fault) ⊎ (ended ≡ «end».Refused fault) → model_in text ≡ Err fault
  line-refused fault (inl e) = refuses fault (rw e at at.ends)
  line-refused fault (inr e) =
      let ends = rw e at at.ends in
      refuses fault (ap (λ ls. items_from models [] front.read ls) (sym (append-nil (lines_of at.rest))) ∙ ends [])

  module _ (whole : ended ≡ «end».Text) where
    writes : Writes text tree
    unfolding lines_of items_from
    writes =
        let none : at.rest ≡ [] = rw whole at at.ends in
        reads (Ok []) (rw none refl) ∙ after-ok (items_of tree) [] ∙ ap (λ is. Ok is) (append-nil (items_of tree))

    pub many-refused : most_lines < front.unrolled → model_in text ≡ Err (without_line DemSteps)
    many-refused many =
        let unrolled = at.read.unrolled_is in
        let lines : most_lines < block_lines tree = omega (arith, unrolled, many) in
        let is_many : has_many_lines tree ≡ true = grind (arith, nat_tests) in
        written-model text tree writes ∙ rw is_many refl

    module _ (few : front.unrolled ≤ most_lines) where
      short : block_lines tree ≤ most_lines
      short = let unrolled = at.read.unrolled_is in omega (arith, unrolled, few)

      not_many : has_many_lines tree ≡ false
      not_many = grind (arith, nat_tests)

      stood : HasStood (placed_lines tree) 0 0 0 front.fold.standing
      stood =
          subst (λ (s : Standing). HasStood (placed_lines tree) 0 0 0 s) (sym (at.read.follows short).standing_is)
          (fold-stood named (reached tree) (fold_start places) _ 0 0 0 refl refl refl refl refl)

      pub number-refused : (line : ℕ) → front.fold.standing.beyond ≡ Some line → model_in text ≡ Err (refused DemNumber line)
      number-refused line e =
          let beyond : first_beyond (placed_lines tree) ≡ Some line = sym stood.beyond_is ∙ e in
          written-model text tree writes ∙ rw (not_many, beyond) refl

      pub model-read : front.fold.standing.beyond ≡ None → front.fold.standing.counts.errors < 2 ^ 64 → IsModelRead text tree front.fold.standing.counts
      model-read e fits =
          let within : first_beyond (placed_lines tree) ≡ None = sym stood.beyond_is ∙ e in
          let counts = stood.counts_are within in
          record {
            writes = writes;
            short = short;
            within = within;
            counts_are = record { detectors_are = omega (arith, counts.0); observables_are = omega (arith, counts.1.0); errors_are = omega (arith, counts.1.1) };
            few = fits;
          }
