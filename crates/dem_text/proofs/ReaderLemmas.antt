-- The model of a text: its counts from its lines as they were read, and its lines as they are kept.
use Rattle.std.proofs.Common.{◌≡◌, ℕ, ◌<◌, ◌≤◌, ◌^◌, false, List, [], length, Result, Ok, Err, inr, ap, subst, sym, ◌∙◌, append-nil, arith, length-append}
use Rattle.std.specs.Prelude.{IfOk, IfErr, ◌⊎◌}
use Rattle.std.proofs.lemmas.Bool.Decides.{nat_tests}
use Rattle.cursor.proofs.Nested.{are_nested}
use Rattle.step_model.specs.declared.fault.Fault.{Fault}
use Rattle.step_model.specs.ErrorModels.{ErrorModel}
use Rattle.step_model.specs.Faults.{memory_fault}
use Rattle.stim_lexer.specs.Lines.{lines_of}
use Rattle.stim_lexer.specs.Reached.{reached}
use Rattle.stim_lexer.specs.Texts.{items_from}
use Rattle.stim_lexer.specs.Trees.{Nothing, items_of}
use Rattle.stim_lexer.specs.Unfinished.{Unfinished}
use Rattle.stim_lexer.proofs.TextLemmas.{after-ok}
use Rattle.dem_text.specs.declared.front.End.{End}
use Rattle.dem_text.specs.declared.front.Front.{Front}
use Rattle.dem_text.specs.declared.standing.LineCounts.{LineCounts}
use Rattle.dem_text.specs.Fitting.{Fits}
use Rattle.dem_text.specs.Meanings.{meaning_of}
use Rattle.dem_text.specs.Models.{first_beyond, model_in, placed_lines}
use Rattle.dem_text.specs.Reached.{block_lines, has_many_lines, most_lines}
use Rattle.dem_text.specs.Texts.{Item, items_in}
use Rattle.dem_text.specs.Trees.{Tree}
use Rattle.dem_text.specs.Verdicts.{Instruction}
use Rattle.dem_text.specs.private.Counted.{AreCounts}
use Rattle.dem_text.specs.private.Ended.{HasCounts, IsAtEnd, IsKeptModel, IsVerdict}
use Rattle.dem_text.specs.private.Flat.{tree_of, tree_of-items}
use Rattle.dem_text.specs.private.Making.{HasKept, HasRead, HasTaken, IsMaking}
use Rattle.dem_text.proofs.UnrolledLemmas.{few-reached}
use Rattle.dem_text.proofs.MakingLemmas.{making-none}
use Rattle.dem_text.proofs.ReadLemmas.{read-model, whole-model}
use Rattle.dem_text.proofs.TreeLemmas.{items_are_written}

-- ---- lines that were read up to an end

pub at-end : {A : Type 0} (named : List ℕ) (places : ℕ) (text rest : List ℕ) (ended : End) (old new : Front A) → HasRead named places [] Nothing old
    → HasTaken text rest ended old new → (tree : Tree) × IsAtEnd named places text tree ended new
at-end named places text rest ended old new begun taken =
    let read = taken.passed.read named places [] Nothing begun in
    (read.0, record { lines = taken.passed.lines; rest = rest; lines_are = taken.passed.behind.lines_are; read = read.1; ends = taken.ends })

pub counts-found : {A : Type 0} (text : List ℕ) (tree : Tree) (ended : End) (front : Front A) (found : Result LineCounts Fault) → IsAtEnd [] 0 text tree ended front
    → IsVerdict front ended found → IfOk found (λ counts. HasCounts text counts)
counts-found text tree ended front (Ok counts) at verdict = record { tree = tree; is = verdict [] 0 text tree at }
counts-found text tree ended front (Err fault) at verdict = tt

pub refusal-found : {A : Type 0} (text : List ℕ) (tree : Tree) (ended : End) (front : Front A) (found : Result LineCounts Fault) → IsAtEnd [] 0 text tree ended front
    → IsVerdict front ended found → IfErr found (λ fault. (fault ≡ memory_fault) ⊎ (model_in text ≡ Err fault))
refusal-found text tree ended front (Ok counts) at verdict = tt
refusal-found text tree ended front (Err fault) at verdict = inr (verdict [] 0 text tree at)

-- ---- lines that are kept

pub nothing-made : (u : Unfinished Instruction) → u ≡ record { items = []; opened = [] } → IsMaking 0 [] u
nothing-made u e = subst (λ (v : Unfinished Instruction). IsMaking 0 [] v) (sym e) (making-none 0)

pub kept-text : (text : List ℕ) (items : List Item) (rest : List ℕ) (read : ℕ) → HasKept 0 [] text 0 items rest read → rest ≡ [] → items_in text ≡ Ok items
unfolding lines_of items_from
kept-text text items rest read kept none =
    rw (kept.behind.lines_are, kept.making.makes (lines_of rest), none) (after-ok items [] ∙ ap (λ is. Ok is) (append-nil items))

pub kept-few : (text : List ℕ) (items : List Item) (rest : List ℕ) (read : ℕ) → HasKept 0 [] text 0 items rest read → length items ≤ length text
kept-few text items rest read kept =
    let long = ap length kept.behind.text_is in
    let both = length-append kept.behind.front rest in
    omega (arith, kept.making.few, kept.behind.few, long, both)

-- ---- both together

module _ (text : List ℕ) (items : List Item) (counts : LineCounts) (e : items_in text ≡ Ok items) (has : HasCounts text counts) where
  items_are : items ≡ items_of has.tree
  items_are = let same : Ok items ≡ Ok (items_of has.tree) = sym e ∙ has.is.writes in cc

  tree_is : tree_of items ≡ has.tree
  tree_is = ap (λ is. tree_of is) items_are ∙ tree_of-items has.tree

  pub kept-model : length items < 2 ^ 63 → IsKeptModel items counts
  kept-model few =
      let long = few-reached has.tree in
      let lines = ap (λ t. length (reached t)) tree_is in
      let all = ap length items_are in
      record {
        nested = are_nested Fits items (items_are_written text items e);
        within = ap (λ t. first_beyond (placed_lines t)) tree_is ∙ has.is.within;
        counts_are = subst (λ (t : Tree). AreCounts (placed_lines t) counts.detectors counts.observables counts.errors) (sym tree_is) has.is.counts_are;
        few = omega (arith, long, lines, all, has.is.short, few);
      }

  pub model-kept : (model : ErrorModel) → model ≡ meaning_of (placed_lines (tree_of items)) → model_in text ≡ Ok model
  model-kept model is =
      read-model text has.tree model has.is.writes
      (whole-model has.tree model not-many has.is.within (is ∙ ap (λ t. meaning_of (placed_lines t)) tree_is))
    where
      not-many : has_many_lines has.tree ≡ false
      not-many = let short : block_lines has.tree ≤ most_lines = has.is.short in grind (arith, nat_tests)
