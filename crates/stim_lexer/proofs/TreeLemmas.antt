-- The items of an accepted text are those of one tree, whose instructions fit. Items that follow so many open blocks are cut at
-- the ends of these: what stands before each end, and behind the last, is a tree's.
use Rattle.std.proofs.Common.{◌≡◌, ℕ, zero, suc, ◌+◌, ◌≤◌, Bool, true, false, List, [], ◌∷◌, ◌++◌, length, Result, Ok, Err, refl, ap, sym, subst, ◌∙◌, append_assoc, append-nil, ◌⊎◌, inl, inr, arith}
use Rattle.std.specs.Prelude.{IfOk, is_err, if◌then◌else◌}
use Rattle.std.proofs.lemmas.Bool.{cases_Bool, false≢true}
use Rattle.step_model.specs.declared.fault.Fault.{Fault}
use Rattle.stim_lexer.specs.Cut.{cut_of, has_bad_byte}
use Rattle.stim_lexer.specs.Lines.{lines_of, says_nothing}
use Rattle.stim_lexer.specs.Fitting.{IsBuilt, IsTurns, AllFit, LinesFit, ReadingFits, TurnsWithin, depth, IsWritten}
use Rattle.stim_lexer.specs.Flat.{tree_of}
use Rattle.stim_lexer.specs.Stored.{tree_of-items}
use Rattle.stim_lexer.specs.Texts.{Format, Reading, Accepts, Opens, Closes, Refuses, items_in, items_from, followed, line_reading, open_after}
use Rattle.stim_lexer.specs.Judged.{Writes, IsRefusedBy}
use Rattle.stim_lexer.specs.JudgedOnce.{AreJudgedOnce}
use Rattle.stim_lexer.specs.Trees.{Item, InstructionLine, BlockStart, BlockEnd, Tree, Nothing, Then, Block, items_of}

-- ---- one tree

pub same_tree : {I : Type 0} (t u : Tree I) → items_of t ≡ items_of u → t ≡ u
same_tree {I} t u e = sym (tree_of-items t) ∙ ap (λ (is : List (Item I)). tree_of is) e ∙ tree_of-items u

-- ---- items inside open blocks

-- items begin with those of a tree that fits inside so many blocks, and go on with the ones behind
record Level {I : Type 0} (Fits : I → Type 0) (around : ℕ) (items behind : List (Item I)) : Type 0 where
  tree : Tree I
  written : items ≡ items_of tree ++ behind
  fit : AllFit Fits tree
  shallow : depth tree + around ≤ 32
  within : TurnsWithin tree

abbrev Balanced : {I : Type 0} → (I → Type 0) → ℕ → List (Item I) → Type 0
Balanced Fits zero items = Level Fits 0 items []
Balanced {I} Fits (suc k) items = (rest : List (Item I)) × Level Fits (suc k) items (BlockEnd ∷ rest) × Balanced Fits k rest

one_more : {I : Type 0} (Fits : I → Type 0) (k : ℕ) (i : I) (items behind : List (Item I)) → Fits i → Level Fits k items behind → Level Fits k (InstructionLine i ∷ items) behind
one_more {I} Fits k i items behind fits level =
    record {
      tree = Then i level.tree;
      written = ap (λ (is : List (Item I)). InstructionLine i ∷ is) level.written;
      fit = (fits, level.fit);
      shallow = level.shallow;
      within = level.within;
    }

with_instruction : {I : Type 0} (Fits : I → Type 0) (k : ℕ) (i : I) (items : List (Item I)) → Fits i → Balanced Fits k items → Balanced Fits k (InstructionLine i ∷ items)
with_instruction Fits zero i items fits b = one_more Fits 0 i items [] fits b
with_instruction Fits (suc k) i items fits b = (b.0, one_more Fits (suc k) i items (BlockEnd ∷ b.0) fits b.1, b.2)

one_block : {I : Type 0} (Fits : I → Type 0) (k line turns : ℕ) (items rest behind : List (Item I)) → IsTurns turns → Level Fits (suc k) items (BlockEnd ∷ rest) → Level Fits k rest behind → Level Fits k (BlockStart line turns ∷ items) behind
one_block {I} Fits k line turns items rest behind right body after =
    let inside : depth body.tree + suc k ≤ 32 = body.shallow in
    let outside : depth after.tree + k ≤ 32 = after.shallow in
    record {
      tree = Block line turns body.tree after.tree;
      written =
          ap (λ (is : List (Item I)). BlockStart line turns ∷ is)
          (body.written
          ∙ ap (λ (is : List (Item I)). items_of body.tree ++ BlockEnd ∷ is) after.written
          ∙ sym (append_assoc (items_of body.tree) (BlockEnd ∷ items_of after.tree) behind));
      fit = (right.0, body.fit, after.fit);
      shallow = omega arith;
      within = (right.1, body.within, after.within);
    }

with_block : {I : Type 0} (Fits : I → Type 0) (k line turns : ℕ) (items : List (Item I)) → IsTurns turns → Balanced Fits (suc k) items → Balanced Fits k (BlockStart line turns ∷ items)
with_block Fits zero line turns items right b = one_block Fits 0 line turns items b.0 [] right b.1 b.2
with_block Fits (suc k) line turns items right b = (
  b.2.0,
  one_block Fits (suc k) line turns items b.0 (BlockEnd ∷ b.2.0) right b.1 b.2.1,
  b.2.2,
)

nothing_before : {I : Type 0} (Fits : I → Type 0) (k : ℕ) (behind : List (Item I)) → k ≤ 32 → Level Fits k behind behind
nothing_before Fits k behind few = record { tree = Nothing; written = refl; fit = tt; shallow = omega arith; within = tt }

-- ---- lines

pub line_fits : {I : Type 0} (Fits : I → Type 0) (format : Format I) → LinesFit Fits format → (opened : List ℕ) (n : ℕ) (line : List ℕ) → ReadingFits Fits (length opened) (line_reading format opened n line)
line_fits Fits format fit opened n line =
    elim (cases_Bool (has_bad_byte line)) [
      | inl e ↦ rw e tt
      | inr e ↦ rw e (fit (length opened) n (cut_of line))
    ]

few_open : {I : Type 0} (Fits : I → Type 0) (opened : List ℕ) (n : ℕ) (r : Reading I) → length opened ≤ 32 → ReadingFits Fits (length opened) r → length (open_after n r opened) ≤ 32
few_open Fits opened n (Accepts i) few h = few
few_open Fits opened n (Opens turns) few h = omega arith
few_open Fits [] n Closes few h = absurd (omega arith)
few_open Fits (o ∷ opened) n Closes few h = omega arith
few_open Fits opened n (Refuses c) few h = few

-- a line and what follows it
step : {I : Type 0} (Fits : I → Type 0) (opened : List ℕ) (n : ℕ) (r : Reading I) (rest : Result (List (Item I)) Fault) → length opened ≤ 32 → ReadingFits Fits (length opened) r
    → IfOk rest (Balanced Fits (length (open_after n r opened))) → IfOk (followed n r rest) (Balanced Fits (length opened))
step Fits opened n (Accepts i) (Ok items) few h b = with_instruction Fits (length opened) i items h b
step Fits opened n (Accepts i) (Err fault) few h b = tt
step Fits opened n (Opens turns) (Ok items) few h b = with_block Fits (length opened) n turns items h.0 b
step Fits opened n (Opens turns) (Err fault) few h b = tt
step Fits [] n Closes rest few h b = absurd (omega arith)
step Fits (o ∷ opened) n Closes (Ok items) few h b = (items, nothing_before Fits (suc (length opened)) (BlockEnd ∷ items) few, b)
step Fits (o ∷ opened) n Closes (Err fault) few h b = tt
step Fits opened n (Refuses c) rest few h b = tt

either_way : {I : Type 0} (Fits : I → Type 0) (b : Bool) (r s : Result (List (Item I)) Fault) (k : ℕ) → IfOk r (Balanced Fits k) → IfOk s (Balanced Fits k) → IfOk (if b then r else s) (Balanced Fits k)
either_way Fits true r s k h j = h
either_way Fits false r s k h j = j

balanced : {I : Type 0} (Fits : I → Type 0) (format : Format I) → LinesFit Fits format → (opened : List ℕ) (read : ℕ) (lines : List (List ℕ)) → length opened ≤ 32 → IfOk (items_from format opened read lines) (Balanced Fits (length opened))
unfolding items_from
balanced Fits format fit [] read [] few = record { tree = Nothing; written = refl; fit = tt; shallow = omega arith; within = tt }
balanced Fits format fit (o ∷ opened) read [] few = tt
balanced Fits format fit opened read (line ∷ lines) few =
    let reading = line_reading format opened (read + 1) line in
    let fits : ReadingFits Fits (length opened) reading = line_fits Fits format fit opened (read + 1) line in
    either_way Fits (says_nothing line) _ _ (length opened) (balanced Fits format fit opened (read + 1) lines few)
    (step Fits opened (read + 1) reading (items_from format (open_after (read + 1) reading opened) (read + 1) lines) few fits
    (balanced Fits format fit (open_after (read + 1) reading opened) (read + 1) lines (few_open Fits opened (read + 1) reading few fits)))

-- ---- texts

written_from : {I : Type 0} (Fits : I → Type 0) (items : List (Item I)) → Balanced Fits 0 items → IsWritten Fits items
written_from {I} Fits items b =
    let of_tree : items ≡ items_of b.tree = b.written ∙ append-nil (items_of b.tree) in
    let tree : tree_of items ≡ b.tree = ap (λ (is : List (Item I)). tree_of is) of_tree ∙ tree_of-items b.tree in
    let shallow : depth b.tree ≤ 32 = omega (arith, b.shallow) in
    record {
      written = ap (λ (t : Tree I). items_of t) tree ∙ sym of_tree;
      fits = subst (IsBuilt Fits) (sym tree) (record { fit = b.fit; shallow = shallow; turns_within = b.within });
    }

accepted_from : {I : Type 0} (Fits : I → Type 0) (r : Result (List (Item I)) Fault) → IfOk r (Balanced Fits 0) → (items : List (Item I)) → r ≡ Ok items → IsWritten Fits items
accepted_from {I} Fits r b items e = written_from Fits items (subst (λ (x : Result (List (Item I)) Fault). IfOk x (Balanced Fits 0)) e b)

-- the items of lines that are accepted, behind so many, are those of a tree that fits
pub lines_are_written : {I : Type 0} (Fits : I → Type 0) (format : Format I) → LinesFit Fits format → (read : ℕ) (lines : List (List ℕ)) (items : List (Item I)) → items_from format [] read lines ≡ Ok items → IsWritten Fits items
lines_are_written Fits format fit read lines items e =
    accepted_from Fits (items_from format [] read lines) (balanced Fits format fit [] read lines (omega arith)) items e

-- the same of a text
pub items_are_written : {I : Type 0} (Fits : I → Type 0) (format : Format I) → LinesFit Fits format → (text : List ℕ) (items : List (Item I)) → items_in format text ≡ Ok items → IsWritten Fits items
items_are_written Fits format fit text items e = lines_are_written Fits format fit 0 (lines_of text) items e

judged_either : {I : Type 0} (Fits : I → Type 0) (r : Result (List (Item I)) Fault) → ((items : List (Item I)) → r ≡ Ok items → IsWritten Fits items) → ((t : Tree I) × (r ≡ Ok (items_of t))) ⊎ ((fault : Fault) × (r ≡ Err fault))
judged_either {I} Fits (Ok items) w = inl (tree_of items, ap (λ (is : List (Item I)). Ok is) (sym (w items refl).written))
judged_either Fits (Err fault) w = inr (fault, refl)

each_text_is_judged : {I : Type 0} (Fits : I → Type 0) (format : Format I) → LinesFit Fits format → (text : List ℕ) → ((tree : Tree I) × Writes format text tree) ⊎ ((fault : Fault) × IsRefusedBy format text fault)
each_text_is_judged Fits format fit text = judged_either Fits (items_in format text) (items_are_written Fits format fit text)

pub each_tree_fits : {I : Type 0} (Fits : I → Type 0) (format : Format I) → LinesFit Fits format → (text : List ℕ) (tree : Tree I) → Writes format text tree → IsBuilt Fits tree
each_tree_fits Fits format fit text tree written =
    subst (IsBuilt Fits) (tree_of-items tree) (items_are_written Fits format fit text (items_of tree) written).fits

abbrev items_or_none : {I : Type 0} → Result (List (Item I)) Fault → List (Item I)
items_or_none (Ok items) = items
items_or_none (Err fault) = []

abbrev fault_or : {I : Type 0} → Fault → Result (List (Item I)) Fault → Fault
fault_or f (Ok items) = f
fault_or f (Err fault) = fault

pub no_text_writes_two_trees : {I : Type 0} (format : Format I) (text : List ℕ) (t u : Tree I) → Writes format text t → Writes format text u → t ≡ u
no_text_writes_two_trees {I} format text t u written also =
    same_tree t u (ap (λ (r : Result (List (Item I)) Fault). items_or_none r) (sym written ∙ also))

no_text_has_two_faults : {I : Type 0} (format : Format I) (text : List ℕ) (f g : Fault) → IsRefusedBy format text f → IsRefusedBy format text g → f ≡ g
no_text_has_two_faults {I} format text f g refused also =
    ap (λ (r : Result (List (Item I)) Fault). fault_or f r) (sym refused ∙ also)

no_text_is_both : {I : Type 0} (format : Format I) (text : List ℕ) (t : Tree I) (f : Fault) → Writes format text t → IsRefusedBy format text f → ⊥
no_text_is_both {I} format text t f written refused =
    false≢true (ap (λ (r : Result (List (Item I)) Fault). is_err r) (sym written ∙ refused))

pub judged_once : {I : Type 0} (Fits : I → Type 0) (format : Format I) → LinesFit Fits format → AreJudgedOnce format
judged_once Fits format fit =
    record {
      judged = each_text_is_judged Fits format fit;
      one_tree = no_text_writes_two_trees format;
      one_fault = no_text_has_two_faults format;
      not_both = no_text_is_both format;
    }
