-- The marks of items stay numbers of probabilities where more texts are kept, and those of one line more are such numbers.
use Rattle.std.proofs.Common.{◌≡◌, ◌≤◌, ◌+◌, ℕ, zero, suc, List, [], ◌∷◌, ◌++◌, length, get_or, Option, None, Some, slice_get, sym, ap₂, subst, ◌∙◌, append-nil, arith}
use Rattle.step_model.specs.declared.chances.ChanceText.{ChanceText}
use Rattle.step_model.specs.Chances.{Chance, KeepsChances}
use Rattle.stim_lexer.specs.declared.said.Said.{Said}
use Rattle.stim_lexer.specs.declared.said.Said.TheVariants as said
use Rattle.stim_lexer.specs.Arguments.{arguments_in}
use Rattle.stim_lexer.specs.Instructions.{Instruction}
use Rattle.stim_lexer.specs.Marked.{Marked, line_marks}
use Rattle.stim_lexer.specs.Said.{reading_in}
use Rattle.stim_lexer.specs.Trees.{Item, InstructionLine, BlockStart, BlockEnd}
use Rattle.stim_lexer.specs.Unfinished.{line_items}
use Rattle.stim_parser.specs.Judging.{Table}
use Rattle.stim_parser.specs.Probabilities.{AreMarked, IsMarked, Keeps, Marks, SaidMarked, chance_taken, instruction_count, taken_count}

-- ---- more texts

no_fewer : (old new : List ChanceText) → KeepsChances old new → length old ≤ length new
no_fewer [] new keeps = omega arith
no_fewer (text ∷ old) new keeps = omega (arith, (keeps (length old) (omega arith)).0)

marks-kept : (old new : List ChanceText) (chance : Option Chance) (mark : ℕ) → KeepsChances old new → Marks old chance mark → Marks new chance mark
marks-kept old new None mark keeps m = tt
marks-kept old new (Some chance) mark keeps m =
    λ few.
    let was = m (omega (arith, few, no_fewer old new keeps)) in
    let kept = keeps mark was.0 in
    (kept.0, kept.1 ∙ was.1)

item-kept : {O T F : Type 0} (table : Table O T F) (old new : List ChanceText) (item : Item (Instruction O T)) (mark : ℕ) → KeepsChances old new → IsMarked table old item mark → IsMarked table new item mark
item-kept table old new (InstructionLine i) mark keeps m = marks-kept old new (chance_taken table i.operation i.arguments) mark keeps m
item-kept table old new (BlockStart line turns) mark keeps m = tt
item-kept table old new BlockEnd mark keeps m = tt

items-kept : {O T F : Type 0} (table : Table O T F) (old new : List ChanceText) (items : List (Item (Instruction O T))) (marks : List ℕ) → KeepsChances old new → AreMarked table old items marks → AreMarked table new items marks
items-kept table old new [] [] keeps m = tt
items-kept table old new [] (mark ∷ marks) keeps m = absurd m
items-kept table old new (item ∷ items) [] keeps m = absurd m
items-kept table old new (item ∷ items) (mark ∷ marks) keeps m =
    (item-kept table old new item mark keeps m.0, items-kept table old new items marks keeps m.1)

-- ---- one item more

marked-push : {O T F : Type 0} (table : Table O T F) (texts : List ChanceText) (items : List (Item (Instruction O T))) (marks : List ℕ) (item : Item (Instruction O T)) (mark : ℕ)
    → AreMarked table texts items marks → IsMarked table texts item mark → AreMarked table texts (items ++ item ∷ []) (marks ++ mark ∷ [])
marked-push table texts [] [] item mark m is = (is, tt)
marked-push table texts [] (other ∷ marks) item mark m is = absurd m
marked-push table texts (first ∷ items) [] item mark m is = absurd m
marked-push table texts (first ∷ items) (other ∷ marks) item mark m is = (m.0, marked-push table texts items marks item mark m.1 is)

counted-push : {I : Type 0} (items : List (Item I)) (item : Item I) → instruction_count (items ++ item ∷ []) ≡ instruction_count items + instruction_count (item ∷ [])
counted-push [] item = omega arith
counted-push (InstructionLine i ∷ items) item = omega (arith, counted-push items item)
counted-push (BlockStart line turns ∷ items) item = counted-push items item
counted-push (BlockEnd ∷ items) item = counted-push items item

keeps-item : {O T F : Type 0} (table : Table O T F) (old new : List ChanceText) (items : List (Item (Instruction O T))) (marks : List ℕ) (item : Item (Instruction O T)) (mark : ℕ)
    → Keeps table old (record { items = items; marks = marks }) → KeepsChances old new → length new ≤ length old + instruction_count (item ∷ []) → IsMarked table new item mark
    → Keeps table new (record { items = items ++ item ∷ []; marks = marks ++ mark ∷ [] })
keeps-item table old new items marks item mark was keeps few is =
    record {
      marked = marked-push table new items marks item mark (items-kept table old new items marks keeps was.marked) is;
      few = omega (arith, counted-push items item, was.few, few);
    }

-- ---- one line more

line-keeps : {O T F : Type 0} (table : Table O T F) (old new : List ChanceText) (items : List (Item (Instruction O T))) (marks : List ℕ) (number : ℕ) (said : Said O) (mark : ℕ) (targets : List T)
    → Keeps table old (record { items = items; marks = marks }) → KeepsChances old new → length new ≤ length old + taken_count said → SaidMarked table new said mark
    → Keeps table new (record { items = items ++ line_items number (reading_in number said targets); marks = marks ++ line_marks said mark })
line-keeps table old new items marks number (said.Accepts operation arguments) mark targets was keeps few is =
    keeps-item table old new items marks
    (InstructionLine (record { line = number; operation = operation; arguments = arguments_in arguments.now; targets = targets })) mark was keeps few is
line-keeps table old new items marks number (said.Opens turns) mark targets was keeps few is =
    keeps-item table old new items marks (BlockStart number turns) 0 was keeps few tt
line-keeps table old new items marks number said.Closes mark targets was keeps few is =
    keeps-item table old new items marks BlockEnd 0 was keeps few tt
line-keeps {O} {T} table old new items marks number (said.Refuses c) mark targets was keeps few is =
    let same : Keeps table new (record { items = items; marks = marks }) =
    record { marked = items-kept table old new items marks keeps was.marked; few = omega (arith, was.few, few) } in
    subst (λ (m : Marked (Instruction O T)). Keeps table new m)
    (sym (ap₂ (λ (is : List (Item (Instruction O T))) (ms : List ℕ). let m : Marked (Instruction O T) = record { items = is; marks = ms } in m) (append-nil items) (append-nil marks)))
    same

pub begun-keeps : {O T F : Type 0} (table : Table O T F) (old new : List ChanceText) (was is : Marked (Instruction O T)) (number : ℕ) (said : Said O) (mark : ℕ) (targets : List T)
    → Keeps table old was → KeepsChances old new → length new ≤ length old + taken_count said → SaidMarked table new said mark
    → is.items ≡ was.items ++ line_items number (reading_in number said targets) → is.marks ≡ was.marks ++ line_marks said mark → Keeps table new is
begun-keeps {O} {T} table old new was is number said mark targets kept keeps few marked items marks =
    subst (λ (m : Marked (Instruction O T)). Keeps table new m)
    (sym (ap₂ (λ (xs : List (Item (Instruction O T))) (ms : List ℕ). let m : Marked (Instruction O T) = record { items = xs; marks = ms } in m) items marks))
    (line-keeps table old new was.items was.marks number said mark targets kept keeps few marked)

-- ---- a mark is read

pub marked_at : {O T F : Type 0} (table : Table O T F) (texts : List ChanceText) (items : List (Item (Instruction O T))) (marks : List ℕ) (i : ℕ) (item : Item (Instruction O T))
    → AreMarked table texts items marks → Some item ≡ slice_get items i → IsMarked table texts item (get_or marks i 0)
marked_at table texts [] [] i item m got = cc
marked_at table texts [] (mark ∷ marks) i item m got = absurd m
marked_at table texts (first ∷ items) [] i item m got = absurd m
marked_at {O} {T} table texts (first ∷ items) (mark ∷ marks) zero item m got =
    let same : item ≡ first = cc in
    subst (λ (x : Item (Instruction O T)). IsMarked table texts x mark) (sym same) m.0
marked_at table texts (first ∷ items) (mark ∷ marks) (suc i) item m got = marked_at table texts items marks i item m.1 got
