-- A pass over a text's items in their order is a pass over its tree.
use Rattle.std.proofs.Common.{◌≡◌, ℕ, zero, suc, ◌+◌, ◌≤◌, List, [], ◌∷◌, ◌++◌, length, drop, reverse, Some, refl, sym, ap, ◌∙◌, subst, append_assoc, append-nil, arith, length-append}
use Rattle.std.specs.Prelude.{slice_get}
use Rattle.std.proofs.lemmas.List.{reverse-append, drop_all}
use Rattle.stim_lexer.specs.Fitting.{AllFit, IsBuilt, depth}
use Rattle.stim_lexer.specs.Trees.{Item, InstructionLine, BlockStart, BlockEnd, Tree, Nothing, Then, Block, items_of}
use Rattle.stim_lexer.specs.declared.blocks.OpenBlock.{OpenBlock}
use Rattle.stim_lexer.specs.Passes.{AreWhole, Pass, behind, opened, CanStand, Passes}

-- the state behind items, where these blocks are open, the innermost first
abbrev pub run : {I S : Type 0} → Pass I S → List (Item I) → List (OpenBlock S) → S → S
run pass [] blocks s = s
run pass (InstructionLine i ∷ items) blocks s = run pass items blocks (pass.step i s)
run pass (BlockStart line turns ∷ items) blocks s = run pass items (opened turns s ∷ blocks) s
run pass (BlockEnd ∷ items) [] s = s
run pass (BlockEnd ∷ items) (block ∷ blocks) s = run pass items blocks (pass.close block.turns block.before s)

-- ---- items of a tree

pub run-items : {I S : Type 0} (pass : Pass I S) (t : Tree I) (rest : List (Item I)) (blocks : List (OpenBlock S)) (s : S) → run pass (items_of t ++ rest) blocks s ≡ run pass rest blocks (behind pass t s)
run-items pass Nothing rest blocks s = refl
run-items pass (Then i t) rest blocks s = run-items pass t rest blocks (pass.step i s)
run-items {I} pass (Block line turns t u) rest blocks s =
    ap (λ (items : List (Item I)). run pass items (opened turns s ∷ blocks) s) (append_assoc (items_of t) (BlockEnd ∷ items_of u) rest)
    ∙ run-items pass t (BlockEnd ∷ (items_of u ++ rest)) (opened turns s ∷ blocks) s
    ∙ run-items pass u rest blocks (pass.close turns s (behind pass t s))

pub run-tree : {I S : Type 0} (pass : Pass I S) (t : Tree I) (s : S) → run pass (items_of t) [] s ≡ behind pass t s
run-tree {I} pass t s = ap (λ (items : List (Item I)). run pass items [] s) (sym (append-nil (items_of t))) ∙ run-items pass t [] [] s

whole-items : {I : Type 0} (Fits : I → Type 0) (t : Tree I) (rest : List (Item I)) (d : ℕ) → AllFit Fits t → depth t + d ≤ 32 → AreWhole Fits rest d → AreWhole Fits (items_of t ++ rest) d
whole-items Fits Nothing rest d fit room whole = whole
whole-items Fits (Then i t) rest d fit room whole = (fit.0, whole-items Fits t rest d fit.1 room whole)
whole-items {I} Fits (Block line turns t u) rest d fit room whole = (
  fit.0,
  omega arith,
  subst (λ (items : List (Item I)). AreWhole Fits items (suc d)) (sym (append_assoc (items_of t) (BlockEnd ∷ items_of u) rest))
      (whole-items Fits t (BlockEnd ∷ (items_of u ++ rest)) (suc d) fit.1 (omega arith) (whole-items Fits u rest d fit.2 (omega arith) whole)),
)

pub whole-tree : {I : Type 0} (Fits : I → Type 0) (t : Tree I) → IsBuilt Fits t → AreWhole Fits (items_of t) 0
whole-tree {I} Fits t accepted =
    subst (λ (items : List (Item I)). AreWhole Fits items 0) (append-nil (items_of t))
    (whole-items Fits t [] 0 accepted.fit (omega (arith, accepted.shallow)) refl)

-- ---- one item

-- the item that was read stands first in what is left
pub drop_got : {X : Type 0} (xs : List X) (i : ℕ) (x : X) → Some x ≡ slice_get xs i → drop i xs ≡ x ∷ drop (suc i) xs
drop_got [] i x h = absurd cc
drop_got (y ∷ xs) zero x h = ap (λ z. z ∷ xs) (sym (some_same x y h))
  where
    some_same : {X : Type 0} (x y : X) → Some x ≡ Some y → x ≡ y
    some_same x y h = cc
drop_got (y ∷ xs) (suc i) x h = drop_got xs i x h

pub can_stand : {I : Type 0} (Fits : I → Type 0) (item : Item I) (items : List (Item I)) (d : ℕ) → AreWhole Fits (item ∷ items) d → CanStand Fits item d
can_stand Fits (InstructionLine i) items d whole = whole.0
can_stand Fits (BlockStart line turns) items d whole = (whole.0, whole.1)
can_stand Fits BlockEnd items zero whole = absurd whole
can_stand Fits BlockEnd items (suc d) whole = omega arith

-- what is left behind an item stands where it may
pub whole-next : {I S : Type 0} (Fits : I → Type 0) (pass : Pass I S) (item : Item I) (items : List (Item I)) (s : S) (blocks : List (OpenBlock S)) (s' : S) (blocks' : List (OpenBlock S)) → Passes pass item s blocks s' blocks' → AreWhole Fits (item ∷ items) (length blocks) → AreWhole Fits items (length blocks')
whole-next Fits pass (InstructionLine i) items s blocks s' blocks' h whole = subst (λ (xs : List (OpenBlock _)). AreWhole Fits items (length xs)) (sym h.1) whole.1
whole-next Fits pass (BlockStart line turns) items s blocks s' blocks' h whole =
    subst (AreWhole Fits items) (sym (ap length h.1 ∙ length-append blocks (opened turns s ∷ []) ∙ omega arith)) whole.2
whole-next Fits pass BlockEnd items s blocks s' blocks' h whole =
    let e : length blocks ≡ suc (length blocks') = ap length h.open_is ∙ length-append blocks' (h.last ∷ []) ∙ omega arith in
    subst (λ d. AreWhole Fits (BlockEnd ∷ items) d) e whole

-- the items left give the same behind an item as with it
pub run-next : {I S : Type 0} (pass : Pass I S) (item : Item I) (items : List (Item I)) (s : S) (blocks : List (OpenBlock S)) (s' : S) (blocks' : List (OpenBlock S)) → Passes pass item s blocks s' blocks' → run pass (item ∷ items) (reverse blocks) s ≡ run pass items (reverse blocks') s'
run-next pass (InstructionLine i) items s blocks s' blocks' h = rw (h.0, h.1) refl
run-next pass (BlockStart line turns) items s blocks s' blocks' h = rw (h.0, h.1, reverse-append blocks (opened turns s ∷ [])) refl
run-next pass BlockEnd items s blocks s' blocks' h = rw (h.open_is, reverse-append blocks' (h.last ∷ []), h.state_is) refl

-- ---- a loop over all items

-- behind so many items of a tree, with these blocks open, the outermost first
pub record IsPassing {I S : Type 0} (Fits : I → Type 0) (pass : Pass I S) (t : Tree I) (start : S) (i : ℕ) (s : S) (blocks : List (OpenBlock S)) : Type 0 where
  pub left : run pass (drop i (items_of t)) (reverse blocks) s ≡ behind pass t start
  pub whole : AreWhole Fits (drop i (items_of t)) (length blocks)

pub passing-first : {I S : Type 0} {Fits : I → Type 0} (pass : Pass I S) (t : Tree I) (start : S) → IsBuilt Fits t → IsPassing Fits pass t start 0 start []
passing-first {I} {S} {Fits} pass t start accepted = record { left = run-tree pass t start; whole = whole-tree Fits t accepted }

pub passing-can : {I S : Type 0} {Fits : I → Type 0} (pass : Pass I S) (t : Tree I) (start : S) (i : ℕ) (s : S) (blocks : List (OpenBlock S)) (item : Item I) → IsPassing Fits pass t start i s blocks → Some item ≡ slice_get (items_of t) i → CanStand Fits item (length blocks)
passing-can {I} {S} {Fits} pass t start i s blocks item p got =
    can_stand Fits item (drop (suc i) (items_of t)) (length blocks)
    (subst (λ (items : List (Item I)). AreWhole Fits items (length blocks)) (drop_got (items_of t) i item got) p.whole)

pub passing-next : {I S : Type 0} {Fits : I → Type 0} (pass : Pass I S) (t : Tree I) (start : S) (i j : ℕ) (s : S) (blocks : List (OpenBlock S)) (s' : S) (blocks' : List (OpenBlock S)) (item : Item I) → IsPassing Fits pass t start i s blocks → Some item ≡ slice_get (items_of t) i → Passes pass item s blocks s' blocks' → j ≡ i + 1 → IsPassing Fits pass t start j s' blocks'
passing-next {I} {S} {Fits} pass t start i j s blocks s' blocks' item p got h e =
    let at = drop_got (items_of t) i item got in
    let rest = drop (suc i) (items_of t) in
    let later : j ≡ suc i = omega (arith, e) in
    let next : drop j (items_of t) ≡ rest = ap (λ k. drop k (items_of t)) later in
    record {
      left =
          ap (λ (items : List (Item I)). run pass items (reverse blocks') s') next
          ∙ sym (run-next pass item rest s blocks s' blocks' h)
          ∙ sym (ap (λ (items : List (Item I)). run pass items (reverse blocks) s) at)
          ∙ p.left;
      whole =
          subst (λ (items : List (Item I)). AreWhole Fits items (length blocks')) (sym next)
          (whole-next Fits pass item rest s blocks s' blocks' h
          (subst (λ (items : List (Item I)). AreWhole Fits items (length blocks)) at p.whole));
    }

pub passing-done : {I S : Type 0} {Fits : I → Type 0} (pass : Pass I S) (t : Tree I) (start : S) (i : ℕ) (s : S) (blocks : List (OpenBlock S)) → IsPassing Fits pass t start i s blocks → length (items_of t) ≤ i → s ≡ behind pass t start
passing-done {I} {S} {Fits} pass t start i s blocks p h =
    sym (ap (λ (items : List (Item I)). run pass items (reverse blocks) s) (drop_all i (items_of t) h)) ∙ p.left
