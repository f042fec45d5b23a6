-- Items kept flat: how many there are, which is at a place, and one more of them.
use Rattle.std.proofs.Common.{◌≡◌, ℕ, zero, suc, ◌<◌, List, [], ◌∷◌, ◌++◌, length, map, get_or, Some, slice_get, refl, sym, ap, ◌∙◌, arith}
use Rattle.std.proofs.Math.Nat.{suc_inj}
use Rattle.stim_lexer.specs.declared.items.Node.{Node}
use Rattle.stim_lexer.specs.Instructions.{Instruction}
use Rattle.stim_lexer.specs.Kept.{item_kept, items_kept, mark_kept}
use Rattle.stim_lexer.specs.Trees.{Item}

pub length-items_kept : {O T : Type 0} (lists : List (List T)) (nodes : List (Node O)) → length nodes ≡ length lists → length (items_kept lists nodes) ≡ length nodes
length-items_kept [] [] h = refl
length-items_kept [] (n ∷ nodes) h = cc
length-items_kept (targets ∷ lists) [] h = refl
length-items_kept (targets ∷ lists) (n ∷ nodes) h = ap suc (length-items_kept lists nodes (suc_inj h))

slice_get-items_kept : {O T : Type 0} (lists : List (List T)) (nodes : List (Node O)) (i : ℕ) (d : Node O) → length nodes ≡ length lists → i < length nodes → slice_get (items_kept lists nodes) i ≡ Some (item_kept (get_or lists i []) (get_or nodes i d))
slice_get-items_kept lists [] i d h below = absurd (omega arith)
slice_get-items_kept [] (n ∷ nodes) i d h below = cc
slice_get-items_kept (targets ∷ lists) (n ∷ nodes) zero d h below = refl
slice_get-items_kept (targets ∷ lists) (n ∷ nodes) (suc i) d h below = slice_get-items_kept lists nodes i d (suc_inj h) (omega arith)

pub items_kept-push : {O T : Type 0} (lists : List (List T)) (nodes : List (Node O)) (targets : List T) (n : Node O) → length nodes ≡ length lists → items_kept (lists ++ targets ∷ []) (nodes ++ n ∷ []) ≡ items_kept lists nodes ++ item_kept targets n ∷ []
items_kept-push [] [] targets n h = refl
items_kept-push [] (other ∷ nodes) targets n h = cc
items_kept-push (more ∷ lists) [] targets n h = cc
items_kept-push {O} {T} (more ∷ lists) (other ∷ nodes) targets n h =
    ap (λ (items : List (Item (Instruction O T))). item_kept more other ∷ items) (items_kept-push lists nodes targets n (suc_inj h))

-- the item at a place, once what is kept of it is read
pub item_at : {O T : Type 0} (lists : List (List T)) (nodes : List (Node O)) {items : List (Item (Instruction O T))} (i : ℕ) (n : Node O) → items_kept lists nodes ≡ items → length nodes ≡ length lists → i < length items → n ≡ get_or nodes i n → slice_get items i ≡ Some (item_kept (get_or lists i []) n)
item_at {O} {T} lists nodes {items} i n view same below is =
    let within : i < length nodes = omega (arith, length-items_kept lists nodes same, ap length view) in
    ap (λ (all : List (Item (Instruction O T))). slice_get all i) (sym view)
    ∙ slice_get-items_kept lists nodes i n same within
    ∙ ap (λ (m : Node O). Some (item_kept (get_or lists i []) m)) (sym is)

marks-nodes : {O : Type 0} (nodes : List (Node O)) (i : ℕ) (n : Node O) → i < length nodes → n ≡ get_or nodes i n → get_or (map mark_kept nodes) i 0 ≡ mark_kept n
marks-nodes [] i n below is = absurd (omega (arith, below))
marks-nodes (other ∷ nodes) zero n below is = ap mark_kept (sym is)
marks-nodes (other ∷ nodes) (suc i) n below is = marks-nodes nodes i n (omega (arith, below)) is

-- its mark
pub mark_at : {O T : Type 0} (lists : List (List T)) (nodes : List (Node O)) {items : List (Item (Instruction O T))} {marks : List ℕ} (i : ℕ) (n : Node O) → items_kept lists nodes ≡ items → map mark_kept nodes ≡ marks → length nodes ≡ length lists → i < length items → n ≡ get_or nodes i n → get_or marks i 0 ≡ mark_kept n
mark_at lists nodes {items} {marks} i n view marked same below is =
    let within : i < length nodes = omega (arith, length-items_kept lists nodes same, ap length view, below) in
    ap (λ ms. get_or ms i 0) (sym marked) ∙ marks-nodes nodes i n within is

-- what the methods' goals take
pub ruleset counts = (length-items_kept)
