-- How items, trees and instructions are stored, for the types that are seen as them: a tree is found again from its items.
-- (This project's own.)
use Rattle.std.specs.Prelude.{◌≡◌, ℕ, ◌⊎◌, List, [], ◌∷◌, ◌++◌, refl}
use Rattle.std.specs.Coded.{Coded, code_by, coded×, coded⊎, coded_ℕ, coded_list}
use Rattle.std.proofs.Common.{sym, ap, ◌∙◌, append_assoc, append-nil, inl, inr}
use Rattle.stim_lexer.specs.Trees.{Item, InstructionLine, BlockStart, BlockEnd, Tree, Nothing, Then, Block, items_of}
use Rattle.stim_lexer.specs.Flat.{first_tree, onto, tree_of, trees_of}
use Rattle.stim_lexer.specs.Instructions.{Instruction}

pub read_back : {I : Type 0} (t : Tree I) (rest : List (Item I)) (ts : List (Tree I)) → trees_of rest ≡ Nothing ∷ ts → trees_of (items_of t ++ rest) ≡ t ∷ ts
read_back Nothing rest ts h = h
read_back (Then i t) rest ts h = ap (onto (InstructionLine i)) (read_back t rest ts h)
read_back (Block line turns t u) rest ts h =
    ap (onto (BlockStart line turns))
    (ap trees_of (append_assoc (items_of t) (BlockEnd ∷ items_of u) rest)
    ∙ read_back t (BlockEnd ∷ (items_of u ++ rest)) (u ∷ ts) (ap (λ us. Nothing ∷ us) (read_back u rest ts h)))

pub tree_of-items : {I : Type 0} (t : Tree I) → tree_of (items_of t) ≡ t
tree_of-items {I} t =
    ap (λ (items : List (Item I)). tree_of items) (sym (append-nil (items_of t))) ∙ ap first_tree (read_back t [] [] refl)

abbrev fields_of : {I : Type 0} → Item I → I ⊎ ((ℕ × ℕ) ⊎ ℕ)
fields_of (InstructionLine i) = inl i
fields_of (BlockStart line turns) = inr (inl (line, turns))
fields_of BlockEnd = inr (inr 0)

abbrev item_of : {I : Type 0} → I ⊎ ((ℕ × ℕ) ⊎ ℕ) → Item I
item_of (inl i) = InstructionLine i
item_of (inr (inl f)) = BlockStart f.0 f.1
item_of (inr (inr n)) = BlockEnd

pub item_of-fields : {I : Type 0} (i : Item I) → item_of (fields_of i) ≡ i
item_of-fields (InstructionLine i) = refl
item_of-fields (BlockStart line turns) = refl
item_of-fields BlockEnd = refl

abbrev pub coded_items : {I : Type 0} → Coded I → Coded (List (Item I))
coded_items {I} instruction =
    coded_list
    (code_by (I ⊎ ((ℕ × ℕ) ⊎ ℕ)) (coded⊎ instruction (coded⊎ (coded× coded_ℕ coded_ℕ) coded_ℕ)) fields_of item_of item_of-fields)

abbrev pub coded_tree : {I : Type 0} → Coded I → Coded (Tree I)
coded_tree {I} instruction = code_by (List (Item I)) (coded_items instruction) items_of tree_of tree_of-items

-- an instruction is stored as its fields
abbrev Fields : Type 0 → Type 0 → Type 0
Fields O T = ℕ × (O × (List (List ℕ) × List T))

abbrev pub coded_instruction : {O T : Type 0} → Coded O → Coded T → Coded (Instruction O T)
coded_instruction {O} {T} operation target =
    code_by (Fields O T) (coded× coded_ℕ (coded× operation (coded× (coded_list (coded_list coded_ℕ)) (coded_list target))))
    (λ i. (i.line, (i.operation, (i.arguments, i.targets))))
    (λ f. record { line = f.0; operation = f.1.0; arguments = f.1.1.0; targets = f.1.1.1 })
    (λ _. refl)
