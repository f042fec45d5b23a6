use Rattle.std.proofs.Common.{◌≡◌, ◌+◌, ℕ, zero, suc, List, [], ◌∷◌, ◌++◌, replicate, ap, sym, subst, ◌∙◌, append_assoc, arith, refl}
use Rattle.std.specs.Prelude.{⊤}
use Rattle.std.proofs.lemmas.List.{replicate_more}
use Rattle.stim_lexer.specs.Arguments.{arguments_in}
use Rattle.stim_lexer.specs.Fitting.{AllFit, depth}
use Rattle.stim_lexer.specs.Instructions.{Instruction}
use Rattle.stim_lexer.specs.Marked.{Marked}
use Rattle.stim_lexer.specs.Trees.{Item, InstructionLine, BlockStart, BlockEnd, Tree, Nothing, Then, Block, items_of}
use Rattle.stim_lexer.specs.Unfinished.{Unfinished}
use Rattle.cursor.specs.Places.{AreNested}
use Rattle.cursor.proofs.Nested.{of_tree}
use Rattle.cursor.proofs.tests.deepest.Goals as goal

abbrev tower : {I : Type 0} → I → ℕ → Tree I
tower x zero = Then x Nothing
tower x (suc n) = Block 1 1000000000 (tower x n) Nothing

tower_items : {I : Type 0} (x : I) (n : ℕ) → items_of (tower x n) ≡ replicate n (BlockStart 1 1000000000) ++ InstructionLine x ∷ replicate n BlockEnd
tower_items x zero = refl
tower_items {I} x (suc n) =
    let starts : List (Item I) = replicate n (BlockStart 1 1000000000) in
    let more : replicate {A = Item I} n BlockEnd ++ BlockEnd ∷ [] ≡ replicate {A = Item I} (suc n) BlockEnd =
    replicate_more {X = Item I} n BlockEnd ∙ (let e : n + 1 ≡ suc n = omega arith in ap (λ k. replicate {A = Item I} k BlockEnd) e) in
    ap (λ (is : List (Item I)). BlockStart 1 1000000000 ∷ (is ++ BlockEnd ∷ [])) (tower_items x n)
    ∙ ap (λ (is : List (Item I)). BlockStart 1 1000000000 ∷ is)
    (append_assoc starts (InstructionLine x ∷ replicate n BlockEnd) (BlockEnd ∷ []) ∙ ap (λ (is : List (Item I)). starts ++ InstructionLine x ∷ is) more)

tower_fits : {I : Type 0} (x : I) (n : ℕ) → AllFit (λ (_ : I). ⊤) (tower x n)
tower_fits x zero = (tt, tt)
tower_fits x (suc n) = (omega arith, tower_fits x n, tt)

tower_depth : {I : Type 0} (x : I) (n : ℕ) → depth (tower x n) ≡ n
tower_depth x zero = refl
tower_depth x (suc n) = omega (arith, tower_depth x n)

built : {I : Type 0} (x : I) (m n : ℕ) (a b items : List (Item I)) → m ≡ 32 → n ≡ 32 → a ≡ replicate m (BlockStart 1 1000000000) → b ≡ a ++ InstructionLine x ∷ [] → items ≡ b ++ replicate n BlockEnd → AreNested items
built {I} x m n a b items em en ea eb h =
    let starts : List (Item I) = replicate 32 (BlockStart 1 1000000000) in
    let all : items ≡ starts ++ InstructionLine x ∷ replicate 32 BlockEnd =
    h ∙ ap (λ (is : List (Item I)). is ++ replicate n BlockEnd) (eb ∙ ap (λ (is : List (Item I)). is ++ InstructionLine x ∷ []) (ea ∙ ap (λ k. replicate {A = Item I} k (BlockStart 1 1000000000)) em))
    ∙ ap (λ k. (starts ++ InstructionLine x ∷ []) ++ replicate {A = Item I} k BlockEnd) en
    ∙ append_assoc starts (InstructionLine x ∷ []) (replicate 32 BlockEnd) in
    subst (λ (is : List (Item I)). AreNested is) (tower_items x 32 ∙ sym all)
    (of_tree (λ (_ : I). ⊤) (tower x 32) (tower_fits x 32) (omega (arith, tower_depth x 32)))

pub returns : goal.returns
returns c =
    let x : Instruction ℕ ℕ = record { line = 1; operation = 88; arguments = arguments_in c.args.none.now; targets = [] } in
    built x c.loop-opened._opened c.loop-closed._closed c.loop-opened.builder.text.items c.take-2.new.builder.text.items c.in_ok-items.items.items
    (omega arith) (omega arith) c.loop-opened.invariant.items
    (ap (λ (u : Unfinished (Instruction ℕ ℕ)). u.items) c.in_ok-take-2.ensures)
    (ap (λ (k : Marked (Instruction ℕ ℕ)). k.items) c.in_ok-items.ensures.items ∙ c.loop-closed.invariant)
