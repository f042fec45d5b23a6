use Rattle.std.proofs.Common.{◌≡◌, ℕ, [], List, ap, sym, subst, ◌∙◌, arith}
use Rattle.std.specs.Prelude.{⊤}
use Rattle.stim_lexer.specs.Arguments.{arguments_in}
use Rattle.stim_lexer.specs.Instructions.{Instruction}
use Rattle.stim_lexer.specs.Marked.{Begun, Marked}
use Rattle.stim_lexer.specs.Texts.{Accepts, Opens, Closes}
use Rattle.stim_lexer.specs.Trees.{Item, Nothing, Then, Block}
use Rattle.stim_lexer.specs.Unfinished.{Unfinished, after_line}
use Rattle.cursor.specs.Places.{AreNested}
use Rattle.cursor.proofs.Nested.{of_tree}
use Rattle.cursor.proofs.tests.mixed.Goals as goal

built : {I : Type 0} (x y z : I) (a b c d e f g h i u : Unfinished I) → a ≡ record { items = []; opened = [] } → b ≡ after_line 1 (Opens 1000000000) a → c ≡ after_line 2 (Accepts x) b → d ≡ after_line 3 Closes c
    → e ≡ after_line 4 (Opens 3) d → f ≡ after_line 5 (Accepts y) e → g ≡ after_line 6 (Opens 1000000000) f → h ≡ after_line 7 (Accepts z) g → i ≡ after_line 8 Closes h → u ≡ after_line 9 Closes i → AreNested u.items
built {I} x y z a b c d e f g h i u ea eb ec ed ee ef eg eh ei eu =
    let chain =
    eu
    ∙ ap (λ (v : Unfinished I). after_line 9 Closes v)
    (ei ∙ ap (λ (v : Unfinished I). after_line 8 Closes v)
    (eh ∙ ap (λ (v : Unfinished I). after_line 7 (Accepts z) v)
    (eg ∙ ap (λ (v : Unfinished I). after_line 6 (Opens 1000000000) v)
    (ef ∙ ap (λ (v : Unfinished I). after_line 5 (Accepts y) v)
    (ee ∙ ap (λ (v : Unfinished I). after_line 4 (Opens 3) v)
    (ed ∙ ap (λ (v : Unfinished I). after_line 3 Closes v)
    (ec ∙ ap (λ (v : Unfinished I). after_line 2 (Accepts x) v)
    (eb ∙ ap (λ (v : Unfinished I). after_line 1 (Opens 1000000000) v) ea)))))))) in
    subst (λ (v : Unfinished I). AreNested v.items) (sym chain)
    (of_tree (λ (_ : I). ⊤) (Block 1 1000000000 (Then x Nothing) (Block 4 3 (Then y (Block 6 1000000000 (Then z Nothing) Nothing)) Nothing))
    (omega arith, (tt, tt), (omega arith, (tt, (omega arith, (tt, tt), tt)), tt)) (omega arith))

pub returns : goal.returns
returns c =
    let x : Instruction ℕ ℕ = record { line = 2; operation = 88; arguments = arguments_in c.args.none.now; targets = [] } in
    let y : Instruction ℕ ℕ = record { line = 5; operation = 89; arguments = arguments_in c.args.none.now; targets = [] } in
    let z : Instruction ℕ ℕ = record { line = 7; operation = 88; arguments = arguments_in c.args.none.now; targets = [] } in
    let nested : AreNested c.take-9.new.builder.text.items =
    built x y z c.new-builder.result.text c.take.new.builder.text c.take-2.new.builder.text c.take-3.new.builder.text
    c.take-4.new.builder.text c.take-5.new.builder.text c.take-6.new.builder.text c.take-7.new.builder.text c.take-8.new.builder.text c.take-9.new.builder.text
    (ap (λ (b : Begun (Instruction ℕ ℕ) ℕ). b.text) c.new-builder.ensures) c.in_ok-take.ensures c.in_ok-take-2.ensures c.in_ok-take-3.ensures
    c.in_ok-take-4.ensures c.in_ok-take-5.ensures c.in_ok-take-6.ensures c.in_ok-take-7.ensures c.in_ok-take-8.ensures c.in_ok-take-9.ensures in
    subst (λ (is : List (Item (Instruction ℕ ℕ))). AreNested is) (sym (ap (λ (k : Marked (Instruction ℕ ℕ)). k.items) c.in_ok-items.ensures.items)) nested
