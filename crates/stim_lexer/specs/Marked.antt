-- Items, and for each a number: for an instruction a mark, by which the reader of a format knows more of it; for others 0.
use Rattle.std.specs.Prelude.{ℕ, List, [], ◌∷◌, refl}
use Rattle.std.specs.Coded.{Coded, code_by, coded×, coded_ℕ, coded_list}
use Rattle.stim_lexer.specs.declared.said.Said.{Said}
use Rattle.stim_lexer.specs.declared.said.Said.TheVariants as said
use Rattle.stim_lexer.specs.Stored.{coded_items}
use Rattle.stim_lexer.specs.Trees.{Item}
use Rattle.stim_lexer.specs.Unfinished.{Unfinished, coded_unfinished}

pub record Marked (I : Type 0) : Type 0 where
  pub items : List (Item I)
  pub marks : List ℕ

-- a text that is read line by line, with the marks of its items, and the targets of the line that is read
pub record Begun (I T : Type 0) : Type 0 where
  pub text : Unfinished I
  pub marks : List ℕ
  pub targets : List T

-- no line was read
abbrev pub nothing_begun : {I T : Type 0} → Begun I T
nothing_begun = record { text = record { items = []; opened = [] }; marks = []; targets = [] }

-- all of it but these targets
abbrev pub but_targets : {I T : Type 0} → Begun I T → Unfinished I × List ℕ
but_targets b = (b.text, b.marks)

-- the mark of the item of a line, where its instruction has this one
abbrev pub line_marks : {O : Type 0} → Said O → ℕ → List ℕ
line_marks (said.Accepts operation arguments) mark = mark ∷ []
line_marks (said.Opens turns) mark = 0 ∷ []
line_marks said.Closes mark = 0 ∷ []
line_marks (said.Refuses c) mark = []

-- ---- how they are stored, for the types that are seen as them

abbrev pub coded_marked : {I : Type 0} → Coded I → Coded (Marked I)
coded_marked {I} instruction =
    code_by (List (Item I) × List ℕ) (coded× (coded_items instruction) (coded_list coded_ℕ)) (λ m. (m.items, m.marks))
    (λ p. record { items = p.0; marks = p.1 })
    (λ _. refl)

abbrev pub coded_begun : {I T : Type 0} → Coded I → Coded T → Coded (Begun I T)
coded_begun {I} {T} instruction target =
    code_by (Unfinished I × (List ℕ × List T)) (coded× (coded_unfinished instruction) (coded× (coded_list coded_ℕ) (coded_list target)))
    (λ b. (b.text, (b.marks, b.targets)))
    (λ p. record { text = p.0; marks = p.1.0; targets = p.1.1 })
    (λ _. refl)
