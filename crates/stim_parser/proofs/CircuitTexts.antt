-- The text of a tree that fits writes this tree, with the numbers of its lines.
use Rattle.std.proofs.Common.{◌≡◌, ℕ, ◌+◌, ◌<◌, ◌≤◌, List, [], ◌∷◌, ◌++◌, length, Result, Ok, refl, ap, sym, ◌∙◌, append_assoc, append-nil, arith}
use Rattle.step_model.specs.declared.fault.Fault.{Fault}
use Rattle.stim_lexer.specs.Cut.{Cut}
use Rattle.stim_lexer.specs.Lines.{lines_of}
use Rattle.stim_lexer.specs.Fitting.{IsTurns, TurnsWithin, depth}
use Rattle.stim_lexer.specs.Texts.{Reading, Accepts, Opens, Closes, before, followed, items_from, open_after}
use Rattle.stim_lexer.specs.Trees.{InstructionLine, BlockStart, BlockEnd, Nothing, Then, Block}
use Rattle.stim_lexer.proofs.TextLemmas.{after, after-append, after-ok}
use Rattle.stim_parser.specs.Circuits.{AllFit, Fits, IsCircuit}
use Rattle.stim_parser.specs.Judging.{reading_of}
use Rattle.stim_parser.specs.Texts.{Item, circuits, items_in}
use Rattle.stim_parser.specs.Trees.{Tree}
use Rattle.stim_parser.specs.Judged.{Writes, items_of}
use Rattle.stim_parser.specs.Verdicts.{Instruction, circuit_table}
use Rattle.stim_parser.specs.Written.{at_line, circuit_text, instruction_text, line_count, opening_text, with_lines, with_lines_after}
use Rattle.stim_parser.proofs.CutLemmas.{lines_of-line}
use Rattle.stim_parser.proofs.LineCutLemmas.{IsCut}
use Rattle.stim_parser.proofs.LineTexts.{closing_is_cut, closing_line, closing_read, instruction_cut, instruction_is_cut, instruction_read, opening_is_cut, opening_line_cut, opening_read}

abbrev Items : Type 0
Items = Result (List Item) Fault

-- ---- one line

-- a line that is cut so, and what it says
line_taken : (opened : List ℕ) (read : ℕ) (line : List ℕ) (cut : Cut) (reading : Reading Instruction) (rest : List ℕ) → IsCut line cut → reading_of circuit_table (length opened) (read + 1) cut ≡ reading
    → items_from circuits opened read (lines_of (line ++ 10 ∷ rest)) ≡ followed (read + 1) reading (items_from circuits (open_after (read + 1) reading opened) (read + 1) (lines_of rest))
unfolding items_from
line_taken opened read line cut reading rest is said =
    let speaks = is.speaks in
    let good = is.good in
    let cut_is = is.cut_is in
    ap (items_from circuits opened read) (lines_of-line line rest is.one) ∙ rw (speaks, good, cut_is, said) refl

instruction_taken : (opened : List ℕ) (read : ℕ) (i : Instruction) (rest : List ℕ) → Fits i
    → items_from circuits opened read (lines_of (instruction_text i ++ 10 ∷ rest)) ≡ before (InstructionLine (at_line (read + 1) i)) (items_from circuits opened (read + 1) (lines_of rest))
instruction_taken opened read i rest fits =
    line_taken opened read (instruction_text i) (instruction_cut i) (Accepts (at_line (read + 1) i)) rest (instruction_is_cut i fits) (instruction_read (length opened) (read + 1) i fits)

block_begun : (opened : List ℕ) (read turns : ℕ) (rest : List ℕ) → IsTurns turns → length opened < 32
    → items_from circuits opened read (lines_of (opening_text turns ++ 10 ∷ rest)) ≡ before (BlockStart (read + 1) turns) (items_from circuits ((read + 1) ∷ opened) (read + 1) (lines_of rest))
block_begun opened read turns rest some few =
    line_taken opened read (opening_text turns) (opening_line_cut turns) (Opens turns) rest (opening_is_cut turns some) (opening_read (length opened) (read + 1) turns some few)

block_ended : (line : ℕ) (opened : List ℕ) (read : ℕ) (rest : List ℕ)
    → items_from circuits (line ∷ opened) read (lines_of (125 ∷ 10 ∷ rest)) ≡ before BlockEnd (items_from circuits opened (read + 1) (lines_of rest))
block_ended line opened read rest =
    line_taken (line ∷ opened) read closing_line _ Closes rest closing_is_cut (closing_read (length (line ∷ opened)) (read + 1) (omega arith))

-- ---- the lines of a tree

-- its text, and what follows it
tree_taken : (tree : Tree) (opened : List ℕ) (read : ℕ) (rest : List ℕ) → AllFit tree → TurnsWithin tree → depth tree + length opened ≤ 32
    → items_from circuits opened read (lines_of (circuit_text tree ++ rest)) ≡ after (items_of (with_lines_after read tree)) (items_from circuits opened (read + line_count tree) (lines_of rest))
unfolding circuit_text with_lines_after line_count
tree_taken Nothing opened read rest fit within few =
    let same : read + 0 ≡ read = omega arith in rw same refl
tree_taken (Then i tree) opened read rest fit within few =
    let same : read + 1 + line_count tree ≡ read + (1 + line_count tree) = omega arith in
    ap (λ text. items_from circuits opened read (lines_of text)) (append_assoc (instruction_text i) (10 ∷ circuit_text tree) rest)
    ∙ instruction_taken opened read i (circuit_text tree ++ rest) fit.0
    ∙ ap (before (InstructionLine (at_line (read + 1) i))) (tree_taken tree opened (read + 1) rest fit.1 within few)
    ∙ ap (λ n. before (InstructionLine (at_line (read + 1) i)) (after (items_of (with_lines_after (read + 1) tree)) (items_from circuits opened n (lines_of rest)))) same
tree_taken (Block line turns body tree) opened read rest fit within few =
    let inside : depth body + length ((read + 1) ∷ opened) ≤ 32 = omega (arith, few) in
    let outside : depth tree + length opened ≤ 32 = omega (arith, few) in
    let room : length opened < 32 = omega (arith, inside) in
    let end : read + 1 + line_count body + 1 ≡ read + 2 + line_count body = omega arith in
    let same : read + 2 + line_count body + line_count tree ≡ read + (2 + line_count body + line_count tree) = omega arith in
    let behind : List ℕ = 125 ∷ 10 ∷ (circuit_text tree ++ rest) in
    let body_items : List Item = items_of (with_lines_after (read + 1) body) in
    let last_items : List Item = items_of (with_lines_after (read + 2 + line_count body) tree) in
    ap (λ text. items_from circuits opened read (lines_of text))
    (append_assoc (opening_text turns) (10 ∷ (circuit_text body ++ 125 ∷ 10 ∷ circuit_text tree)) rest
    ∙ ap (λ text. opening_text turns ++ 10 ∷ text) (append_assoc (circuit_text body) (125 ∷ 10 ∷ circuit_text tree) rest))
    ∙ block_begun opened read turns (circuit_text body ++ behind) (fit.0, within.0) room
    ∙ ap (before (BlockStart (read + 1) turns))
    (tree_taken body ((read + 1) ∷ opened) (read + 1) behind fit.1 within.1 inside
    ∙ ap (after body_items)
    (block_ended (read + 1) opened (read + 1 + line_count body) (circuit_text tree ++ rest)
    ∙ ap (λ n. before BlockEnd (items_from circuits opened n (lines_of (circuit_text tree ++ rest)))) end
    ∙ ap (before BlockEnd) (tree_taken tree opened (read + 2 + line_count body) rest fit.2 within.2 outside
    ∙ ap (λ n. after last_items (items_from circuits opened n (lines_of rest))) same))
    ∙ sym (after-append body_items (BlockEnd ∷ last_items) (items_from circuits opened (read + (2 + line_count body + line_count tree)) (lines_of rest))))

-- ---- the text

nothing_left : (read : ℕ) → items_from circuits [] read (lines_of []) ≡ Ok []
unfolding items_from lines_of
nothing_left read = refl

pub circuit_is_written : (tree : Tree) → IsCircuit tree → Writes (circuit_text tree) (with_lines tree)
circuit_is_written tree circuit =
    let few : depth tree + length {A = ℕ} [] ≤ 32 = omega (arith, circuit.shallow) in
    let items : List Item = items_of (with_lines tree) in
    ap (λ text. items_in text) (sym (append-nil (circuit_text tree)))
    ∙ tree_taken tree [] 0 [] circuit.fit circuit.turns_within few
    ∙ ap (after items) (nothing_left (0 + line_count tree))
    ∙ after-ok items []
    ∙ ap (λ (is : List Item). Ok is) (append-nil items)
