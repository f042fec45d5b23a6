-- A text of instructions, one a line, in no block and with no shift among them, means what these instructions say.
use Rattle.std.proofs.Common.{◌≡◌, ℕ, ◌+◌, Bool, true, false, cond, if◌then◌else◌, max, ℤ, List, [], ◌∷◌, ◌++◌, map, Ok, refl, ap, ◌∙◌}
use Rattle.std.proofs.Math.Path.{fun_ext}
use Rattle.std.specs.Prelude.{All}
use Rattle.std.proofs.lemmas.List.Elements.{All-head, All-tail}
use Rattle.std.specs.List.{filter, range_with_len}
use Rattle.stim_lexer.specs.Lines.{lines_of}
use Rattle.stim_lexer.specs.Texts.{before, items_from}
use Rattle.dem_text.specs.declared.target.Target.{Target}
use Rattle.dem_text.specs.Fitting.{Fits}
use Rattle.dem_text.specs.Texts.{models}
use Rattle.stim_lexer.specs.Trees.{InstructionLine}
use Rattle.dem_text.specs.Verdicts.{Instruction}
use Rattle.dem_text.specs.Meanings.{detectors_to, observables_to, detector_count, error_line, error_lines, gives_coordinates, is_error, last_coordinates, meaning_of, observable_count}
use Rattle.stim_lexer.specs.Reached.{greatest_by}
use Rattle.dem_text.specs.Models.{model_in}
use Rattle.dem_text.specs.Shifts.{Placed, no_shift, shift_after}
use Rattle.dem_text.proofs.ChainLemmas.{AllStay, chain_means, placed}
use Rattle.stim_parser.proofs.ArgumentTexts.{AreWords}
use Rattle.stim_parser.proofs.CutLemmas.{lines_of-line}
use Rattle.dem_text.proofs.InstructionTexts.{instruction, instruction_line}
use Rattle.dem_text.proofs.LineCutLemmas.{line_is_cut}
use Rattle.dem_text.proofs.LineReadLemmas.{reading_found, targets_are_words}

-- ---- instructions that are written

-- an instruction that fits and shifts nothing, whose arguments are words
pub record CanStand (i : Instruction) : Type 0 where
  pub words : AreWords i.arguments
  pub fits : Fits i
  pub stays : shift_after i no_shift ≡ no_shift

-- their text
abbrev pub text_of : List Instruction → List ℕ
text_of [] = []
text_of (i ∷ instructions) = instruction_line i.operation i.arguments i.targets ++ 10 ∷ text_of instructions

abbrev at_line : ℕ → Instruction → Instruction
at_line number i = instruction number i.operation i.arguments i.targets

-- they with the numbers of their lines, of which so many came before
abbrev pub numbered : ℕ → List Instruction → List Instruction
numbered read [] = []
numbered read (i ∷ instructions) = at_line (read + 1) i ∷ numbered (read + 1) instructions

fits_at : (number : ℕ) (i : Instruction) → Fits i → Fits (at_line number i)
fits_at number i fits =
    record {
      arguments = fits.arguments;
      probability = fits.probability;
      arguments_within = fits.arguments_within;
      targets = fits.targets;
      targets_within = fits.targets_within;
    }

numbered_stay : (read : ℕ) (instructions : List Instruction) → All CanStand instructions → AllStay (numbered read instructions)
numbered_stay read [] h = tt
numbered_stay read (i ∷ instructions) h = ((All-head CanStand i instructions h).stays, numbered_stay (read + 1) instructions (All-tail CanStand i instructions h))

-- ---- their items

next_item : (read : ℕ) (i : Instruction) (lines : List (List ℕ)) → CanStand i
    → items_from models [] read (instruction_line i.operation i.arguments i.targets ∷ lines) ≡ before (InstructionLine (at_line (read + 1) i)) (items_from models [] (read + 1) lines)
unfolding items_from
next_item read i lines h =
    let cut = line_is_cut i.operation i.arguments i.targets h.words (targets_are_words i.targets h.fits.targets_within) in
    let speaks = cut.speaks in
    let good = cut.good in
    let cut_is = cut.cut_is in
    rw (speaks, good, cut_is, reading_found (read + 1) i.operation i.arguments i.targets h.words (fits_at (read + 1) i h.fits)) refl

no_items : (read : ℕ) → items_from models [] read (lines_of []) ≡ Ok []
unfolding items_from lines_of
no_items read = refl

items_read : (read : ℕ) (instructions : List Instruction) → All CanStand instructions → items_from models [] read (lines_of (text_of instructions)) ≡ Ok (map InstructionLine (numbered read instructions))
items_read read [] h = no_items read
items_read read (i ∷ instructions) h =
    let here = All-head CanStand i instructions h in
    let cut = line_is_cut i.operation i.arguments i.targets here.words (targets_are_words i.targets here.fits.targets_within) in
    ap (items_from models [] read) (lines_of-line (instruction_line i.operation i.arguments i.targets) (text_of instructions) cut.one)
    ∙ next_item read i (lines_of (text_of instructions)) here
    ∙ ap (before (InstructionLine (at_line (read + 1) i))) (items_read (read + 1) instructions (All-tail CanStand i instructions h))

-- ---- the numbers of lines say nothing

-- the greatest count of the targets of lines, or 0
abbrev pub greatest_over : (Target → ℕ) → List Placed → ℕ
greatest_over count lines = greatest_by (λ placed. greatest_by count placed.targets) lines

greatest-numbered : (count : Target → ℕ) (read : ℕ) (instructions : List Instruction) → greatest_over count (map placed (numbered read instructions)) ≡ greatest_over count (map placed instructions)
greatest-numbered count read [] = refl
greatest-numbered count read (i ∷ instructions) = ap (λ n. max (greatest_by count i.targets) n) (greatest-numbered count (read + 1) instructions)

errors-numbered : (detectors observables read : ℕ) (instructions : List Instruction) → error_lines detectors observables (map placed (numbered read instructions)) ≡ error_lines detectors observables (map placed instructions)
errors-numbered detectors observables read [] = refl
errors-numbered detectors observables read (i ∷ instructions) =
    by (is_error i.operation) (filter (λ p. is_error p.operation) (map placed (numbered (read + 1) instructions))) (filter (λ p. is_error p.operation) (map placed instructions)) (errors-numbered detectors observables (read + 1) instructions)
  where
    by : (b : Bool) (ps qs : List Placed) → map (error_line detectors observables) ps ≡ map (error_line detectors observables) qs
        → map (error_line detectors observables) (cond b (placed (at_line (read + 1) i) ∷ ps) ps) ≡ map (error_line detectors observables) (cond b (placed i ∷ qs) qs)
    by true ps qs h = ap (λ lines. error_line detectors observables (placed i) ∷ lines) h
    by false ps qs h = h

coordinates-numbered : (d : ℕ) (found : List ℤ) (read : ℕ) (instructions : List Instruction) → last_coordinates d found (map placed (numbered read instructions)) ≡ last_coordinates d found (map placed instructions)
unfolding last_coordinates
coordinates-numbered d found read [] = refl
coordinates-numbered d found read (i ∷ instructions) =
    coordinates-numbered d (if gives_coordinates d (placed i) then (placed i).coordinates else found) (read + 1) instructions

meaning-numbered : (read : ℕ) (instructions : List Instruction) → meaning_of (map placed (numbered read instructions)) ≡ meaning_of (map placed instructions)
meaning-numbered read instructions =
    let lines = map placed (numbered read instructions) in
    let same = map placed instructions in
    let detectors : detector_count lines ≡ detector_count same = greatest-numbered detectors_to read instructions in
    let observables : observable_count lines ≡ observable_count same = greatest-numbered observables_to read instructions in
    let coordinates = ap (λ (f : ℕ → List ℤ). map f (range_with_len 0 (detector_count same))) (fun_ext (λ d. coordinates-numbered d [] read instructions)) in
    rw (detectors, observables, errors-numbered (detector_count same) (observable_count same) read instructions, coordinates) refl

-- ---- the text

pub text_means : (instructions : List Instruction) → All CanStand instructions → model_in (text_of instructions) ≡ Ok (meaning_of (map placed instructions))
text_means instructions h =
    chain_means (text_of instructions) (numbered 0 instructions) (numbered_stay 0 instructions h) (items_read 0 instructions h)
    ∙ ap Ok (meaning-numbered 0 instructions)
