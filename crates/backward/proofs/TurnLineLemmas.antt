-- The error lines of a turn, kept, and those of the turns before it.
use Rattle.std.proofs.Common.{◌≡◌, ℕ, suc, ◌+◌, ◌*◌, ◌<◌, ◌==◌, false, List, [], ◌∷◌, ◌++◌, length, get_or, take, refl, ap, ap₂, subst, sym, ◌∙◌, append_assoc, arith, length-take}
use Rattle.std.specs.Prelude.{All, Result, Ok, Err, OnOk, reverse}
use Rattle.std.specs.List.{flat_map}
use Rattle.std.proofs.lemmas.Grind.{flat_map-append}
use Rattle.std.proofs.lemmas.List.{append-nil, reverse-append, reverse-reverse, take_more}
use Rattle.error_models.specs.HeldText.{Held, HoldsLines}
use Rattle.error_models.specs.ModelText.{line_text}
use Rattle.circuit_walk.specs.Programs.{KeptProgram}
use Rattle.step_model.specs.Chances.{chance_at}
use Rattle.step_model.specs.ErrorModels.{ErrorLine}
use Rattle.step_model.specs.Targets.{targets_of}
use Rattle.std.proofs.lemmas.List.Elements.{All-append, All-cons, All-head, All-nil, All-tail}
use Rattle.backward.specs.declared.moved.Shift.{Shift}
use Rattle.backward.specs.private.MovedTargets.{IsClear, moved_list}
use Rattle.backward.specs.private.Stretches.{Gives, line_for}
use Rattle.backward.specs.private.TurnLines.{AreClear, AreKeptLines, GivesTurns, KeptLines, kept_lines, moved_error_lines, turn_lines, turns_text}
use Rattle.backward.proofs.LentHits.{line_for_some}
use Rattle.backward.proofs.MovedLemmas.{below-moved_list}
use Rattle.backward.proofs.PassLines.{reverse_line}

-- ---- lines that are kept
kept_lines-append : (program : KeptProgram) (chances more : List ℕ) (lists rest : List (List ℕ)) → length chances ≡ length lists
    → kept_lines program (chances ++ more) (lists ++ rest) ≡ kept_lines program chances lists ++ kept_lines program more rest
kept_lines-append program [] more [] rest e = refl
kept_lines-append program [] more (targets ∷ lists) rest e = absurd (omega (arith, e))
kept_lines-append program (chance ∷ chances) more [] rest e = absurd (omega (arith, e))
kept_lines-append program (chance ∷ chances) more (targets ∷ lists) rest e =
    ap (λ (l : List ErrorLine). record { text = (chance_at program.chances chance).text; targets = targets } ∷ l) (kept_lines-append program chances more lists rest (omega (arith, e)))

-- one more behind the others
pub keeps_more : {T E : Type 0} (kept : KeptLines) (program : KeptProgram) (chances new_chances : List ℕ) (lists new_lists : List (List ℕ)) (chance : ℕ) (targets : List ℕ) (r : Result T E)
    → record { program = program; lines = kept_lines program chances lists } ≡ kept → length chances ≡ length lists → OnOk r (new_chances ≡ chances ++ chance ∷ []) → OnOk r (new_lists ≡ lists ++ targets ∷ [])
    → OnOk r (Gives (λ lines. kept.lines ≡ lines) (λ lines. kept_lines program new_chances new_lists ≡ lines) (record { text = (chance_at kept.program.chances chance).text; targets = targets } ∷ []))
keeps_more kept program chances new_chances lists new_lists chance targets (Ok x) view counted more named = λ lines h.
    ap₂ (kept_lines program) more named
    ∙ (kept_lines-append program chances (chance ∷ []) lists (targets ∷ []) counted
    ∙ ap₂ (λ (l : List ErrorLine) (p : KeptProgram). l ++ record { text = (chance_at p.chances chance).text; targets = targets } ∷ []) (ap (λ (k : KeptLines). k.lines) view ∙ h) (ap (λ (k : KeptLines). k.program) view))
keeps_more kept program chances new_chances lists new_lists chance targets (Err e) view counted more named = tt

-- the targets of a line, moved, are the program's
pub named_moved : (program : KeptProgram) (chances : List ℕ) (lists : List (List ℕ)) (detectors by i : ℕ) (moved : List ℕ) → AreKeptLines program chances lists → i < length chances → moved ≡ moved_list detectors by (get_or lists i [])
    → All (λ t. t < length (targets_of program.listing)) moved
named_moved program chances lists detectors by i moved fits within e =
    let P : List ℕ → Type 0 = All (λ t. t < length (targets_of program.listing)) in
    subst P (sym e) (below-moved_list detectors (length (targets_of program.listing)) by (get_or lists i []) (fits.named i [] (omega (arith, fits.counted, within))))

-- ---- lines of a turn before
-- a line that is left without targets
pub line_of_none : (text targets : List ℕ) → length targets ≡ 0 → line_for text targets ≡ []
line_of_none text [] none = refl
line_of_none text (t ∷ targets) none = absurd (omega (arith, none))

pub moved_error_lines-append : (detectors by : ℕ) (lines more : List ErrorLine) → moved_error_lines detectors by (lines ++ more) ≡ moved_error_lines detectors by lines ++ moved_error_lines detectors by more
moved_error_lines-append detectors by [] more = refl
moved_error_lines-append detectors by (line ∷ lines) more =
    let first : List ErrorLine = line_for line.text (moved_list detectors by line.targets) in
    ap (λ (l : List ErrorLine). first ++ l) (moved_error_lines-append detectors by lines more) ∙ sym (append_assoc first (moved_error_lines detectors by lines) (moved_error_lines detectors by more))

-- one line more
pub moved_more_lines : (program : KeptProgram) (chances : List ℕ) (lists : List (List ℕ)) (detectors by i : ℕ) → AreKeptLines program chances lists → i < length chances
    → moved_error_lines detectors by (kept_lines program (take (i + 1) chances) (take (i + 1) lists))
    ≡ moved_error_lines detectors by (kept_lines program (take i chances) (take i lists)) ++ line_for (chance_at program.chances (get_or chances i 0)).text (moved_list detectors by (get_or lists i []))
moved_more_lines program chances lists detectors by i fits within =
    let long : i < length lists = omega (arith, fits.counted, within) in
    let as_long : length (take i chances) ≡ length (take i lists) = omega (arith, length-take i chances, length-take i lists, fits.counted) in
    let line : ErrorLine = record { text = (chance_at program.chances (get_or chances i 0)).text; targets = get_or lists i [] } in
    let before : List ErrorLine = kept_lines program (take i chances) (take i lists) in
    ap (moved_error_lines detectors by) (ap₂ (kept_lines program) (take_more chances i 0 within) (take_more lists i [] long) ∙ kept_lines-append program (take i chances) (get_or chances i 0 ∷ []) (take i lists) (get_or lists i [] ∷ []) as_long)
    ∙ (moved_error_lines-append detectors by before (line ∷ [])
    ∙ ap (λ (l : List ErrorLine). moved_error_lines detectors by before ++ l) (append-nil (line_for line.text (moved_list detectors by line.targets))))

-- ---- lines that are given, one after another
pub gives_then : (first old new : List ErrorLine → Type 0) (early late : List ErrorLine) → Gives first old early → Gives old new late → Gives first new (early ++ late)
gives_then first old new early late before after = λ lines h. subst new (append_assoc lines early late) (after (lines ++ early) (before lines h))

-- a line that was given, where it is left with targets, is that of the moved ones
pub line_given : (before after : List ErrorLine → Type 0) (program kept : KeptProgram) (chance number : ℕ) (targets moved : List ℕ) → kept ≡ program → number ≡ chance → targets ≡ moved → (length targets == 0) ≡ false
    → Gives before after (record { text = (chance_at kept.chances number).text; targets = targets } ∷ []) → Gives before after (line_for (chance_at program.chances chance).text moved)
line_given before after program kept chance number targets moved p e t some gives =
    subst (Gives before after)
    (line_for_some (chance_at kept.chances number).text targets some ∙ (ap₂ (λ (p : KeptProgram) (e : ℕ). line_for (chance_at p.chances e).text targets) p e ∙ ap (line_for (chance_at program.chances chance).text) t))
    gives

-- ---- lines of some turns
pub moved_error_lines-reverse : (detectors by : ℕ) (lines : List ErrorLine) → reverse (moved_error_lines detectors by lines) ≡ moved_error_lines detectors by (reverse lines)
moved_error_lines-reverse detectors by [] = refl
moved_error_lines-reverse detectors by (line ∷ lines) =
    let first : List ErrorLine = line_for line.text (moved_list detectors by line.targets) in
    reverse-append first (moved_error_lines detectors by lines)
    ∙ (ap₂ (λ (a b : List ErrorLine). a ++ b) (moved_error_lines-reverse detectors by lines) (reverse_line line.text (moved_list detectors by line.targets) ∙ sym (append-nil first))
    ∙ (sym (moved_error_lines-append detectors by (reverse lines) (line ∷ [])) ∙ ap (moved_error_lines detectors by) (sym (reverse-append (line ∷ []) lines))))

-- one turn more
pub one_turn_more : (first old new : List ErrorLine → Type 0) (detectors by low k : ℕ) (lines : List ErrorLine) → GivesTurns first old detectors by low k lines → Gives old new (moved_error_lines detectors ((k + 1) * by) lines)
    → GivesTurns first new detectors by low (k + 1) lines
one_turn_more first old new detectors by low k lines before after =
    let moved : List ErrorLine = moved_error_lines detectors ((k + 1) * by) lines in
    let next : k + 1 ≡ suc k = omega arith in
    record {
      more = before.more ++ moved;
      gives = gives_then first old new before.more moved before.gives after;
      turns = ap (λ (l : List ErrorLine). l ++ turn_lines detectors by low (reverse lines)) (reverse-append before.more moved)
          ∙ (append_assoc (reverse moved) (reverse before.more) (turn_lines detectors by low (reverse lines))
          ∙ (ap₂ (λ (a b : List ErrorLine). a ++ b) (moved_error_lines-reverse detectors ((k + 1) * by) lines) before.turns
          ∙ (ap (λ (n : ℕ). moved_error_lines detectors (n * by) (reverse lines) ++ turn_lines detectors by k (reverse lines)) next ∙ ap (λ (n : ℕ). turn_lines detectors by n (reverse lines)) (sym next))));
    }

-- the text of some of them stands before that of the rest
pub text_of_turns : (kept : KeptLines) (staying by low k : ℕ) (old : List ErrorLine → Type 0) (held : Held) → GivesTurns old (HoldsLines held) staying by low k kept.lines → old [] → held.detectors ≡ length kept.program.listing.detectors
    → held.text ++ turns_text kept staying by low ≡ turns_text kept staying by k
text_of_turns kept staying by low k old held given none counted =
    let detectors : ℕ = length kept.program.listing.detectors in
    ap (λ (l : List ℕ). l ++ turns_text kept staying by low) (given.gives [] none ∙ ap (λ (d : ℕ). flat_map (line_text d) (reverse given.more)) counted)
    ∙ (sym (flat_map-append (line_text detectors) (reverse given.more) (turn_lines staying by low (reverse kept.lines))) ∙ ap (flat_map (line_text detectors)) given.turns)

-- lines are clear where their targets are
pub clear-kept : (s : Shift) (program : KeptProgram) (chances : List ℕ) (lists : List (List ℕ)) → All (IsClear s) lists → AreClear s (kept_lines program chances lists)
clear-kept s program [] lists clear = All-nil (λ (line : ErrorLine). IsClear s line.targets)
clear-kept s program (chance ∷ chances) [] clear = All-nil (λ (line : ErrorLine). IsClear s line.targets)
clear-kept s program (chance ∷ chances) (targets ∷ lists) clear =
    All-cons (λ (line : ErrorLine). IsClear s line.targets) (record { text = (chance_at program.chances chance).text; targets = targets }) (kept_lines program chances lists)
    (All-head (IsClear s) targets lists clear) (clear-kept s program chances lists (All-tail (IsClear s) targets lists clear))

all_reversed : {X : Type 0} (P : X → Type 0) (xs : List X) → All P xs → All P (reverse xs)
all_reversed P [] all = all
all_reversed P (x ∷ xs) all =
    subst (All P) (sym (reverse-append (x ∷ []) xs)) (All-append P (reverse xs) (x ∷ []) (all_reversed P xs (All-tail P x xs all)) (All-cons P x [] (All-head P x xs all) (All-nil P)))

pub clear-reverse : (s : Shift) (lines : List ErrorLine) → AreClear s (reverse lines) → AreClear s lines
clear-reverse s lines clear =
    subst (AreClear s) (reverse-reverse lines) (all_reversed (λ (line : ErrorLine). IsClear s line.targets) (reverse lines) clear)
