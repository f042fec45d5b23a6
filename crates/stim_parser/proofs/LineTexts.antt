-- The line of an instruction that fits, and the lines that begin and end a block, are read as what they say.
use Rattle.std.proofs.Common.{◌≡◌, ℕ, ◌<◌, ◌==◌, nat_le, true, false, not, ◌&&◌, List, [], ◌∷◌, ◌++◌, Some, decimal, codes, refl, ap, subst, sym, append_assoc, inl, inr, arith}
use Rattle.std.specs.Prelude.{nat_lt}
use Rattle.std.proofs.lemmas.Bool.{cases_Bool, ne_eqb}
use Rattle.stim_lexer.specs.declared.line.Braces.TheVariants.{OpeningLast}
use Rattle.stim_lexer.specs.Bytes.{after_blanks, is_empty}
use Rattle.stim_lexer.specs.Cut.{Cut, cut_of, has_bad_byte, has_opening}
use Rattle.stim_lexer.specs.Lines.{says_nothing}
use Rattle.stim_lexer.specs.Fitting.{IsTurns}
use Rattle.stim_lexer.specs.Texts.{Accepts, Opens, Closes}
use Rattle.stim_parser.specs.declared.forms.TargetForm.{TargetForm}
use Rattle.stim_parser.specs.declared.operation.Operation.{Operation}
use Rattle.stim_parser.specs.declared.table.Keyword.TheVariants.{Does}
use Rattle.stim_parser.specs.declared.target.Target.{Target}
use Rattle.stim_parser.specs.Circuits.{Fits}
use Rattle.stim_parser.specs.Instructions.{argument_form, keyword_named, target_form}
use Rattle.stim_parser.specs.Judging.{judged, reading_of, refusal_of}
use Rattle.stim_parser.specs.Limits.{has_target_beyond, has_wrong_arguments, has_wrong_probability, has_wrong_count, has_same_qubit, are_of_form}
use Rattle.stim_parser.specs.Numbers.{greatest_number}
use Rattle.stim_parser.specs.Arguments.{arguments_in}
use Rattle.stim_parser.specs.Targets.{targets_in}
use Rattle.stim_parser.specs.Verdicts.{Instruction, circuit_table, line_targets, takes_none}
use Rattle.stim_parser.specs.Written.{at_line, instruction_text, joined_arguments, opening_text, operation_name, targets_text}
use Rattle.stim_parser.proofs.ArgumentTexts.{AreWords, arguments_are_words, arguments_read, no_closing, plain_joined}
use Rattle.stim_parser.proofs.LineCutLemmas.{IsCut, arguments_cut, cut_parts, cut_with, opening_cut, targets_cut}
use Rattle.stim_parser.proofs.NameTexts.{is_name, keyword_found}
use Rattle.stim_parser.proofs.TargetTexts.{AreWithin, apart, begins_target, are_within, no_opening, no_parenthesis, no_tag, plain_targets, plain_turns, targets_read, turns_begin, turns_read, turns_text}

-- ---- the line of an instruction

abbrev pub instruction_cut : Instruction → Cut
instruction_cut i = cut_with (operation_name i.operation) false (joined_arguments i.arguments) (targets_text i.targets)

parts_cut : (o : Operation) (line : ℕ) (arguments : List (List ℕ)) (targets : List Target) → AreWords arguments → AreWithin targets
    → (let i : Instruction = record { line = line; operation = o; arguments = arguments; targets = targets } in IsCut (instruction_text i) (instruction_cut i))
parts_cut o line [] targets h k =
    targets_cut (operation_name o) (targets_text targets) (is_name o) (plain_targets targets k) (apart targets) (no_tag targets k) (no_parenthesis targets k)
parts_cut o line (a ∷ arguments) targets h k =
    subst
    (λ text. IsCut (operation_name o ++ 40 ∷ text) (cut_with (operation_name o) false (joined_arguments (a ∷ arguments)) (targets_text targets)))
    (sym (append_assoc (joined_arguments (a ∷ arguments)) (41 ∷ []) (targets_text targets)))
    (arguments_cut (operation_name o) (joined_arguments (a ∷ arguments)) (targets_text targets) (is_name o) (plain_joined (a ∷ arguments) h) (no_closing (a ∷ arguments) h) (plain_targets targets k))

words_of : (i : Instruction) → Fits i → AreWords i.arguments
words_of i fits = arguments_are_words (argument_form (Does i.operation)) i.arguments fits.arguments fits.probability

within : (i : Instruction) → Fits i → AreWithin i.targets
within i fits = are_within (target_form (Does i.operation)) i.targets fits.targets_within

pub instruction_is_cut : (i : Instruction) → Fits i → IsCut (instruction_text i) (instruction_cut i)
instruction_is_cut i fits = parts_cut i.operation i.line i.arguments i.targets (words_of i fits) (within i fits)

found_as : (form : TargetForm) (targets : List Target) → (takes_none form ≡ true → targets ≡ []) → targets_in (targets_text targets) ≡ Some targets
    → line_targets form (targets_text targets) ≡ Some targets
unfolding line_targets
found_as form targets none read =
    elim (cases_Bool (takes_none form)) [
      | inl e ↦ let empty = none e in rw e (ap Some (sym empty))
      | inr e ↦ rw e read
    ]

nothing_there : (form : TargetForm) (targets : List Target) → (takes_none form ≡ true → targets ≡ []) → (takes_none form && not (is_empty (after_blanks (targets_text targets)))) ≡ false
nothing_there form targets none =
    elim (cases_Bool (takes_none form)) [
      | inl e ↦ let empty = none e in rw (e, empty) refl
      | inr e ↦ rw e refl
    ]

pub instruction_read : (depth number : ℕ) (i : Instruction) → Fits i → reading_of circuit_table depth number (instruction_cut i) ≡ Accepts (at_line number i)
unfolding reading_of judged refusal_of
instruction_read depth number i fits =
    let arguments = fits.arguments in
    let probability = fits.probability in
    let arguments_within = fits.arguments_within in
    let form = fits.targets in
    let targets_within = fits.targets_within in
    let count = fits.count in
    let different = fits.different in
    let targets = found_as (target_form (Does i.operation)) i.targets fits.no_targets (targets_read i.targets (within i fits) fits.targets_written) in
    let nothing = nothing_there (target_form (Does i.operation)) i.targets fits.no_targets in
    rw (keyword_found i.operation fits.operation_written, arguments_read i.arguments (words_of i fits), targets, arguments, probability, arguments_within, form, targets_within, nothing, count, different) refl

-- ---- the line that begins a block

abbrev pub opening_line_cut : ℕ → Cut
opening_line_cut n = cut_parts (codes "REPEAT") false [] (turns_text n) OpeningLast

below : (n : ℕ) → IsTurns n → n < 1_000_000_000_000_000_000
below n h = omega (arith, h.1)

pub opening_is_cut : (n : ℕ) → IsTurns n → IsCut (opening_text n) (opening_line_cut n)
opening_is_cut n h =
    let same : (decimal n ++ 32 ∷ []) ++ 123 ∷ [] ≡ decimal n ++ 32 ∷ 123 ∷ [] = append_assoc (decimal n) (32 ∷ []) (123 ∷ []) in
    let no_opening_of : (c : ℕ) → begins_target c ≡ false → has_opening (λ b. b == c) (turns_text n ++ 123 ∷ []) ≡ false =
    λ c k. subst (λ text. has_opening (λ b. b == c) (32 ∷ text) ≡ false) (sym same) (no_opening c k (decimal n) (32 ∷ 123 ∷ []) (turns_begin n (below n h))) in
    subst (λ text. IsCut (codes "REPEAT" ++ 32 ∷ text) (opening_line_cut n)) same
    (opening_cut (codes "REPEAT") (turns_text n) (refl, refl) (plain_turns n (below n h)) refl (no_opening_of 91 refl) (no_opening_of 40 refl))

pub opening_read : (depth number n : ℕ) → IsTurns n → depth < 32 → reading_of circuit_table depth number (opening_line_cut n) ≡ Opens n
unfolding reading_of judged refusal_of keyword_named line_targets arguments_in has_wrong_arguments has_wrong_probability are_of_form has_target_beyond has_wrong_count has_same_qubit
opening_read depth number n h few =
    let some : (n == 0) ≡ false = ne_eqb n 0 (λ e. absurd (omega (arith, h.0, e))) in
    let within : nat_lt greatest_number n ≡ false = grind (arith, h.1) in
    let room : nat_le 32 depth ≡ false = grind (arith, few) in
    rw (turns_read n (below n h), some, within, room) refl

-- ---- the line that ends a block

abbrev pub closing_line : List ℕ
closing_line = 125 ∷ []

pub closing_is_cut : IsCut closing_line (cut_of closing_line)
unfolding says_nothing has_bad_byte
closing_is_cut = record { speaks = refl; good = refl; one = refl; cut_is = refl }

pub closing_read : (depth number : ℕ) → 0 < depth → reading_of circuit_table depth number (cut_of closing_line) ≡ Closes
unfolding reading_of cut_of
closing_read depth number some =
    let other : (depth == 0) ≡ false = ne_eqb depth 0 (λ e. absurd (omega (arith, some, e))) in rw other refl
