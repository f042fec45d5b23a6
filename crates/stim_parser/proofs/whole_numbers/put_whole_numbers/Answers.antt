use Rattle.std.proofs.Common.{◌≡◌, ◌∷◌, ◌∙◌, ℕ, List, Bor, Option, [], ap, arith, false, map, subst, sym}
use Rattle.std.specs.List.{slice_split}
use Rattle.std.proofs.lemmas.Bool.{eqb-true}
use Rattle.std.proofs.lemmas.List.{length-map}
use Rattle.std.proofs.lemmas.List.Splits.{length-slice_split}
use Rattle.stim_parser.specs.declared.forms.ArgumentForm.TheVariants.{WholeNumbers}
use Rattle.stim_parser.specs.Arguments.{is_comma, parts_of, trimmed}
use Rattle.stim_parser.specs.Coordinates.{is_whole_number}
use Rattle.stim_parser.specs.Limits.{has_wrong_arguments}
use Rattle.stim_parser.specs.Numbers.{whole_value}
use Rattle.stim_parser.proofs.ArgumentLemmas.{arguments_in-none, arguments_in-some}
use Rattle.stim_parser.proofs.WholeNumberLemmas.{Reads, reads-first, reads-wrong, reads-many, reads-done}
use Rattle.stim_parser.proofs.whole_numbers.put_whole_numbers.Goals as goal

pub returns-then-is_empty : goal.returns-then-is_empty
returns-then-is_empty c =
    let none = arguments_in-none c.args.text.now c.after_blanks.result.now c.is_empty.result c.after_blanks.ensures c.is_empty.ensures c.if-is_empty.true in (
      ap (has_wrong_arguments WholeNumbers) none ∙ (reads-done [] [] (reads-first [])).0,
      c.clear.ensures ∙ sym (ap (map whole_value) none),
    )

pub returns-then-is_full : goal.returns-then-is_full
returns-then-is_full c =
    let all = map trimmed (slice_split is_comma c.args.text.now) in
    let left = slice_split is_comma c.in-Some.part.now in
    let found = c.loop-rest.found.items in
    let h : Reads all (map trimmed left) found =
    subst (λ (rest : Option (Bor (List ℕ))). Reads all (map trimmed (parts_of rest)) found) c.in-Some.is c.loop-rest.invariant in
    ap (has_wrong_arguments WholeNumbers)
    (arguments_in-some c.args.text.now c.after_blanks.result.now c.is_empty.result c.after_blanks.ensures c.is_empty.ensures c.if-is_empty.false)
    ∙ reads-many all (map trimmed left) found h (omega (arith, length-map left trimmed, length-slice_split is_comma c.in-Some.part.now))
    (eqb-true _ _ (sym c.is_full.ensures.value ∙ c.if-is_full.true))

pub returns-in_default-whole_number_of : goal.returns-in_default-whole_number_of
returns-in_default-whole_number_of c =
    let all = map trimmed (slice_split is_comma c.args.text.now) in
    let found = c.loop-rest.found.items in
    let first = c.cut_at_comma.result.0.now in
    let behind = parts_of c.cut_at_comma.result.1 in
    let left : parts_of c.loop-rest.rest ≡ first ∷ behind =
    ap (λ (rest : Option (Bor (List ℕ))). parts_of rest) c.in-Some.is ∙ c.cut_at_comma.ensures.parts in
    let h : Reads all (trimmed first ∷ map trimmed behind) found =
    subst (λ (parts : List (List ℕ)). Reads all (map trimmed parts) found) left c.loop-rest.invariant in
    let wrong : is_whole_number (trimmed first) ≡ false =
    ap (λ (text : List ℕ). is_whole_number text) (sym c.trimmed.ensures) ∙ c.in_default-whole_number_of.ensures in
    ap (has_wrong_arguments WholeNumbers)
    (arguments_in-some c.args.text.now c.after_blanks.result.now c.is_empty.result c.after_blanks.ensures c.is_empty.ensures c.if-is_empty.false)
    ∙ reads-wrong all (map trimmed behind) (trimmed first) found h wrong

pub returns : goal.returns
returns c =
    let all = map trimmed (slice_split is_comma c.args.text.now) in
    let found = c.loop-rest.found.items in
    let h : Reads all [] found =
    subst (λ (rest : Option (Bor (List ℕ))). Reads all (map trimmed (parts_of rest)) found) c.in_default.is c.loop-rest.invariant in
    let done = reads-done all found h in
    let some = arguments_in-some c.args.text.now c.after_blanks.result.now c.is_empty.result c.after_blanks.ensures c.is_empty.ensures c.if-is_empty.false in (
      ap (has_wrong_arguments WholeNumbers) some ∙ done.0,
      done.1 ∙ sym (ap (map whole_value) some),
    )
