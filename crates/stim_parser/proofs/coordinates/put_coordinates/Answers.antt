use Rattle.std.proofs.Common.{◌≡◌, List, ℤ, true, false, map, ap, sym, ◌∙◌}
use Rattle.std.specs.Prelude.{nat_abs, nat_lt}
use Rattle.std.specs.List.{list_any}
use Rattle.std.proofs.lemmas.Bool.{MatchBool-at_false, MatchBool-at_true}
use Rattle.stim_parser.specs.declared.forms.ArgumentForm.TheVariants.{WholeNumbers}
use Rattle.stim_parser.specs.Arguments.{arguments_in}
use Rattle.stim_parser.specs.Limits.{has_argument_beyond, has_wrong_arguments}
use Rattle.stim_parser.specs.Numbers.{greatest_coordinate, whole_value}
use Rattle.stim_parser.proofs.WholeNumberLemmas.{any-beyond, coordinates-none, told}
use Rattle.stim_parser.proofs.coordinates.put_coordinates.Goals as goal

pub returns-then-not-put_whole_numbers : goal.returns-then-not-put_whole_numbers
returns-then-not-put_whole_numbers c =
    sym (coordinates-none (arguments_in c.args.text.now)
    (MatchBool-at_false ((has_wrong_arguments WholeNumbers (arguments_in c.args.text.now) ≡ false) × (c.put_whole_numbers.new.found.items ≡ map whole_value (arguments_in c.args.text.now))) _ c.if-not-put_whole_numbers.true c.put_whole_numbers.ensures))

pub returns : goal.returns
returns c =
    let arguments = arguments_in c.args.text.now in
    let read = MatchBool-at_true _ (has_wrong_arguments WholeNumbers arguments ≡ true) c.if-not-put_whole_numbers.false c.put_whole_numbers.ensures in
    let beyond : has_argument_beyond greatest_coordinate WholeNumbers arguments ≡ c.are_beyond.result =
    sym (c.are_beyond.ensures
    ∙ ap (λ (numbers : List ℤ). list_any (λ number. nat_lt greatest_coordinate (nat_abs number)) numbers) (c.as_slice.ensures.value ∙ read.1)
    ∙ any-beyond greatest_coordinate arguments) in
    told arguments c.put_whole_numbers.new.found.items c.are_beyond.result read.1 read.0 beyond
