use Rattle.std.proofs.Common.{◌≡◌, List, ℤ, true, false, map, ap, ◌∙◌}
use Rattle.std.specs.Prelude.{nat_abs, nat_lt}
use Rattle.std.specs.List.{list_any}
use Rattle.std.proofs.lemmas.Bool.{MatchBool-at_false, MatchBool-at_true}
use Rattle.stim_parser.specs.declared.forms.ArgumentForm.TheVariants.{WholeNumbers}
use Rattle.stim_parser.specs.Limits.{has_wrong_arguments}
use Rattle.stim_parser.specs.Numbers.{whole_value}
use Rattle.stim_parser.specs.Arguments.{arguments_in}
use Rattle.stim_parser.proofs.WholeNumberLemmas.{any-beyond}
use Rattle.stim_parser.proofs.judge.whole_numbers_in.Goals as goal

pub returns-then-put_whole_numbers : goal.returns-then-put_whole_numbers
returns-then-put_whole_numbers c =
    let read = MatchBool-at_true _ (has_wrong_arguments WholeNumbers (arguments_in c.args.text.now) ≡ true) c.if-put_whole_numbers.true c.put_whole_numbers.ensures in (
      c.are_beyond.ensures
          ∙ ap (λ (numbers : List ℤ). list_any (λ number. nat_lt c.args.greatest (nat_abs number)) numbers) (c.as_slice.ensures.value ∙ read.1)
          ∙ any-beyond c.args.greatest (arguments_in c.args.text.now),
      read.0,
    )

pub returns-else-put_whole_numbers : goal.returns-else-put_whole_numbers
returns-else-put_whole_numbers c =
    MatchBool-at_false ((has_wrong_arguments WholeNumbers (arguments_in c.args.text.now) ≡ false) × (c.put_whole_numbers.new.found.items ≡ map whole_value (arguments_in c.args.text.now))) _ c.if-put_whole_numbers.false c.put_whole_numbers.ensures
