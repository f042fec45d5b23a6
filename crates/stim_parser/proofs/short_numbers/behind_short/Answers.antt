use Rattle.std.proofs.Common.{◌≡◌, ◌<◌, ◌≤◌, ◌++◌, length, sym, ◌∙◌, arith}
use Rattle.std.proofs.lemmas.Bool.Decides.{nat_tests}
use Rattle.stim_parser.specs.Numbers.{without_minus}
use Rattle.stim_parser.proofs.ShortNumberLemmas.{begins-short}
use Rattle.stim_parser.proofs.short_numbers.behind_short.Goals as goal

pub returns : goal.returns
returns c =
    let digits = c.cut_digits.result.0.now in
    let behind : without_minus c.without_space.result.now ≡ digits ++ c.cut_digits.result.1.now = sym c.without_minus.ensures ∙ c.cut_digits.ensures.text in
    let some : 0 < length digits = grind (arith, nat_tests, c.is_empty.ensures, c.if-is_empty.false) in
    let few : length digits ≤ 9 = omega (arith, c.if-digits-gt-SHORT_DIGITS.false) in
    begins-short c.args.text.now c.without_space.result.now digits c.cut_digits.result.1.now c.without_space.ensures behind c.cut_digits.ensures.digits some few
