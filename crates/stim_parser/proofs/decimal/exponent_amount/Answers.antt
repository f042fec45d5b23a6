use Rattle.std.proofs.Common.{◌≡◌, ◌∙◌, sym, ap, true, Some, arith, ℕ}
use Rattle.stim_parser.specs.Numbers.{is_number}
use Rattle.stim_parser.proofs.DigitLemmas.{exponent-small, exponent_amount-is, value_of-small}
use Rattle.stim_parser.proofs.decimal.exponent_amount.Goals as goal

pub returns-then-is_number-clause-value : goal.returns-then-is_number-clause-value
returns-then-is_number-clause-value c =
    let text = c.args.text.now in
    let number : is_number text ≡ true = sym c.is_number.ensures ∙ c.if-is_number.true in
    ap (λ (n : ℕ). Some (c.args.negative, n)) (c.value_of.ensures ∙ value_of-small text (exponent-small text c.if-text-le3.true number))
    ∙ sym (exponent_amount-is c.args.negative text c.if-text-le3.true number)

pub returns-then-is_number-clause-small : goal.returns-then-is_number-clause-small
returns-then-is_number-clause-small c =
    let text = c.args.text.now in
    let number : is_number text ≡ true = sym c.is_number.ensures ∙ c.if-is_number.true in
    omega (arith, c.value_of.ensures, exponent-small text c.if-text-le3.true number)
