use Rattle.std.proofs.Common.{◌≡◌, ◌+◌, ◌*◌, ◌∙◌, sym, ap, drop, get_or, arith}
use Rattle.std.specs.Prelude.{fold, min}
use Rattle.std.proofs.lemmas.List.{at_drop_more}
use Rattle.stim_parser.proofs.DigitLemmas.{next_value, min-fold, min-twice}
use Rattle.stim_parser.proofs.digits.value_of.Goals as goal

pub loop-digit-preserved : goal.loop-digit-preserved
loop-digit-preserved c =
    let digits = c.args.digits.now in
    let i = c.loop-digit.digit-index in
    let rest = drop (i + 1) digits in
    let next = next_value c.loop-digit.value (get_or digits i 0) in
    let value : c.min-value.result ≡ min next 1_000_000_000_000_000_000 =
    c.min-value.ensures ∙ ap (λ k. min (10 * c.loop-digit.value + k) 1_000_000_000_000_000_000) c.saturating_sub.ensures in
    record {
      value = ap (λ v. min (fold next_value v rest) 1_000_000_000_000_000_000) value
          ∙ (min-fold rest (min next 1_000_000_000_000_000_000) next 1_000_000_000_000_000_000 (min-twice next 1_000_000_000_000_000_000)
          ∙ (ap (λ v. min v 1_000_000_000_000_000_000) (sym (at_drop_more (fold next_value c.loop-digit.value) digits i 0 (omega arith)))
          ∙ c.loop-digit.invariant.value));
      small = omega (arith, value);
    }
