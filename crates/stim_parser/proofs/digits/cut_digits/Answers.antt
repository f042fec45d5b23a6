use Rattle.std.proofs.Common.{◌≡◌, ap, ◌∙◌, length, take}
use Rattle.std.specs.Prelude.{unwrap_or}
use Rattle.std.specs.Char.{is_ascii_digit}
use Rattle.std.specs.List.{list_all, prefix_len}
use Rattle.stim_parser.proofs.DigitLemmas.{digits_end, front_digits-all}
use Rattle.stim_parser.proofs.digits.cut_digits.Goals as goal

pub returns-clause-digits : goal.returns-clause-digits
returns-clause-digits c =
    let text = c.args.text.now in
    let place : c.unwrap_or-place.result ≡ prefix_len is_ascii_digit text =
    c.unwrap_or-place.ensures ∙ (ap (λ o. unwrap_or o (length text)) c.place_after_digits.ensures ∙ digits_end text) in
    ap (list_all is_ascii_digit) (c.split_at.ensures.front ∙ ap (λ n. take n text) place) ∙ front_digits-all text
