use Rattle.std.proofs.Common.{◌≡◌, Bool, neg_ℤ, pos, if◌then◌else◌, sym, ap, ◌∙◌, arith}
use Rattle.std.proofs.lemmas.Int.{ints}
use Rattle.stim_parser.specs.Numbers.{number_of, whole_value}
use Rattle.stim_parser.proofs.WholeNumberLemmas.{not_whole, whole, whole-small, whole-value}
use Rattle.stim_parser.proofs.whole_numbers.whole_number_of.Goals as goal

pub signed-requires : goal.signed-requires
signed-requires c =
    whole-small c.args.text.now c.in-Some.magnitude (sym c.in-Some.is ∙ (c.number_of.ensures ∙ ap number_of c.without_minus.ensures))

pub returns-in-Some : goal.returns-in-Some
returns-in-Some c =
    let read = sym c.in-Some.is ∙ (c.number_of.ensures ∙ ap number_of c.without_minus.ensures) in
    let value : c.signed.result ≡ whole_value c.args.text.now =
    c.signed.ensures
    ∙ ap (λ (b : Bool). if b then neg_ℤ (pos c.in-Some.magnitude) else pos c.in-Some.magnitude) c.has_minus.ensures
    ∙ whole-value c.args.text.now c.in-Some.magnitude read in (
      (whole c.args.text.now c.in-Some.magnitude read).0,
      omega (arith, ints, value),
    )

pub returns-in-None : goal.returns-in-None
returns-in-None c =
    not_whole c.args.text.now (sym c.in-None.is ∙ (c.number_of.ensures ∙ ap number_of c.without_minus.ensures))
