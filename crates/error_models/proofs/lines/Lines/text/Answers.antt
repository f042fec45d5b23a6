use Rattle.std.proofs.Common.{◌≡◌, ◌<◌, length, get_or, ap, sym, ◌∙◌, arith}
use Rattle.std.proofs.lemmas.List.{get_or_default}
use Rattle.error_models.specs.ErrorLines.{no_line, text_at}
use Rattle.error_models.proofs.ErrorLineLemmas.{length-lines_of, get_or-lines_of, text_at-get_or}
use Rattle.error_models.proofs.lines.Lines.text.Goals as goal

pub index-requires : goal.index-requires
index-requires g c =
    let same = length-lines_of c.self.inside.texts.items c.self.inside.numbers.items c.self.inside.targets c.self.invariant.counted in
    let counted = ap length c.self.view_is in
    omega (arith, same, counted, c.self.inside.numbers.ok.0, c.requires)

pub index-requires-2 : goal.index-requires-2
index-requires-2 g c =
    let numbers = c.self.inside.numbers.items in
    let same = length-lines_of c.self.inside.texts.items numbers c.self.inside.targets c.self.invariant.counted in
    let counted = ap length c.self.view_is in
    let within : c.args.line < length numbers = omega (arith, same, counted, c.requires) in
    let number : c.index.result.now ≡ get_or numbers c.args.line 0 = c.index.ensures ∙ get_or_default numbers c.args.line _ 0 within in
    let named = c.self.invariant.named c.args.line 0 within in
    omega (arith, named, c.self.inside.texts.ok.0, number)

pub returns : goal.returns
returns g c =
    let texts = c.self.inside.texts.items in
    let numbers = c.self.inside.numbers.items in
    let same = length-lines_of texts numbers c.self.inside.targets c.self.invariant.counted in
    let counted = ap length c.self.view_is in
    let within : c.args.line < length numbers = omega (arith, same, counted, c.requires) in
    let number : c.index.result.now ≡ get_or numbers c.args.line 0 = c.index.ensures ∙ get_or_default numbers c.args.line _ 0 within in
    let named = c.self.invariant.named c.args.line 0 within in
    c.index-2.ensures
    ∙ (sym (text_at-get_or texts c.index.result.now c.index-2.result.now (omega (arith, named, number)))
    ∙ (ap (text_at texts) number
    ∙ (sym (ap (λ l. l.text) (get_or-lines_of texts numbers c.self.inside.targets c.args.line 0 c.self.invariant.counted within))
    ∙ ap (λ ls. (get_or ls c.args.line no_line).text) c.self.view_is)))
