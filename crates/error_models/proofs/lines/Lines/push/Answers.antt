use Rattle.std.proofs.Common.{◌<◌, ◌++◌, ◌∷◌, [], length, ap, ap₂, subst, sym, ◌∙◌}
use Rattle.std.specs.Prelude.{All}
use Rattle.std.proofs.lemmas.List.Elements.{All-push}
use Rattle.error_models.specs.ErrorLines.{lines_of}
use Rattle.error_models.proofs.ErrorLineLemmas.{lines_of-push, lines_of-kept, named_kept, counted_pushed, line_from, on_err_any}
use Rattle.error_models.proofs.lines.Lines.push.Goals as goal

pub returns-in_err-number-clause-err : goal.returns-in_err-number-clause-err
returns-in_err-number-clause-err g c =
    on_err_any _
    (lines_of-kept c.self.inside.texts.items c.number_of.new.texts.items c.self.inside.numbers.items c.self.inside.targets c.number_of.ensures.kept c.self.invariant.named
    ∙ c.self.view_is)

pub returns-in_err-reserve-clause-err : goal.returns-in_err-reserve-clause-err
returns-in_err-reserve-clause-err g c =
    let new = c.number_of.new.texts.items in
    on_err_any _
    (ap (λ ns. lines_of new ns c.self.inside.targets) c.reserve.ensures.items
    ∙ (lines_of-kept c.self.inside.texts.items new c.self.inside.numbers.items c.self.inside.targets c.number_of.ensures.kept c.self.invariant.named
    ∙ c.self.view_is))

pub returns-in_err-push-clause-err : goal.returns-in_err-push-clause-err
returns-in_err-push-clause-err g c =
    let new = c.number_of.new.texts.items in
    on_err_any _
    (ap₂ (lines_of new) c.reserve.ensures.items c.in_err-push.ensures.err
    ∙ (lines_of-kept c.self.inside.texts.items new c.self.inside.numbers.items c.self.inside.targets c.number_of.ensures.kept c.self.invariant.named
    ∙ c.self.view_is))

pub invariant_of-self-2 : goal.invariant_of-self-2
invariant_of-self-2 g c =
    let old = c.self.inside.texts.items in
    let new = c.number_of.new.texts.items in
    let numbers = c.self.inside.numbers.items in
    let targets = c.self.inside.targets in
    let number = c.in_ok-number.number in
    let is_numbers = c.push_reserved.ensures.items ∙ ap (λ ns. ns ++ number ∷ []) c.reserve.ensures.items in
    record {
      counted = ap length is_numbers ∙ (counted_pushed numbers targets number c.args.targets.now c.self.invariant.counted ∙ sym (ap length c.in_ok-push.ensures.ok));
      named =
          subst (All (λ n. n < length new)) (sym is_numbers)
          (All-push (λ n. n < length new) numbers number (named_kept old new numbers c.number_of.ensures.kept c.self.invariant.named) c.in_ok-number.ensures.within);
    }

pub returns-clause-ok : goal.returns-clause-ok
returns-clause-ok g c =
    let new = c.number_of.new.texts.items in
    let numbers = c.self.inside.numbers.items in
    let targets = c.self.inside.targets in
    let number = c.in_ok-number.number in
    let kept = lines_of-kept c.self.inside.texts.items new numbers targets c.number_of.ensures.kept c.self.invariant.named in
    ap₂ (lines_of new) (c.push_reserved.ensures.items ∙ ap (λ ns. ns ++ number ∷ []) c.reserve.ensures.items) c.in_ok-push.ensures.ok
    ∙ (lines_of-push new numbers targets number c.args.targets.now c.self.invariant.counted
    ∙ ap₂ (λ ls text. ls ++ line_from text c.args.targets.now ∷ []) (kept ∙ c.self.view_is) c.in_ok-number.ensures.named)
