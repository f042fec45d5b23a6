use Rattle.std.proofs.Common.{◌≡◌, ◌<◌, ◌++◌, length, ap, ap₂, subst, sym, ◌∙◌, arith, append-nil}
use Rattle.std.specs.Prelude.{OnOk, []}
use Rattle.error_models.specs.ErrorLines.{text_at}
use Rattle.error_models.specs.ModelText.{line_text}
use Rattle.error_models.specs.private.TargetNames.{reversed_where}
use Rattle.error_models.proofs.ErrorLineLemmas.{text_at-get_or, line_from}
use Rattle.error_models.proofs.HeldTextLemmas.{put_before}
use Rattle.error_models.proofs.lines_text.LinesText.put_either_line.Goals as goal

pub returns-then-text-gt-SHORT_TEXT-clause-ok : goal.returns-then-text-gt-SHORT_TEXT-clause-ok
returns-then-text-gt-SHORT_TEXT-clause-ok g c =
    let held = c.args.self.now in
    let number = c.args.number in
    let texts = c.self.inside.texts.items in
    let within : number < length texts = omega (arith, c.requires.number, ap (λ h. length h.texts) c.self.view_is) in
    let kept : c.text-text.result.now ≡ text_at held.texts number =
    c.text-text.ensures
    ∙ (c.index-text.ensures
    ∙ (sym (text_at-get_or texts number c.index-text.result.now within)
    ∙ ap (λ h. text_at h.texts number) c.self.view_is)) in
    subst (λ text. OnOk c.put_long_line.result (c.put_long_line.new.self.text ≡ line_text held.detectors (line_from text (reversed_where c.args.reversed c.args.targets.now)) ++ held.text)) kept c.put_long_line.ensures.ok

pub returns-clause-ok : goal.returns-clause-ok
returns-clause-ok g c =
    let held = c.args.self.now in
    let number = c.args.number in
    let texts = c.self.inside.texts.items in
    let within : number < length texts = omega (arith, c.requires.number, ap (λ h. length h.texts) c.self.view_is) in
    let kept : c.index-text.result.now ≡ text_at held.texts number =
    c.index-text.ensures
    ∙ (sym (text_at-get_or texts number c.index-text.result.now within)
    ∙ ap (λ h. text_at h.texts number) c.self.view_is) in
    let line = line_text held.detectors (line_from (text_at held.texts number) (reversed_where c.args.reversed c.args.targets.now)) in
    put_before line [] held.text line c.make_room.new.block.text c.make_room.new.self c.put_line.new.self.text
    (c.put_line.ensures ∙ ap₂ (λ h text. line_text h.detectors (line_from text (reversed_where c.args.reversed c.args.targets.now)) ++ c.make_room.new.block.text) c.self.view_is kept)
    (c.make_room.ensures.same ∙ ap (λ h. h.text) c.self.view_is)
    (append-nil line)

pub returns-clause-kept : goal.returns-clause-kept
returns-clause-kept g c =
    let line = line_text c.self.inside.names.detectors (line_from c.index-text.result.now (reversed_where c.args.reversed c.args.targets.now)) in (
      line,
      put_before line [] c.args.self.now.text line c.make_room.new.block.text c.make_room.new.self c.put_line.new.self.text
          c.put_line.ensures
          (c.make_room.ensures.same ∙ ap (λ h. h.text) c.self.view_is)
          (append-nil line),
    )
