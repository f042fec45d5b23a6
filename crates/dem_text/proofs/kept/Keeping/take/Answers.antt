use Rattle.std.proofs.Common.{◌≡◌, ◌++◌, ◌∷◌, [], List, ℤ, ap, subst, sym, ◌∙◌, length}
use Rattle.std.proofs.lemmas.Result.{IfOk-weaker}
use Rattle.stim_lexer.specs.Said.{reading_in}
use Rattle.stim_lexer.specs.Unfinished.{Unfinished, after_line}
use Rattle.dem_text.specs.declared.brief.Brief.{Brief}
use Rattle.dem_text.specs.Verdicts.{Instruction}
use Rattle.dem_text.specs.private.Keeping.{AreKept}
use Rattle.dem_text.proofs.KeepingLemmas.{not-refused, said-push}
use Rattle.dem_text.proofs.kept.Keeping.take.Goals as goal

pub returns : goal.returns
returns g c =
    let old = c.args.self.now in
    let reading = reading_in c.args.line c.args.said c.args.targets.now in
    let text' = after_line c.args.line reading old.builder.text in
    let briefs = old.briefs.items ++ c.known_in-brief.result ∷ [] in
    let stated = old.stated ++ c.known_in-brief.new.stated.items ∷ [] in
    let kept : AreKept text'.items briefs stated =
    said-push c.args.line (length old.builder.text.opened) reading old.builder.text.items old.briefs.items old.stated c.known_in-brief.result c.known_in-brief.new.stated.items c.requires.kept
    c.known_in-brief.ensures (not-refused c.args.line c.args.said c.args.targets.now (λ d e. c.in_default.not-Refuses d e)) in
    let bs : c.push.new.self.items ≡ briefs = c.in_ok-push.ensures.items in
    let ns : c.push-2.new.self ≡ stated = c.in_ok-push-2.ensures.ok ∙ ap (λ (l : List ℤ). old.stated ++ l ∷ []) c.as_slice.ensures.value in
    record {
      refused = c.take.ensures.refused;
      after = c.take.ensures.after;
      kept = IfOk-weaker c.take.result _ _
          (λ refused after.
          subst (λ (u : Unfinished Instruction). AreKept u.items c.push.new.self.items c.push-2.new.self) (sym after)
          (subst (λ (l : List (List ℤ)). AreKept text'.items c.push.new.self.items l) (sym ns) (subst (λ (l : List Brief). AreKept text'.items l stated) (sym bs) kept)))
          c.take.ensures.after;
    }
