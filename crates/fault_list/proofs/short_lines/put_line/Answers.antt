use Rattle.std.proofs.Common.{◌≤◌, List, ◌++◌, take, refl, sym, ap, ◌∙◌, append_assoc, arith}
use Rattle.std.specs.Prelude.{codes, decimal}
use Rattle.step_model.specs.Chances.{chance_at}
use Rattle.step_model.specs.Listing.{effect_at}
use Rattle.step_model.specs.declared.chances.ChanceText.{ChanceText}
use Rattle.fault_list.specs.FaultLines.{effect_text}
use Rattle.fault_list.proofs.PutLemmas.{before_kept, kept_before, line_put}
use Rattle.fault_list.proofs.short_lines.put_line.Goals as goal

pub returns-in_err-end-2-clause-kept : goal.returns-in_err-end-2-clause-kept
returns-in_err-end-2-clause-kept g c =
    let at = c.args.at in
    let number = c.put-end.result in
    let first = before_kept number c.in_ok-end.end c.put.new.buffer c.put-end.new.buffer _ c.in_ok-end.ensures.from (omega (arith, c.put-end.auto.buffer, c.put-end.ensures.within, c.requires.room)) c.in_ok-end.ensures.put.written in
    let after : at ≤ c.in_ok-end.end = omega (arith, c.put-end.ensures.from, c.in_ok-end.ensures.from) in
    λ none. kept_before at c.in_ok-end.end _ c.put.new.buffer after (c.in_err-end-2.ensures.put.kept refl)
    ∙ before_kept at number c.put.new.buffer c.args.buffer.now (decimal c.args.fault.number) c.put-end.ensures.from (omega (arith, c.requires.room)) (first ∙ c.put-end.ensures.written)

pub returns-clause-pushed : goal.returns-clause-pushed
returns-clause-pushed g c =
    let program = c.args.program.now.listing in
    let number = c.args.fault.number in
    let before = take c.args.at c.args.buffer.now in
    let effect = effect_text program.qubits (effect_at program number) in
    let text = ap (λ (cs : List ChanceText). (chance_at cs c.args.fault.chance).text) c.requires.texts in
    let word = c.in_ok-end-2.ensures.put.pushed in
    let ended = ap (λ l. word.gone ++ l) c.put_byte.ensures.written ∙ sym (append_assoc word.gone _ (codes "\n")) in
    record {
      gone = word.gone;
      pushes = word.pushes;
      rest = line_put before (decimal number) effect c.put-end.ensures.written c.in_ok-end.ensures.put.written word.rest ended (text ∙ c.requires.fault.text);
    }
